-- `octets::copy_up` meets its contract: the bytes lie before the place where the slice is split, so that the part behind it takes them as they were.
use Rattle.std.proofs.Common.{◌+◌, List, ℕ, ◌++◌, drop, arith, ap, ◌∙◌}
use Rattle.octets.proofs.Places.{part_slice, put_apart}
use Rattle.octets.proofs.copy_up.Goals as goal

pub returns : goal.returns
returns c =
    let a = c.args in
    let p = c.split_at_mut-low in
    ap (λ (x : List ℕ). p.result.0.now ++ (x ++ drop a.n p.result.1.now)) (c.copy_from_slice.ensures.after ∙ part_slice a.at (a.at + a.n) a.n p.result.0.now (omega arith))
    ∙ put_apart a.at a.by a.n a.s.now p.result.0.now p.result.1.now (omega arith) (omega arith) p.ensures.front p.ensures.back
