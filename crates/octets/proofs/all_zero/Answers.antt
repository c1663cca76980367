-- `octets::all_zero` meets its contract: the bits of the part's bytes together are none.
use Rattle.std.proofs.Common.{rules, ◌≡◌, ◌∙◌, ap}
use Rattle.std.proofs.Common.{fold, bit_or}
use Prim.Native.Nat.{ℕ}
use lib.Dec.{eqb}
use Rattle.octets.specs.Bytes.{part}
use Rattle.octets.proofs.Turns.{bits_none}
use Rattle.octets.proofs.all_zero.Goals as goal

pub returns : goal.returns
unfolding part
returns c =
    let a = c.args in
    let e : c.fold.result ≡ fold bit_or 0 (part a.at a.n a.s.now) = search rules in
    ap (λ (n : ℕ). eqb n 0) e ∙ bits_none 0 (part a.at a.n a.s.now)
