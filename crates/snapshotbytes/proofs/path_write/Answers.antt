-- The invariant: the first i ranges stand at their places, and the rest is as it was.
use borrow.Author.Rules.{rules}
use Rattle.std.specs.Prelude.{◌≡◌, length}
use mathlib.Core.Path.{refl}
use native.Mathlib.Omega.{arith}
use Rattle.snapshotbytes.proofs.Writing.{written_none, written_more, written_all}
use Rattle.snapshotbytes.proofs.path_write.Goals as goal

pub loop-i-init : goal.loop-i-init
loop-i-init c = (refl, written_none c.args.at c.args.path c.args.s.now)

pub loop-i-preserved : goal.loop-i-preserved
loop-i-preserved c =
    let a = c.args in
    let l = c.loop-i in
    (search rules, written_more a.at a.path a.s.now l.i l.s _ _ l.invariant.1 (omega arith) (omega arith) c.range_write.ensures.log_len c.range_write.ensures.s_after)

pub returns : goal.returns
returns c = let a = c.args in
    let n : length a.path ≡ 8 = search rules in
    let w = written_all a.at a.path a.s.now c.loop-i.i c.loop-i.s c.loop-i.invariant.1 n (omega arith) in record { s_after = w.bytes; path_len = w.long }
