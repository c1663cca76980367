-- `octets::move_up` meets its contract: a copy within the slice, or block by block.
use Rattle.std.proofs.Common.{◌+◌, ◌-◌, ◌≡◌, arith, ◌∙◌, refl}
use Rattle.octets.proofs.Places.{paste_put, moved_none, moved_block, moved_last}
use Rattle.octets.proofs.move_up.Goals as goal

pub returns-then-by-lt-FAR : goal.returns-then-by-lt-FAR
returns-then-by-lt-FAR c =
    let a = c.args in
    let n : a.at + a.n - a.at ≡ a.n = omega arith in
    (rw n at c.copy_within.ensures.after) ∙ paste_put a.at (a.at + a.by) a.n a.s.now (omega arith)

pub loop-left-init : goal.loop-left-init
loop-left-init c =
    let a = c.args in
    record { few = omega arith; size = refl; gone = moved_none a.at a.by a.n a.s.now }

pub loop-left-preserved : goal.loop-left-preserved
loop-left-preserved c =
    let l = c.loop-left in
    let a = c.args in
    record {
      few = omega arith;
      size = omega (arith, l.invariant.size, c.copy_up.auto.s);
      gone = moved_block a.s.now l.s _ a.at a.by a.n l.left a.by (omega arith) (omega arith) l.invariant.few (omega arith) l.invariant.gone c.copy_up.ensures;
    }

pub returns : goal.returns
returns c =
    let l = c.loop-left in
    let a = c.args in
    moved_last a.s.now l.s _ a.at a.by a.n l.left (omega arith) l.invariant.few (omega arith) l.invariant.gone c.copy_up-2.ensures
