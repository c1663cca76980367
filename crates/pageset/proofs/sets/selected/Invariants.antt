-- What the windows passed left of their masks stands in the new set; with what the windows to come will leave it is what they all leave.
-- Assumes nothing.
use Rattle.pageset.proofs.RangeLaws.{side_mask}
use Rattle.pageset.proofs.MaskLaws.{Walked}
use Rattle.pageset.proofs.sets.selected.Given as goal

abbrev pub invariant-loop-w : goal.invariant-loop-w
invariant-loop-w l = Walked (side_mask l.inside l.lo l.hi) l.w-items l.w-index (record { len = l.len; windows = l.windows })
