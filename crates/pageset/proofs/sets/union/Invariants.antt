-- The invariant is `Merging` of the two sets by `bit_or`: up to a bound the set under way has the joined masks, and from there on what is left of
-- the two is all that they have. Each turn moves at least one of the two places on, so the measure is the windows left of both. Where 32 windows
-- are made and one is left, the pages need over 32. Assumes nothing.
use Rattle.std.proofs.Common.{◌+◌, ◌-◌}
use lib.Bits.{bit_or}
use Rattle.pageset.proofs.MergeLaws.{Merging}
use Rattle.pageset.proofs.sets.union.Given as goal

abbrev pub invariant-loop-i : goal.invariant-loop-i
invariant-loop-i l = Merging bit_or l.a l.b l.i l.k l.set

abbrev pub decreases-loop-i : goal.decreases-loop-i
decreases-loop-i l = (l.a.len + l.b.len) - (l.i + l.k)
