-- The windows from that of lo up to below q are made, and hold just the pages of the range that stand there. Over 32 windows each of them would
-- hold a page. Assumes nothing.
use Rattle.pageset.proofs.RangeLaws.{Ranged}
use Rattle.pageset.proofs.sets.from_range.Given as goal

abbrev pub invariant-loop-q : goal.invariant-loop-q
invariant-loop-q l = Ranged l.lo l.hi l.q l.set
