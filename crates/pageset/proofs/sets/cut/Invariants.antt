-- The invariant is `Merging` of the two sets twice, by `bit_and` into the common pages and by `and_not` into what is left of the left set. Each
-- turn moves at least one of the two places on; a window is made only where one of the left set is done, so neither set overflows. The measure
-- is the windows left of both. Assumes nothing.
use Rattle.std.proofs.Common.{◌+◌, ◌-◌, ◌≤◌}
use lib.Bits.{bit_and}
use Rattle.pageset.proofs.MergeLaws.{Merging}
use Rattle.pageset.proofs.JoinLaws.{and_not}
use Rattle.pageset.proofs.sets.cut.Given as goal

abbrev pub invariant-loop-i : goal.invariant-loop-i
invariant-loop-i l = record {
  few_common : l.met ≤ l.i;
  few_left : l.kept ≤ l.i;
  common : Merging bit_and l.a l.b l.i l.k (record { len = l.met; windows = l.commons });
  left : Merging and_not l.a l.b l.i l.k (record { len = l.kept; windows = l.lefts });
}

abbrev pub decreases-loop-i : goal.decreases-loop-i
decreases-loop-i l = (l.a.len + l.b.len) - (l.i + l.k)
