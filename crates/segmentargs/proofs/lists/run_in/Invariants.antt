-- The walk goes over the frames before frame k: what is left of the parts is what the frames that are left make (`Reached`). Assumes nothing.
use Rattle.std.proofs.Common.{◌+◌}
use Rattle.segmentargs.specs.Lists.{segment_in}
use Rattle.segmentargs.proofs.ListLaws.{Reached}
use Rattle.segmentargs.proofs.lists.run_in.Given as goal

abbrev pub invariant-loop-i : goal.invariant-loop-i
invariant-loop-i l = Reached (segment_in l.at l.b) l.i l.start (l.below + 1)
