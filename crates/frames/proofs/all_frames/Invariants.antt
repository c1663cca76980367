-- The places before i hold the frames passed, and those from i on are zero (`Walked`). Assumes nothing.
use Rattle.std.proofs.Common.{◌+◌, ◌≤◌}
use Rattle.rules.specs.Frames.{parts_of}
use Rattle.commit.specs.Says.{segment_says}
use Rattle.frames.proofs.ListLaws.{Walked}
use Rattle.frames.proofs.all_frames.Given as goal

abbrev pub invariant-loop-i : goal.invariant-loop-i
invariant-loop-i l = (l.n ≤ 16) × Walked l.s (parts_of (segment_says l.s)) l.i l.start (l.below + 1) l.frames
