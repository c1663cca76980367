-- The invariant: the first i ranges stand at their places, and the rest is as it was.
use Rattle.std.specs.Prelude.{◌≡◌, length}
use Rattle.snapshotbytes.proofs.Writing.{Written}
use Rattle.snapshotbytes.proofs.path_write.Given as goal

abbrev pub invariant-loop-i : goal.invariant-loop-i
invariant-loop-i l = (length l.s ≡ length l.initial.s) × Written l.at l.range-items l.initial.s l.i l.s
