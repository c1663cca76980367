-- The frames passed were zero, so the test of what is left is the test of them all. Assumes nothing.
use Rattle.std.proofs.Common.{◌≡◌, drop}
use Rattle.frames.specs.Rules.{no_frames}
use Rattle.frames.proofs.clear_past.Given as goal

abbrev pub invariant-loop-i : goal.invariant-loop-i
invariant-loop-i l = no_frames (drop l.i l.fs) ≡ no_frames (drop l.fn.s.len l.fs)
