-- The array holds the frames passed, and zeros past them. Assumes nothing.
use Rattle.std.proofs.Common.{◌≡◌, ◌+◌, ◌*◌, ◌++◌, length, drop}
use Rattle.octets.specs.Bytes.{part}
use Rattle.octets.specs.Tab.{tab}
use Rattle.commit.specs.Builders.{zero_frames}
use Rattle.layout.specs.Values.{frame_bytes}
use Rattle.segmentbytes.specs.Laid.{frame_laid}
use Rattle.segmentbytes.proofs.frames.frames_read.Given as goal

abbrev pub invariant-loop-i : goal.invariant-loop-i
invariant-loop-i l = (length l.fs ≡ 16) × (l.fs ≡ tab (λ k. frame_laid (frame_bytes.read (part (l.at + 1 + k * 12) 12 l.s))) l.i ++ drop l.i zero_frames)
