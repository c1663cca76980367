-- What is left to store, stored behind the frames passed, gives the whole array stored. Assumes nothing.
use Rattle.std.proofs.Common.{◌≡◌, ◌+◌, ◌*◌, length, drop}
use Rattle.octets.specs.Bytes.{put}
use Rattle.octets.specs.Flat.{flat}
use Rattle.segmentbytes.proofs.FrameLaws.{frame_spell}
use Rattle.segmentbytes.proofs.frames.all_write.Given as goal

abbrev pub invariant-loop-i : goal.invariant-loop-i
invariant-loop-i l = (length l.s ≡ length l.initial.s) × (put (l.at + 12 * l.i) (flat frame_spell (drop l.i l.f-items)) l.s ≡ put l.at (flat frame_spell l.f-items) l.initial.s)
