-- What is left to store, stored behind the windows passed, gives the whole array stored. Assumes nothing.
use Rattle.std.proofs.Common.{◌≡◌, ◌+◌, ◌*◌, length, drop}
use Rattle.octets.specs.Bytes.{put}
use Rattle.octets.specs.Flat.{flat}
use Rattle.layout.specs.Values.{window_bytes}
use Rattle.setbytes.proofs.windows_write.Given as goal

abbrev pub invariant-loop-i : goal.invariant-loop-i
invariant-loop-i l =
    (length l.s ≡ length l.initial.s) × (put (l.at + 12 * l.i) (flat window_bytes.spell (drop l.i l.w-items)) l.s ≡ put l.at (flat window_bytes.spell l.w-items) l.initial.s)
