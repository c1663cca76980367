-- What is left to store, stored behind the LSNs passed, gives the whole array stored. Assumes nothing.
use Rattle.std.proofs.Common.{◌≡◌, ◌+◌, ◌*◌, length, drop}
use Rattle.octets.specs.Bytes.{put}
use Rattle.octets.specs.Flat.{flat}
use Rattle.commitbytes.proofs.LsnLaws.{lsn_spell}
use Rattle.commitbytes.proofs.lsns.all_write.Given as goal

abbrev pub invariant-loop-i : goal.invariant-loop-i
invariant-loop-i l = (length l.s ≡ length l.initial.s) × (put (l.at + 8 * l.i) (flat lsn_spell (drop l.i l.lsn-items)) l.s ≡ put l.at (flat lsn_spell l.lsn-items) l.initial.s)
