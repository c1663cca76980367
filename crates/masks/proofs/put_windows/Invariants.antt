-- Behind the windows that are written, what the rest give stands to be written; with it the list is what all of them give.
use Prim.Native.Nat.{◌+◌, ◌*◌, ◌≤◌}
use mathlib.Core.Path.{◌≡◌}
use lib.ListN.{length}
use Rattle.octets.specs.Bytes.{put}
use Rattle.setbytes.specs.Laid.{windows_at}
use Rattle.masks.specs.Masks.{given}
use Rattle.masks.proofs.PutLaws.{given_from, spelled}
use Rattle.masks.proofs.put_windows.Given as goal

abbrev pub invariant-loop-i : goal.invariant-loop-i
invariant-loop-i l =
    (l.w ≤ l.i) × (length l.list ≡ length l.initial.list) × (l.w + length (given_from l.n l.at l.s l.masks l.i) ≡ length (given (windows_at l.n l.at l.s) l.masks))
    × (put (l.to + l.w * 12) (spelled (given_from l.n l.at l.s l.masks l.i)) l.list ≡ put l.to (spelled (given (windows_at l.n l.at l.s) l.masks)) l.initial.list)
