-- What is done of the masks, with what the windows that are left make of the rest, is what all windows make of all masks. The lower first window of the two sets is passed; two of one index take the one's pages
-- from the other's mask. The measure is the windows that are left of both.
use Prim.Native.Nat.{◌+◌, ◌-◌, ◌≤◌}
use mathlib.Core.Path.{◌≡◌}
use lib.ListN.{length}
use Rattle.setbytes.specs.Laid.{windows_at}
use Rattle.masks.specs.Masks.{less_masks}
use Rattle.masks.proofs.MaskLaws.{less_from}
use Rattle.masks.proofs.less.Given as goal

abbrev pub invariant-loop-i : goal.invariant-loop-i
invariant-loop-i l =
    (l.i ≤ l.n) × (l.j ≤ l.m) × (length l.masks ≡ 32) × (less_from (windows_at l.n l.at l.s) (windows_at l.m l.other l.s) l.i l.j l.masks ≡ less_masks (windows_at l.n l.at l.s) (windows_at l.m l.other l.s) l.initial.masks)

abbrev pub decreases-loop-i : goal.decreases-loop-i
decreases-loop-i l = (l.n - l.i) + (l.m - l.j)
