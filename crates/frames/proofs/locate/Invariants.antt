-- The frames passed end below the page, so the walk from here on finds what the whole walk finds; the sizes that are left fit. Assumes nothing.
use Rattle.std.proofs.Common.{◌≡◌, ◌+◌, ◌<◌, ◌≤◌, map, take, drop}
use Rattle.rules.specs.Forms.{total}
use Rattle.commit.specs.Says.{frame_says}
use Rattle.frames.proofs.PlaceLaws.{run_at}
use Rattle.frames.proofs.locate.Given as goal

abbrev pub invariant-loop-i : goal.invariant-loop-i
invariant-loop-i l =
    (l.below < l.p) × (l.start + total (drop l.i (map frame_says (take l.n l.fs))) ≤ 18446744073709551615)
    × (run_at l.p l.start (l.below + 1) (drop l.i (map frame_says (take l.n l.fs))) ≡ run_at l.p 0 (l.initial.below + 1) (map frame_says (take l.n l.fs)))
