-- The frames passed were in the domain, so what is left decides: the last pages rise from the page after the one before, and the sizes fit what
-- is left of 2^64-1. Assumes nothing.
use Rattle.std.proofs.Common.{◌≡◌, ◌+◌, map, take, drop}
use Rattle.commit.specs.Says.{frame_says}
use Rattle.frames.proofs.FrameLaws.{domain}
use Rattle.frames.proofs.in_domain.Given as goal

abbrev pub invariant-loop-i : goal.invariant-loop-i
invariant-loop-i l =
    (domain (l.below + 1) l.room (drop l.i (map frame_says (take l.n l.fs))) ≡ domain (l.initial.below + 1) l.initial.room (map frame_says (take l.n l.fs)))
