-- The frames passed were in the domain, so what is left decides: the last pages rise from the page after the one before, and the sizes fit what
-- is left of 2^64-1. Assumes nothing.
use Rattle.std.proofs.Common.{◌≡◌, ◌+◌, drop}
use Rattle.segmentbytes.specs.Laid.{frames_at}
use Rattle.segmentbytes.specs.Domain.{domain}
use Rattle.segmentbytes.proofs.frames.in_domain.Given as goal

abbrev pub invariant-loop-i : goal.invariant-loop-i
invariant-loop-i l = domain (l.below + 1) l.room (drop l.i (frames_at l.n l.at l.s)) ≡ domain (l.initial.below + 1) l.initial.room (frames_at l.n l.at l.s)
