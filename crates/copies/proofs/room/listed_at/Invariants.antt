-- The invariant: whether it is among those from here on is whether it is among all.
use Rattle.std.proofs.Common.{◌≡◌, ◌+◌, ◌-◌, ◌*◌, eqb}
use Rattle.rules.specs.Lists.{any}
use Rattle.commitbytes.specs.Laid.{lsns_at}
use Rattle.copies.proofs.room.listed_at.Given as goal

abbrev pub invariant-loop-i : goal.invariant-loop-i
invariant-loop-i l = any (eqb l.lsn) (lsns_at (l.n - l.i) (l.at + l.i * 8) l.s) ≡ any (eqb l.lsn) (lsns_at l.n l.at l.s)
