-- The LSNs passed were not 0, so what is left decides. Assumes nothing.
use Rattle.std.proofs.Common.{◌≡◌, drop}
use Rattle.basics.specs.Numbers.{counts}
use Rattle.rules.specs.Lists.{all}
use Rattle.commitbytes.specs.Laid.{lsns_at}
use Rattle.commitbytes.proofs.lsns.none_zero.Given as goal

abbrev pub invariant-loop-i : goal.invariant-loop-i
invariant-loop-i l = all counts (drop l.i (lsns_at l.n l.at l.s)) ≡ all counts (lsns_at l.n l.at l.s)
