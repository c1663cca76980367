-- The array holds the LSNs passed, and zeros past them. Assumes nothing.
use Rattle.std.proofs.Common.{◌≡◌, ◌+◌, ◌*◌, ◌++◌, length, drop}
use Rattle.octets.specs.Bytes.{be, part}
use Rattle.octets.specs.Tab.{tab}
use Rattle.commit.specs.Builders.{zero_lsns}
use Rattle.basics.specs.Says.{lsn_laid}
use Rattle.commitbytes.proofs.lsns.lsns_read.Given as goal

abbrev pub invariant-loop-i : goal.invariant-loop-i
invariant-loop-i l = (length l.ns ≡ 8) × (l.ns ≡ tab (λ k. lsn_laid (be (part (l.at + 1 + k * 8) 8 l.s))) l.i ++ drop l.i zero_lsns)
