-- The windows passed were in order, so the test of what is left is the test of them all; the first window that is not in order makes it false.
-- Assumes nothing.
use Rattle.std.proofs.Common.{◌≡◌, drop}
use Rattle.pageset.proofs.TestLaws.{in_order}
use Rattle.setbytes.specs.Laid.{windows_at}
use Rattle.setbytes.proofs.in_order.Given as goal

abbrev pub invariant-loop-i : goal.invariant-loop-i
invariant-loop-i l = in_order l.lo (drop l.i (windows_at l.n l.at l.s)) ≡ in_order 0 (windows_at l.n l.at l.s)
