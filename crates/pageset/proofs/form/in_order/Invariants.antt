-- The windows passed were in order, so the test of what is left is the test of them all; the first window that is not in order makes it
-- false. Assumes nothing.
use Rattle.std.proofs.Common.{◌≡◌, drop}
use Rattle.pageset.proofs.TestLaws.{in_order}
use Rattle.pageset.proofs.form.in_order.Given as goal

abbrev pub invariant-loop-w : goal.invariant-loop-w
invariant-loop-w l = in_order l.lo (drop l.w-index l.w-items) ≡ in_order 0 l.w-items
