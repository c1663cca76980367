-- The windows passed were in order, so the test of what is left is the test of them all; the first window that is not in order makes it
-- false. Assumes nothing.
use Rattle.std.proofs.Common.{sym, ◌∙◌, arith}
use Rattle.pageset.proofs.TestLaws.{order_low, order_high, order_empty, order_step, order_end}
use Rattle.pageset.proofs.form.in_order.Goals as goal

pub returns-then-w-lo : goal.returns-then-w-lo
returns-then-w-lo c = sym (order_low _ c.loop-w.w-index c.loop-w.lo (omega arith) c.if-w-lo.true) ∙ c.loop-w.invariant

pub returns-then-w-gt67108863 : goal.returns-then-w-gt67108863
returns-then-w-gt67108863 c = sym (order_high _ c.loop-w.w-index c.loop-w.lo (omega arith) (omega arith)) ∙ c.loop-w.invariant

pub returns-then-w-eq0 : goal.returns-then-w-eq0
returns-then-w-eq0 c = sym (order_empty _ c.loop-w.w-index c.loop-w.lo (omega arith) c.if-w-eq0.true) ∙ c.loop-w.invariant

pub loop-w-preserved : goal.loop-w-preserved
loop-w-preserved c = sym (order_step _ c.loop-w.w-index c.loop-w.lo (omega arith) (omega arith) (omega arith) (omega arith) (omega arith)) ∙ c.loop-w.invariant

pub returns : goal.returns
returns c = sym (order_end _ c.loop-w.w-index c.loop-w.lo (omega arith)) ∙ c.loop-w.invariant
