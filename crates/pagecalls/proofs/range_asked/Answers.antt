-- The three tests, in their order. Assumes nothing.
use Rattle.pagecalls.proofs.CallLaws.{fault_left, fault_right, fault_order, fault_none}
use Rattle.pagecalls.proofs.range_asked.Goals as goal

pub returns-then-a-eq0 : goal.returns-then-a-eq0
returns-then-a-eq0 c = fault_left _ _ c.if-a-eq0.true

pub returns-then-b-eq0 : goal.returns-then-b-eq0
returns-then-b-eq0 c = fault_right _ _ c.if-b-eq0.true

pub returns-then-b-a : goal.returns-then-b-a
returns-then-b-a c = fault_order _ _ c.if-a-eq0.false c.if-b-eq0.false c.if-b-a.true

pub returns : goal.returns
returns c = fault_none _ _ c.if-a-eq0.false c.if-b-eq0.false c.if-b-a.false
