-- The three ways out are the rule read at LSN 0, at the first LSN and at any other. Assumes nothing.
use Rattle.basics.proofs.NumberLaws.{prev_zero, prev_first, prev_some}
use Rattle.basics.proofs.lsn.Lsn.checked_prev.Goals as goal

pub returns-then-n-eq0 : goal.returns-then-n-eq0
returns-then-n-eq0 c = prev_zero _ c.if-n-eq0.true

pub returns-then-n-eq1 : goal.returns-then-n-eq1
returns-then-n-eq1 c = prev_first _ c.if-n-eq1.true

pub returns : goal.returns
returns c = prev_some _ c.if-n-eq0.false c.if-n-eq1.false
