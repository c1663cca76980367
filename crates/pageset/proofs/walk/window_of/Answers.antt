-- The test picks the case. Assumes nothing.
use Rattle.std.proofs.Common.{eq-eqb, ne_eqb}
use Rattle.pageset.proofs.walk.window_of.Goals as goal

pub returns-then-m-eq0 : goal.returns-then-m-eq0
returns-then-m-eq0 c = rw (eq-eqb _ _ c.if-m-eq0.true)

pub returns-else-m-eq0 : goal.returns-else-m-eq0
returns-else-m-eq0 c = rw (ne_eqb _ _ c.if-m-eq0.false)
