-- The test picks the case. Assumes nothing.
use Rattle.std.proofs.Common.{le-ltb, lt-ltb}
use Rattle.pageset.proofs.walk.head.Goals as goal

pub returns-then-i-n : goal.returns-then-i-n
returns-then-i-n c = rw (lt-ltb _ _ c.if-i-n.true)

pub returns-else-i-n : goal.returns-else-i-n
returns-else-i-n c = rw (le-ltb _ _ c.if-i-n.false)
