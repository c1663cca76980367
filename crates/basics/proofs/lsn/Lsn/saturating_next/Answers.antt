-- The two ways out are the rule read at LSN 0 and at any other LSN. Assumes nothing.
use native.Mathlib.Omega.{arith}
use Rattle.basics.specs.Numbers.{last_lsn}
use Rattle.basics.proofs.NumberLaws.{next_or_zero, next_or}
use Rattle.basics.proofs.lsn.Lsn.saturating_next.Goals as goal

pub returns-then-n-eq0 : goal.returns-then-n-eq0
returns-then-n-eq0 c = next_or_zero _ c.if-n-eq0.true

pub returns : goal.returns
unfolding last_lsn
returns c = next_or _ _ c.if-n-eq0.false (omega arith)
