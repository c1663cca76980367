-- The two ways out are the rule read at LSN 0 and at any other LSN. Assumes nothing.
use native.Mathlib.Omega.{arith}
use Rattle.basics.proofs.NumberLaws.{prev_or_zero, prev_or}
use Rattle.basics.proofs.lsn.Lsn.saturating_prev.Goals as goal

pub returns-then-n-eq0 : goal.returns-then-n-eq0
returns-then-n-eq0 c = prev_or_zero _ c.if-n-eq0.true

pub returns : goal.returns
returns c = prev_or _ _ c.if-n-eq0.false (omega arith)
