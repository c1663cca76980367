-- The three ways out are the rule read at LSN 0, at the last LSN and at any other. Assumes nothing.
use native.Mathlib.Omega.{arith}
use Rattle.basics.specs.Numbers.{last_lsn}
use Rattle.basics.proofs.NumberLaws.{next_zero, next_last, next_some}
use Rattle.basics.proofs.lsn.Lsn.next.Goals as goal

pub returns-then-n-eq0 : goal.returns-then-n-eq0
returns-then-n-eq0 c = next_zero _ c.if-n-eq0.true

pub returns-then-n : goal.returns-then-n
unfolding last_lsn
returns-then-n c = next_last _ c.if-n.true

pub returns : goal.returns
unfolding last_lsn
returns c = next_some _ c.if-n-eq0.false (omega arith)
