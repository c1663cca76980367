-- The two ways out are the rule read at page 0 and at any other page. Assumes nothing.
use native.Mathlib.Omega.{arith}
use Rattle.basics.specs.Numbers.{last_page}
use Rattle.basics.proofs.NumberLaws.{next_page_zero, next_page_lem}
use Rattle.basics.proofs.pageidx.PageIdx.saturating_next.Goals as goal

pub returns-then-p-eq0 : goal.returns-then-p-eq0
returns-then-p-eq0 c = next_page_zero _ c.if-p-eq0.true

pub returns : goal.returns
unfolding last_page
returns c = next_page_lem _ _ c.if-p-eq0.false (omega arith)
