-- The head that is there is above the base or not, and so are the two last clauses of the rule. Assumes nothing.
use Rattle.rules.specs.Sync.{changed}
use Rattle.volume.proofs.ChangeLaws.{below, not_below}
use Rattle.volume.proofs.volume.changes_above.Goals as goal

pub returns-in_default : goal.returns-in_default
unfolding changed
returns-in_default c = cc

pub returns-then-b-h : goal.returns-then-b-h
returns-then-b-h c = rw c.in-Some.is (below _ _ c.if-b-h.true)

pub returns : goal.returns
returns c = rw c.in-Some.is (not_below _ _ c.if-b-h.false)
