-- The invariant: the record before is in form and `last` has its numbers, and what is left of the question is asked of those from it on.
use Rattle.entries.proofs.Pass.{Turn}
use Rattle.entries.proofs.rows_formed.Given as goal

abbrev pub invariant-loop-i : goal.invariant-loop-i
invariant-loop-i g l = Turn g.T.KeyTable.which l.s l.n l.i l.last
