-- The invariant: the whole test is that of the rows from i on, so a row that is not in form or the end of the rows decides.
use Rattle.rows.proofs.Checks.{Left}
use Rattle.rows.proofs.formed.Given as goal

abbrev pub invariant-loop-i : goal.invariant-loop-i
invariant-loop-i g l = Left g.K.Kind.form g.K.Kind.table g.K.Kind.SIZE l.t l.i
