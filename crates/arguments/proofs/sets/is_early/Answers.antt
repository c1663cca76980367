-- The two tests of the definition, in its order. Assumes nothing.
use Rattle.std.proofs.Common.{ne_eqb}
use Rattle.arguments.proofs.sets.is_early.Goals as goal

pub returns-then-code-eq0 : goal.returns-then-code-eq0
returns-then-code-eq0 c = rw c.if-code-eq0.true

pub returns : goal.returns
returns c = rw (ne_eqb c.args.code 0 c.if-code-eq0.false)
