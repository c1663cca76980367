-- The LSNs are tested, and then the log. Assumes nothing.
use Rattle.std.proofs.Common.{arith, eq-eqb, ne_eqb}
use Rattle.volume.proofs.snapshot.LogRange.is_zero.Goals as goal

pub returns-then-self-ne0 : goal.returns-then-self-ne0
returns-then-self-ne0 c = rw (ne_eqb _ _ c.if-self-ne0.true)

pub returns-then-self-ne0-2 : goal.returns-then-self-ne0-2
returns-then-self-ne0-2 c = rw (eq-eqb c.args.self.start.0 0 (omega arith), ne_eqb c.args.self.end.0 0 c.if-self-ne0-2.true)

pub returns : goal.returns
returns c =
    rw (eq-eqb c.args.self.start.0 0 (omega arith), eq-eqb c.args.self.end.0 0 (omega arith)) c.same.ensures
