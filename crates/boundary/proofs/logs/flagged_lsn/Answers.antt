-- The flag is tested as the definition tests it. Assumes nothing.
use Rattle.std.proofs.Common.{refl}
use Rattle.octets.specs.Guards.{if_eq, if_ne}
use Rattle.boundary.specs.Flags.{flagged}
use Rattle.boundary.proofs.logs.flagged_lsn.Goals as goal

pub returns-then-flag-eq0 : goal.returns-then-flag-eq0
unfolding flagged
returns-then-flag-eq0 c = if_eq _ _ _ _ 0 c.if-flag-eq0.true refl

pub returns : goal.returns
unfolding flagged
returns c = if_ne _ _ _ _ 0 c.if-flag-eq0.false refl
