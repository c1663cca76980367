-- The test of the definition. Assumes nothing.
use Rattle.std.proofs.Common.{refl}
use Rattle.octets.specs.Guards.{if_eq, if_ne}
use Rattle.arguments.proofs.replies.by_number.Goals as goal

pub returns-then-code-eq0 : goal.returns-then-code-eq0
returns-then-code-eq0 c = if_eq _ _ _ _ 0 c.if-code-eq0.true refl

pub returns : goal.returns
returns c = if_ne _ _ _ _ 0 c.if-code-eq0.false refl
