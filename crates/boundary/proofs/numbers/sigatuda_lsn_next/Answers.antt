-- The call by value answers the rule, and its answer is put as the reply. Assumes nothing.
use Rattle.std.proofs.Common.{ap, ◌∙◌}
use Rattle.arguments.specs.Replies.{value}
use Rattle.boundary.proofs.numbers.sigatuda_lsn_next.Goals as goal

pub returns : goal.returns
returns c = c.put_lsn.ensures ∙ ap (value (λ m. m) _) c.next.ensures
