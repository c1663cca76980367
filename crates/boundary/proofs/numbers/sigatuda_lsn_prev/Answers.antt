-- The call by value answers the rule, and its answer is put as the reply. Assumes nothing.
use Rattle.std.proofs.Common.{ap, ◌∙◌}
use Rattle.arguments.specs.Replies.{value_or}
use Rattle.boundary.proofs.numbers.sigatuda_lsn_prev.Goals as goal

pub returns : goal.returns
returns c = c.put_maybe_lsn.ensures ∙ ap (value_or (λ m. m) _) c.checked_prev.ensures
