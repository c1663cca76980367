-- The call by value answers the rule, and its answer is put as the reply. Assumes nothing.
use Rattle.std.proofs.Common.{ap, ◌∙◌}
use Rattle.arguments.specs.Replies.{value_or}
use Rattle.boundary.proofs.searchcall.sigatuda_checkpoint_at.Goals as goal

pub returns : goal.returns
returns c = c.put_maybe_lsn.ensures ∙ ap (value_or (λ m. m) _) c.checkpoint_at.ensures
