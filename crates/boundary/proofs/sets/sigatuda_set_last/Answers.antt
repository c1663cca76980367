-- The argument is read, the call by value answers the rule on it, and its answer is put as the reply. Assumes nothing.
use Rattle.std.proofs.Common.{ap, ◌∙◌}
use Rattle.pageset.specs.Rules.{last_rule}
use Rattle.arguments.specs.Replies.{value_or}
use Rattle.boundary.proofs.sets.sigatuda_set_last.Goals as goal

pub returns : goal.returns
returns c = c.put_end.ensures ∙ ap (value_or (λ m. m) _) (c.last.ensures ∙ ap last_rule c.set_arg.ensures)
