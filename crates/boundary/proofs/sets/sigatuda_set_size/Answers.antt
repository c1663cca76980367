-- The argument is read, the call by value answers the rule on it, and its answer is put as the reply. Assumes nothing.
use Rattle.std.proofs.Common.{ap, ◌∙◌}
use Rattle.pageset.specs.Rules.{size_rule}
use Rattle.arguments.specs.Replies.{value}
use Rattle.boundary.proofs.sets.sigatuda_set_size.Goals as goal

pub returns : goal.returns
returns c = c.put_count.ensures ∙ ap (value (λ m. m) _) (c.cardinality.ensures ∙ ap size_rule c.set_arg.ensures)
