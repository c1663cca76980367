-- The arguments are read, the call by value answers the rule on them, and the set of its answer is put in bytes. Assumes nothing.
use Rattle.std.proofs.Common.{ap, ◌∙◌}
use Rattle.pageset.specs.declared.PageSet.{PageSet}
use Rattle.pageset.specs.Rules.{contains_rule}
use Rattle.arguments.specs.Replies.{yes_or_no}
use Rattle.boundary.proofs.sets.sigatuda_set_contains.Goals as goal

pub returns : goal.returns
returns c =
    c.yes_or_no.ensures ∙ ap yes_or_no (c.contains.ensures ∙ ap (λ (s : PageSet). contains_rule s c.args.page) c.set_arg.ensures)
