-- The arguments are read, the call by value answers the rule on them, and the set of its answer is put in bytes. Assumes nothing.
use Rattle.std.proofs.Common.{ap}
use Rattle.pageset.specs.declared.PageSet.{PageSet}
use Rattle.pageset.specs.Rules.{remove_rule}
use Rattle.arguments.proofs.EarlyLaws.{remove_early}
use Rattle.arguments.proofs.SetLaws.{left_set, given_normal}
use Rattle.boundary.proofs.sets.sigatuda_set_remove.Goals as goal

pub put_set-requires : goal.put_set-requires
put_set-requires c =
    given_normal c.remove_page_range.result (remove_rule c.set_arg.result c.args.first c.args.last) c.remove_page_range.ensures

pub returns : goal.returns
returns c =
    left_set 1 _ c.remove_page_range.result (remove_rule c.set_arg.result c.args.first c.args.last) _ _ (ap (λ (s : PageSet). remove_rule s c.args.first c.args.last) c.set_arg.ensures) (remove_early _ c.args.first c.args.last) c.remove_page_range.ensures c.put_set.ensures
