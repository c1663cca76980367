-- The arguments are read, the call by value answers the rule on them, and the set of its answer is put in bytes. Assumes nothing.
use Rattle.std.proofs.Common.{ap}
use Rattle.pageset.specs.declared.PageSet.{PageSet}
use Rattle.pageset.specs.Rules.{truncate_rule}
use Rattle.arguments.proofs.EarlyLaws.{truncate_early}
use Rattle.arguments.proofs.SetLaws.{left_set, given_normal}
use Rattle.boundary.proofs.sets.sigatuda_set_truncate.Goals as goal

pub put_set-requires : goal.put_set-requires
put_set-requires c =
    given_normal c.truncate.result (truncate_rule c.set_arg.result c.args.count) c.truncate.ensures

pub returns : goal.returns
returns c =
    left_set 1 _ c.truncate.result (truncate_rule c.set_arg.result c.args.count) _ _ (ap (λ (s : PageSet). truncate_rule s c.args.count) c.set_arg.ensures) (truncate_early _ c.args.count) c.truncate.ensures c.put_set.ensures
