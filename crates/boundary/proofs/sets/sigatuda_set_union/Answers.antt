-- The arguments are read, the call by value answers the rule on them, and the set of its answer is put in bytes. Assumes nothing.
use Rattle.std.proofs.Common.{ap₂}
use Rattle.pageset.specs.Rules.{union_rule}
use Rattle.arguments.proofs.EarlyLaws.{union_early}
use Rattle.arguments.proofs.SetLaws.{left_set_or_22, given_or_22_normal}
use Rattle.boundary.proofs.sets.sigatuda_set_union.Goals as goal

pub put_set-requires : goal.put_set-requires
put_set-requires c =
    given_or_22_normal c.union.result (union_rule c.set_arg.result c.set_arg-2.result) c.union.ensures

pub returns : goal.returns
returns c =
    left_set_or_22 1 _ c.union.result (union_rule c.set_arg.result c.set_arg-2.result) _ _ (ap₂ union_rule c.set_arg.ensures c.set_arg-2.ensures) (union_early _ _) c.union.ensures c.put_set.ensures
