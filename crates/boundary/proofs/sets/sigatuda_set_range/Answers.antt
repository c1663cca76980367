-- The arguments are read, the call by value answers the rule on them, and the set of its answer is put in bytes. Assumes nothing.
use Rattle.std.proofs.Common.{refl}
use Rattle.pageset.specs.Rules.{range_rule}
use Rattle.arguments.proofs.EarlyLaws.{range_early}
use Rattle.arguments.proofs.SetLaws.{left_set_or_22, given_or_22_normal}
use Rattle.boundary.proofs.sets.sigatuda_set_range.Goals as goal

pub put_set-requires : goal.put_set-requires
put_set-requires c =
    given_or_22_normal c.from_range.result (range_rule c.args.first c.args.last) c.from_range.ensures

pub returns : goal.returns
returns c =
    left_set_or_22 1 _ c.from_range.result (range_rule c.args.first c.args.last) _ _ refl (range_early c.args.first c.args.last) c.from_range.ensures c.put_set.ensures
