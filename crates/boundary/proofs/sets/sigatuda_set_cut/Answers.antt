-- The arguments are read, the call by value answers the rule on them, and the set of its answer is put in bytes. Assumes nothing.
use Rattle.pageset.specs.Says.{common, left}
use Rattle.pageset.specs.Rules.{cut_rule, left_rule}
use Rattle.arguments.proofs.SetLaws.{left_cut, given_normal}
use Rattle.boundary.proofs.sets.sigatuda_set_cut.Goals as goal

pub put_cut-requires : goal.put_cut-requires
put_cut-requires c =
    (given_normal (common c.cut.result) (cut_rule c.set_arg.result c.set_arg-2.result) c.cut.ensures.0, given_normal (left c.cut.result) (left_rule c.set_arg.result c.set_arg-2.result) c.cut.ensures.1)

pub returns : goal.returns
returns c =
    left_cut _ _ c.cut.result c.set_arg.result c.set_arg-2.result _ _ _ c.set_arg.ensures c.set_arg-2.ensures c.cut.ensures c.put_cut.ensures
