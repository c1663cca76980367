-- Where the answer is a refusal, or 22, the contract has the place as it was.
use Rattle.pageset.specs.Rules.{union_rule}
use Rattle.arguments.specs.Args.{set_arg}
use Rattle.refusals.proofs.Laws.{leaves_set_22}
use Rattle.placerefusals.proofs.sets.set_union.Goals as goal

pub returns : goal.returns
returns c =
    let g = c.args in
    leaves_set_22 1 _ _ (union_rule (set_arg g.a.now) (set_arg g.b.now)) _ c.sigatuda_set_union.ensures
