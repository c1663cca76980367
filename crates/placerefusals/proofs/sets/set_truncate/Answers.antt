-- Where the answer is a refusal, the contract has the place as it was.
use Rattle.pageset.specs.Rules.{truncate_rule}
use Rattle.arguments.specs.Args.{set_arg}
use Rattle.refusals.proofs.Laws.{leaves_set}
use Rattle.placerefusals.proofs.sets.set_truncate.Goals as goal

pub returns : goal.returns
returns c =
    let g = c.args in
    leaves_set 1 _ _ (truncate_rule (set_arg g.set.now) g.count) _ c.sigatuda_set_truncate.ensures
