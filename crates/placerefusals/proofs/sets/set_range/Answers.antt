-- Where the answer is a refusal, or 22, the contract has the place as it was.
use Rattle.pageset.specs.Rules.{range_rule}
use Rattle.refusals.proofs.Laws.{leaves_set_22}
use Rattle.placerefusals.proofs.sets.set_range.Goals as goal

pub returns : goal.returns
returns c =
    let g = c.args in
    leaves_set_22 1 _ _ (range_rule g.first g.last) _ c.sigatuda_set_range.ensures
