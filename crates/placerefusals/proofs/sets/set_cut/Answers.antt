-- Where the answer is a refusal, the contract has both places as they were.
use Rattle.pageset.specs.Rules.{cut_rule, left_rule}
use Rattle.arguments.specs.Args.{set_arg}
use Rattle.refusals.proofs.Laws.{leaves_cut}
use Rattle.placerefusals.proofs.sets.set_cut.Goals as goal

pub returns : goal.returns
returns c = let g = c.args in
    let whole = leaves_cut _ _ _ _ (cut_rule (set_arg g.left.now) (set_arg g.right.now)) (left_rule (set_arg g.left.now) (set_arg g.right.now)) _ c.sigatuda_set_cut.ensures in
    record { as_found = whole.0; as_found_2 = whole.1 }
