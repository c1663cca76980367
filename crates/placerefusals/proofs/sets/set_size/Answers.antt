-- Where the answer is a refusal, the contract has the place as it was.
use Rattle.std.proofs.Common.{ℕ}
use Rattle.arguments.specs.Args.{set_arg}
use Rattle.pageset.specs.Rules.{size_rule}
use Rattle.refusals.proofs.Laws.{value_left}
use Rattle.placerefusals.proofs.sets.set_size.Goals as goal

pub returns : goal.returns
returns c =
    let g = c.args in
    value_left (λ (m : ℕ). m) _ (size_rule (set_arg g.set.now)) _ _ c.sigatuda_set_size.ensures
