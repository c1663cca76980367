-- Where the answer is a refusal, the contract has the place as it was.
use Rattle.std.proofs.Common.{ℕ}
use Rattle.pageset.specs.Rules.{last_rule}
use Rattle.arguments.specs.Args.{set_arg}
use Rattle.refusals.proofs.Laws.{maybe_left}
use Rattle.placerefusals.proofs.sets.set_last.Goals as goal

pub returns : goal.returns
returns c =
    let g = c.args in
    maybe_left (λ (m : ℕ). m) _ (last_rule (set_arg g.set.now)) _ _ c.sigatuda_set_last.ensures
