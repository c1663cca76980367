-- Where the answer is a refusal, the contract has the place as it was.
use Rattle.std.proofs.Common.{ℕ}
use Rattle.basics.specs.Numbers.{next_lsn_or_last}
use Rattle.refusals.proofs.Laws.{value_left}
use Rattle.placerefusals.proofs.numbers.lsn_saturating_next.Goals as goal

pub returns : goal.returns
returns c =
    let g = c.args in
    value_left (λ (m : ℕ). m) _ (next_lsn_or_last g.n) _ _ c.sigatuda_lsn_saturating_next.ensures
