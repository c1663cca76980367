-- Where the answer is a refusal, the contract has the place as it was.
use Rattle.std.proofs.Common.{ℕ}
use Rattle.basics.specs.Numbers.{prev_page}
use Rattle.refusals.proofs.Laws.{value_left}
use Rattle.placerefusals.proofs.numbers.page_prev.Goals as goal

pub returns : goal.returns
returns c =
    let g = c.args in
    value_left (λ (m : ℕ). m) _ (prev_page g.p) _ _ c.sigatuda_page_prev.ensures
