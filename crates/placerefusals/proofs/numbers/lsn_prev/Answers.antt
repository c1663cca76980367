-- Where the answer is a refusal, the contract has the place as it was.
use Rattle.std.proofs.Common.{ℕ}
use Rattle.basics.specs.Numbers.{prev_lsn}
use Rattle.refusals.proofs.Laws.{maybe_left}
use Rattle.placerefusals.proofs.numbers.lsn_prev.Goals as goal

pub returns : goal.returns
returns c =
    let g = c.args in
    maybe_left (λ (m : ℕ). m) _ (prev_lsn g.n) _ _ c.sigatuda_lsn_prev.ensures
