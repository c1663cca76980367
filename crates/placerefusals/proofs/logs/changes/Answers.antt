-- Where the answer is a refusal, the contract has both places as they were.
use Rattle.std.proofs.Common.{ℕ}
use Rattle.rules.specs.Sync.{changes as changes_rule}
use Rattle.boundary.specs.Flags.{flagged}
use Rattle.refusals.proofs.Laws.{maybe_two}
use Rattle.placerefusals.proofs.logs.changes.Goals as goal

pub returns : goal.returns
returns c = let g = c.args in
    let whole = maybe_two (λ (m : ℕ × ℕ). m) _ _ _ _ (changes_rule (flagged g.has_base g.base) (flagged g.has_head g.head)) _ c.sigatuda_changes.ensures in
    record { as_found = whole.0; as_found_2 = whole.1 }
