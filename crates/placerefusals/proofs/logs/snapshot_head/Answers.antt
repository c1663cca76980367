-- Where the answer is a refusal, the contract has both places as they were.
use Rattle.std.proofs.Common.{ℕ, List}
use Rattle.arguments.specs.Snapshots.{head_in}
use Rattle.refusals.proofs.Laws.{maybe_two}
use Rattle.placerefusals.proofs.logs.snapshot_head.Goals as goal

pub returns : goal.returns
returns c = let g = c.args in
    let whole = maybe_two (λ (h : List ℕ × ℕ). h) _ _ _ _ (head_in g.snapshot.now) _ c.sigatuda_snapshot_head.ensures in
    record { as_found = whole.0; as_found_2 = whole.1 }
