-- Where the answer is a refusal, the contract has the place as it was.
use Rattle.layout.specs.Values.{snapshot_bytes}
use Rattle.arguments.specs.Snapshots.{append_in}
use Rattle.layout.specs.Lent.{sized}
use Rattle.refusals.proofs.Laws.{value_left}
use Rattle.placerefusals.proofs.logs.snapshot_append.Goals as goal

pub returns : goal.returns
returns c =
    let g = c.args in
    value_left snapshot_bytes.spell _ (sized snapshot_bytes.size g.out.now (append_in g.snapshot.now (record { log = g.log.now; start = g.start; end = g.end }))) _ _ c.sigatuda_snapshot_append.ensures
