-- Where the answer is a refusal, the contract has the place as it was.
use Rattle.std.proofs.Common.{◌&&◌}
use Rattle.layout.specs.Values.{snapshot_bytes}
use Rattle.layout.specs.Tables.{commits_in, commits_ok, volumes_in, volumes_ok}
use Rattle.layout.specs.Lent.{lent}
use Rattle.arguments.specs.Replies.{placed}
use Rattle.rules.specs.Snapshots.{snapshot as snapshot_rule}
use Rattle.refusals.proofs.Laws.{value_left}
use Rattle.placerefusals.proofs.viewcall.snapshot.Goals as goal

pub returns : goal.returns
returns c =
    let g = c.args in
    value_left snapshot_bytes.spell _ (lent (volumes_ok g.volumes.now && commits_ok g.commits.now) (placed snapshot_bytes.size g.out.now (snapshot_rule (volumes_in g.volumes.now) (commits_in g.commits.now) g.vid.now))) _ _ c.sigatuda_snapshot.ensures
