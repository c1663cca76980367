-- Where the answer is a refusal, the contract has the list and the number of its items as they were.
use Rattle.std.proofs.Common.{◌&&◌}
use Rattle.layout.specs.Values.{part_bytes}
use Rattle.layout.specs.Tables.{commits_in, commits_ok, presence_in, presence_ok}
use Rattle.layout.specs.Lent.{lent}
use Rattle.rules.specs.Walk.{missing_frames}
use Rattle.resultlists.specs.Snapshots.{on_snapshot}
use Rattle.resultlists.specs.Lists.{slots_in}
use Rattle.refusals.proofs.Laws.{list_left_lem}
use Rattle.placerefusals.proofs.walkcall.missing_frames.Goals as goal

pub returns : goal.returns
returns c = let g = c.args in
    let whole = list_left_lem part_bytes _ _ _ _ (lent (commits_ok g.commits.now && presence_ok g.presence.now) (on_snapshot g.snapshot.now (missing_frames (commits_in g.commits.now) (presence_in g.presence.now) (slots_in part_bytes g.list.now)))) _ c.sigatuda_missing_frames.ensures in
    record { as_found = whole.0; as_found_2 = whole.1 }
