-- Where the answer is a refusal, the contract has the list and the number of its items as they were.
use Rattle.walkcalls.specs.Items.{item_bytes}
use Rattle.layout.specs.Tables.{commits_in, commits_ok}
use Rattle.layout.specs.Lent.{lent}
use Rattle.resultlists.specs.Snapshots.{on_snapshot}
use Rattle.resultlists.specs.Lists.{slots_in}
use Rattle.rules.specs.Walk.{walk}
use Rattle.refusals.proofs.Laws.{list_left_lem}
use Rattle.placerefusals.proofs.walkcall.walk.Goals as goal

pub returns : goal.returns
returns c = let g = c.args in
    let whole = list_left_lem item_bytes _ _ _ _ (lent (commits_ok g.commits.now) (on_snapshot g.snapshot.now (walk (commits_in g.commits.now) (slots_in item_bytes g.list.now)))) _ c.sigatuda_walk.ensures in
    record { as_found = whole.0; as_found_2 = whole.1 }
