-- The call's promise of its four tables.
use Rattle.keeping.proofs.Writes.{success_keeps}
use Rattle.keeping.proofs.pushcall.success.Goals as goal

pub returns : goal.returns
returns c = let g = c.args in
    let e = c.sigatuda_success.ensures in
    let whole = success_keeps g.volumes.now g.commits.now g.checkpoints.now g.index.now _ _ _ _ g.vid.now g.commit.now e.volumes_after e.commits_after e.checkpoints_after e.index_after in
    record { keeps = whole.0; stays_formed = whole.1.0; logs_stay_formed = whole.1.1.0; stays_exact_while = whole.1.1.1 }
