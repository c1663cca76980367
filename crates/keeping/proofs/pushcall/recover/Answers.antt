-- The call's promise of its four tables.
use Rattle.keeping.proofs.Writes.{recover_keeps}
use Rattle.keeping.proofs.pushcall.recover.Goals as goal

pub returns : goal.returns
returns c = let g = c.args in
    let e = c.sigatuda_recover.ensures in
    let whole = recover_keeps g.volumes.now g.commits.now g.checkpoints.now g.index.now _ _ _ _ g.vid.now e.volumes_after e.commits_after e.checkpoints_after e.index_after in
    record { keeps = whole.0; stays_formed = whole.1.0; logs_stay_formed = whole.1.1.0; stays_exact = whole.1.1.1 }
