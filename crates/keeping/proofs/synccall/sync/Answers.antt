-- The call's promise of its table.
use Rattle.keeping.proofs.Calls.{sync_keeps}
use Rattle.keeping.proofs.synccall.sync.Goals as goal

pub returns : goal.returns
returns c = let g = c.args in
    let whole = sync_keeps g.volumes.now _ g.vid.now g.commits.now c.sigatuda_sync.ensures.volumes_after in
    record { keeps = whole.0; stays_formed = whole.1 }
