-- The call's promise of its table.
use Rattle.keeping.proofs.Calls.{delete_keeps}
use Rattle.keeping.proofs.volumecall.volume_delete.Goals as goal

pub returns : goal.returns
returns c = let g = c.args in
    let whole = delete_keeps g.volumes.now _ g.vid.now c.sigatuda_volume_delete.ensures.volumes_after in
    record { keeps = whole.0; stays_formed = whole.1 }
