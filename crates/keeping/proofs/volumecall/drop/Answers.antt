-- The call's promise of its table.
use Rattle.keeping.proofs.Calls.{drop_keeps}
use Rattle.keeping.proofs.volumecall.drop.Goals as goal

pub returns : goal.returns
returns c = let g = c.args in
    let whole = drop_keeps g.volumes.now _ g.vid.now c.sigatuda_drop.ensures.volumes_after in
    record { keeps = whole.0; stays_formed = whole.1 }
