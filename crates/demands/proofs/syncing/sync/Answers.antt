-- The call's promise, with the bytes that it was lent.
use Rattle.demands.proofs.HouseRule.{sync_keeps}
use Rattle.demands.proofs.syncing.sync.Goals as goal

pub returns : goal.returns
returns c =
    let g = c.args in
    sync_keeps g.volumes.now g.commits.now g.vid.now (λ j. (c.slice_known-1.given j).fits) _ _ c.sigatuda_sync.ensures.value c.sigatuda_sync.ensures.volumes_after
