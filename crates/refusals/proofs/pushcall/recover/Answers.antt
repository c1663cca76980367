-- The call's promise of its number and of each table; the slices that it is lent hold bytes, so that a table laid over its own bytes is those.
use Rattle.refusals.proofs.Recover.{recover_left, recover_drops}
use Rattle.refusals.proofs.pushcall.recover.Goals as goal

pub returns : goal.returns
returns c = let g = c.args in
    let e = c.sigatuda_recover.ensures in record { as_found = recover_left g.volumes.now g.commits.now g.checkpoints.now g.index.now g.vid.now (λ j. (c.slice_known-1.given j).fits) (λ j. (c.slice_known-2-1.given j).fits) (λ j. (c.slice_known-3-1.given j).fits) (λ j. (c.slice_known-4-1.given j).fits) _ _ _ _ _ e.value e.volumes_after e.commits_after e.checkpoints_after e.index_after; drops = recover_drops g.volumes.now g.commits.now g.checkpoints.now g.index.now g.vid.now (λ j. (c.slice_known-1.given j).fits) (λ j. (c.slice_known-2-1.given j).fits) (λ j. (c.slice_known-3-1.given j).fits) (λ j. (c.slice_known-4-1.given j).fits) _ _ _ _ _ e.value e.volumes_after e.commits_after e.checkpoints_after e.index_after }
