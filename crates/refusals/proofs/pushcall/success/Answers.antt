-- The number is the answer's, and a refused answer leaves all four tables.
use Rattle.refusals.proofs.Laws.{success_left}
use Rattle.refusals.proofs.pushcall.success.Goals as goal

pub returns : goal.returns
returns c = let whole = success_left _ _ _ _ _ _ _ _ _ _ c.sigatuda_success.ensures.value c.sigatuda_success.ensures.volumes_after c.sigatuda_success.ensures.commits_after c.sigatuda_success.ensures.checkpoints_after c.sigatuda_success.ensures.index_after in
    record { as_found = whole.0; as_found_2 = whole.1.0; as_found_3 = whole.1.1.0; as_found_4 = whole.1.1.1 }
