-- The number is the answer's, and a refused answer leaves the volumes and the place.
use Rattle.refusals.proofs.Laws.{open_left}
use Rattle.refusals.proofs.pushcall.open.Goals as goal

pub returns : goal.returns
returns c = let whole = open_left _ _ _ _ _ _ _ _ _ c.sigatuda_open.ensures.value c.sigatuda_open.ensures.volumes_after c.sigatuda_open.ensures.out_after in
    record { as_found = whole.0; as_found_2 = whole.1 }
