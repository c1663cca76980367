-- The reply is the answer's, and a refused answer leaves all four tables and the place.
use Rattle.refusals.proofs.Laws.{copy_left}
use Rattle.refusals.proofs.copycall.volume_from_snapshot.Goals as goal

pub returns : goal.returns
returns c = let whole = copy_left _ _ _ _ _ _ _ _ _ _ _ _ c.sigatuda_volume_from_snapshot.ensures in
    record { as_found = whole.0; as_found_2 = whole.1.0; as_found_3 = whole.1.1.0; as_found_4 = whole.1.1.1.0; as_found_5 = whole.1.1.1.1 }
