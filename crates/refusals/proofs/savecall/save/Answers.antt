-- The number is the answer's, and a refused answer leaves all four tables and the place.
use Rattle.refusals.proofs.Laws.{save_left}
use Rattle.refusals.proofs.savecall.save.Goals as goal

pub returns : goal.returns
returns c = let whole = save_left _ _ _ _ _ _ _ _ _ _ _ _ c.sigatuda_save.ensures.value c.sigatuda_save.ensures.leaves in
    record { as_found = whole.0; as_found_2 = whole.1.0; as_found_3 = whole.1.1.0; as_found_4 = whole.1.1.1.0; as_found_5 = whole.1.1.1.1 }
