-- The number is the answer's, and a refused answer leaves the tags and the place.
use Rattle.refusals.proofs.Laws.{replace_left}
use Rattle.refusals.proofs.tagcall.tag_replace.Goals as goal

pub returns : goal.returns
returns c = let whole = replace_left _ _ _ _ _ _ c.sigatuda_tag_replace.ensures.earlier_after c.sigatuda_tag_replace.ensures.tags_after in
    record { as_found = whole.0; as_found_2 = whole.1 }
