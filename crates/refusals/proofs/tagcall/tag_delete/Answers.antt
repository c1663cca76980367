-- The number is the answer's, and a refused answer leaves the table.
use Rattle.refusals.proofs.Laws.{one_left}
use Rattle.refusals.proofs.tagcall.tag_delete.Goals as goal

pub returns : goal.returns
returns c = one_left _ _ _ _ _ _ c.sigatuda_tag_delete.ensures.value c.sigatuda_tag_delete.ensures.tags_after
