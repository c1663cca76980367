-- The number is the answer's, and a refused answer leaves the table.
use Rattle.refusals.proofs.Laws.{one_left}
use Rattle.refusals.proofs.pagecall.pages_remove.Goals as goal

pub returns : goal.returns
returns c = one_left _ _ _ _ _ _ c.sigatuda_pages_remove.ensures.value c.sigatuda_pages_remove.ensures.presence_after
