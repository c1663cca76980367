-- The number is the answer's, and a refused answer leaves the table.
use Rattle.refusals.proofs.Laws.{one_left}
use Rattle.refusals.proofs.pagecall.page_remove.Goals as goal

pub returns : goal.returns
returns c = one_left _ _ _ _ _ _ c.sigatuda_page_remove.ensures.value c.sigatuda_page_remove.ensures.presence_after
