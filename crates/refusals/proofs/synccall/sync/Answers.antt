-- The number is the answer's, and a refused answer leaves the table.
use Rattle.refusals.proofs.Laws.{one_left}
use Rattle.refusals.proofs.synccall.sync.Goals as goal

pub returns : goal.returns
returns c = one_left _ _ _ _ _ _ c.sigatuda_sync.ensures.value c.sigatuda_sync.ensures.volumes_after
