-- The bytes of a volume over as many zeros.
use Rattle.volumes.proofs.volume_row.Goals as goal

pub returns : goal.returns
returns c = c.put_out.ensures
