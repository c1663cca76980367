-- Where the answer is a refusal, the contract has the place as it was.
use Rattle.layout.specs.Records.{volume_bytes}
use Rattle.layout.specs.Lent.{lent}
use Rattle.arguments.specs.Replies.{placed}
use Rattle.rules.specs.Reads.{volume_read}
use Rattle.layout.specs.Tables.{volumes_in, volumes_ok}
use Rattle.refusals.proofs.Laws.{value_left}
use Rattle.placerefusals.proofs.volumecall.volume_read.Goals as goal

pub returns : goal.returns
returns c =
    let g = c.args in
    value_left volume_bytes.spell _ (lent (volumes_ok g.volumes.now) (placed 117 g.out.now (volume_read (volumes_in g.volumes.now) g.vid.now))) _ _ c.sigatuda_volume_read.ensures
