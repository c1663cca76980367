-- Where the answer is a refusal, the contract has the list and the number of its items as they were.
use Rattle.layout.specs.Records.{volume_bytes}
use Rattle.layout.specs.Lent.{lent}
use Rattle.resultlists.specs.Lists.{slots_in}
use Rattle.rules.specs.Reads.{volume_list}
use Rattle.layout.specs.Tables.{volumes_in, volumes_ok}
use Rattle.refusals.proofs.Laws.{list_left_lem}
use Rattle.placerefusals.proofs.listcall.volume_list.Goals as goal

pub returns : goal.returns
returns c = let g = c.args in
    let whole = list_left_lem volume_bytes _ _ _ _ (lent (volumes_ok g.volumes.now) (volume_list (volumes_in g.volumes.now) (slots_in volume_bytes g.list.now))) _ c.sigatuda_volume_list.ensures in
    record { as_found = whole.0; as_found_2 = whole.1 }
