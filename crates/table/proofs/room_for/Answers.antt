-- `table::room_for` meets its contract.
use Rattle.table.proofs.Ends.{room_left}
use Rattle.table.proofs.room_for.Goals as goal

pub returns : goal.returns
returns c =
    let a = c.args in
    room_left a.stride a.t.now a.more c.count.result c.capacity.result c.requires.2 c.count.ensures.0 c.capacity.ensures
