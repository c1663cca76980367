-- `table::room` meets its contract: a key that is there needs no room, one that is not needs room for one.
use Rattle.table.proofs.Checks.{well_two, well_count}
use Rattle.table.proofs.Ends.{room_at, room_gap}
use Rattle.table.proofs.room.Goals as goal

pub room_for-requires : goal.room_for-requires
room_for-requires c =
    let a = c.args in
    (c.requires.stride_nonzero.0, well_two a.stride a.klen a.t.now c.requires.t_value, well_count a.stride a.klen a.t.now c.requires.t_value)

pub returns-in-Ok : goal.returns-in-Ok
returns-in-Ok c =
    let a = c.args in
    room_at a.stride a.klen a.t.now a.rec.now _ _ c.find.ensures c.in-Ok.is c.requires.t_value

pub returns-in-Err : goal.returns-in-Err
returns-in-Err c =
    let a = c.args in
    room_gap a.stride a.klen a.t.now a.rec.now _ _ c.find.ensures c.in-Err.is _ c.room_for.ensures
