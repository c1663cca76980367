-- `table::put` meets its contract: a key that is there is overwritten, one that is not is inserted.
use Rattle.table.proofs.Ends.{at_ready, gap_ready, at_done, gap_done}
use Rattle.table.proofs.put.Goals as goal

pub overwrite-requires : goal.overwrite-requires
overwrite-requires c =
    let a = c.args in
    at_ready a.stride a.klen a.t.now a.rec.now _ _ c.find.ensures c.in-Ok.is c.requires.stride_nonzero.0 c.requires.stride_nonzero.2 c.requires.t_value

pub insert-requires : goal.insert-requires
insert-requires c =
    let a = c.args in
    gap_ready a.stride a.klen a.t.now a.rec.now _ _ c.find.ensures c.in-Err.is c.requires.stride_nonzero.0 c.requires.stride_nonzero.2 c.requires.t_value_2

pub returns-in-Ok : goal.returns-in-Ok
returns-in-Ok c =
    let a = c.args in
    at_done a.stride a.klen a.t.now a.rec.now _ _ c.find.ensures c.in-Ok.is _ c.overwrite.ensures

pub returns-in-Err : goal.returns-in-Err
returns-in-Err c =
    let a = c.args in
    gap_done a.stride a.klen a.t.now a.rec.now _ _ c.find.ensures c.in-Err.is _ c.insert.ensures
