-- `table::past_key` meets its contract: after the record of the key, or in its gap.
use native.Mathlib.Omega.{arith}
use Rattle.table.specs.Table.{count_of}
use Rattle.table.proofs.Rows.{cap_small}
use Rattle.table.proofs.Checks.{well_count}
use Rattle.table.proofs.Ends.{at_in}
use Rattle.table.proofs.Runs.{past_at, past_gap}
use Rattle.table.proofs.past_key.Goals as goal

pub overflow_add-result : goal.overflow_add-result
overflow_add-result c =
    let a = c.args in
    omega (arith, at_in a.stride a.klen a.t.now a.key.now _ _ c.find.ensures c.in-Ok.is, cap_small a.stride (count_of a.t.now) a.t.now (well_count a.stride a.klen a.t.now c.requires.t_value))

pub returns-in-Ok : goal.returns-in-Ok
returns-in-Ok c =
    let a = c.args in
    past_at a.stride a.klen a.t.now a.key.now _ _ c.find.ensures c.in-Ok.is

pub returns-in-Err : goal.returns-in-Err
returns-in-Err c =
    let a = c.args in
    past_gap a.stride a.klen a.t.now a.key.now _ _ c.find.ensures c.in-Err.is
