-- `table::remove` meets its contract: the records after i come down, and the count is one less.
use Prim.Native.Nat.{◌+◌, ◌-◌, ◌*◌, ◌≤◌}
use native.Mathlib.Omega.{arith}
use lib.ListN.{length}
use Rattle.table.specs.Table.{count_of}
use Rattle.table.proofs.Rows.{cap_two}
use Rattle.table.proofs.Stores.{remove_size, remove_done}
use Rattle.table.proofs.remove.Goals as goal

pub count-n-requires : goal.count-n-requires
count-n-requires c =
    let a = c.args in
    omega (arith, cap_two a.stride (count_of a.t.now) a.t.now c.requires.0 (omega arith) (omega arith))

pub overflow_mul-i : goal.overflow_mul-i
overflow_mul-i c =
    let a = c.args in
    omega (arith, remove_size a.stride a.t.now a.i c.requires.0 c.count-n.result c.count-n.ensures.0 c.requires.1 c.requires.2)

pub overflow_add-i : goal.overflow_add-i
overflow_add-i c =
    let a = c.args in
    omega (arith, remove_size a.stride a.t.now a.i c.requires.0 c.count-n.result c.count-n.ensures.0 c.requires.1 c.requires.2)

pub overflow_mul-n : goal.overflow_mul-n
overflow_mul-n c =
    let a = c.args in
    omega (arith, remove_size a.stride a.t.now a.i c.requires.0 c.count-n.result c.count-n.ensures.0 c.requires.1 c.requires.2)

pub move_down-requires : goal.move_down-requires
move_down-requires c =
    let a = c.args in
    omega (arith, remove_size a.stride a.t.now a.i c.requires.0 c.count-n.result c.count-n.ensures.0 c.requires.1 c.requires.2)

pub store16-requires : goal.store16-requires
store16-requires c =
    let a = c.args in
    omega (arith, remove_size a.stride a.t.now a.i c.requires.0 c.count-n.result c.count-n.ensures.0 c.requires.1 c.requires.2, c.move_down.auto.s)

pub returns : goal.returns
returns c =
    let a = c.args in
    let p = c.requires in
    remove_done a.stride a.t.now a.i p.0 c.count-n.result _ _ c.count-n.ensures.0 p.1 p.2 c.move_down.ensures c.store16.ensures
