-- `table::insert` meets its contract: the records from i on move up, rec is stored below them, and the count is one more.
use Prim.Native.Nat.{◌+◌, ◌-◌, ◌*◌, ◌≤◌}
use native.Mathlib.Omega.{arith}
use lib.ListN.{length}
use Rattle.table.specs.Table.{count_of}
use Rattle.table.proofs.Rows.{cap_two}
use Rattle.table.proofs.Stores.{insert_size, insert_done}
use Rattle.table.proofs.insert.Goals as goal

pub count-n-requires : goal.count-n-requires
count-n-requires c =
    let a = c.args in
    omega (arith, cap_two a.stride (count_of a.t.now + 1) a.t.now c.requires.0 (omega arith) (omega arith))

pub overflow_mul-at : goal.overflow_mul-at
overflow_mul-at c =
    let a = c.args in
    omega (arith, insert_size a.stride a.t.now a.i c.requires.0 c.count-n.result c.count-n.ensures.0 c.requires.1 c.requires.2)

pub overflow_add-at : goal.overflow_add-at
overflow_add-at c =
    let a = c.args in
    omega (arith, insert_size a.stride a.t.now a.i c.requires.0 c.count-n.result c.count-n.ensures.0 c.requires.1 c.requires.2)

pub overflow_mul-n : goal.overflow_mul-n
overflow_mul-n c =
    let a = c.args in
    omega (arith, insert_size a.stride a.t.now a.i c.requires.0 c.count-n.result c.count-n.ensures.0 c.requires.1 c.requires.2)

pub move_up-requires : goal.move_up-requires
move_up-requires c =
    let a = c.args in
    omega (arith, insert_size a.stride a.t.now a.i c.requires.0 c.count-n.result c.count-n.ensures.0 c.requires.1 c.requires.2)

pub store_all-requires : goal.store_all-requires
store_all-requires c =
    let a = c.args in
    omega (arith, insert_size a.stride a.t.now a.i c.requires.0 c.count-n.result c.count-n.ensures.0 c.requires.1 c.requires.2, c.move_up.auto.s)

pub store16-requires : goal.store16-requires
store16-requires c =
    let a = c.args in
    omega (arith, insert_size a.stride a.t.now a.i c.requires.0 c.count-n.result c.count-n.ensures.0 c.requires.1 c.requires.2, c.move_up.auto.s, c.store_all.auto.s)

pub returns : goal.returns
returns c =
    let a = c.args in
    let p = c.requires in
    insert_done a.stride a.t.now a.i p.0 c.count-n.result a.rec.now _ _ _ c.count-n.ensures.0 p.1 p.2 p.3 c.move_up.ensures c.store_all.ensures c.store16.ensures
