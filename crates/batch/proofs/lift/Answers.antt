-- `batch::lift` meets its contract: the record right below those that moved.
use native.Mathlib.Omega.{arith}
use Rattle.batch.proofs.Lifts.{lift_rows, lift_done}
use Rattle.batch.proofs.lift.Goals as goal

pub overflow_mul-q : goal.overflow_mul-q
overflow_mul-q c =
    let a = c.args in
    omega (arith, lift_rows a.stride a.q a.i a.d c.requires.0 c.requires.1)

pub overflow_add-q-2 : goal.overflow_add-q-2
overflow_add-q-2 c =
    let a = c.args in
    omega (arith, lift_rows a.stride a.q a.i a.d c.requires.0 c.requires.1)

pub store_all-requires : goal.store_all-requires
store_all-requires c =
    let a = c.args in
    omega (arith, lift_rows a.stride a.q a.i a.d c.requires.0 c.requires.1, c.move_records.auto.t)

pub returns : goal.returns
returns c =
    let a = c.args in
    let p = c.requires in
    lift_done a.stride a.q a.i a.d a.rec.now a.t.now _ _ p.0 p.1 p.3 p.4 c.move_records.ensures c.store_all.ensures
