-- `batch::move_records` meets its contract: moved by no place, the records stand where they stood.
use native.Mathlib.Omega.{arith}
use Rattle.batch.proofs.Lifts.{move_rows, moved_none, moved_by}
use Rattle.batch.proofs.move_records.Goals as goal

pub returns-then-d-eq0 : goal.returns-then-d-eq0
returns-then-d-eq0 c =
    let a = c.args in
    moved_none a.stride a.q a.i a.d a.t.now c.requires.0 c.requires.2 c.if-d-eq0.true

pub overflow_mul-q : goal.overflow_mul-q
overflow_mul-q c =
    let a = c.args in
    omega (arith, move_rows a.stride a.q a.i a.d c.requires.0)

pub overflow_add-q : goal.overflow_add-q
overflow_add-q c =
    let a = c.args in
    omega (arith, move_rows a.stride a.q a.i a.d c.requires.0)

pub overflow_mul-d : goal.overflow_mul-d
overflow_mul-d c =
    let a = c.args in
    omega (arith, move_rows a.stride a.q a.i a.d c.requires.0)

pub overflow_mul-i : goal.overflow_mul-i
overflow_mul-i c =
    let a = c.args in
    omega (arith, move_rows a.stride a.q a.i a.d c.requires.0)

pub move_up-requires : goal.move_up-requires
move_up-requires c =
    let a = c.args in
    omega (arith, move_rows a.stride a.q a.i a.d c.requires.0)

pub returns : goal.returns
returns c =
    let a = c.args in
    moved_by a.stride a.q a.i a.d a.t.now _ c.move_up.ensures
