-- `batch::remove_run` meets its contract: the records from j on come down to place i, and the count is less by j - i.
use native.Mathlib.Omega.{arith}
use Rattle.batch.proofs.Removed.{run_size, run_done}
use Rattle.batch.proofs.remove_run.Goals as goal

pub count-n-requires : goal.count-n-requires
count-n-requires c = omega (arith, c.requires.2)

pub overflow_mul-i : goal.overflow_mul-i
overflow_mul-i c =
    let a = c.args in
    omega (arith, run_size a.stride a.t.now a.i a.j c.requires.0 c.requires.1 c.requires.2 c.count-n.result c.count-n.ensures.0)

pub overflow_add-i : goal.overflow_add-i
overflow_add-i c =
    let a = c.args in
    omega (arith, run_size a.stride a.t.now a.i a.j c.requires.0 c.requires.1 c.requires.2 c.count-n.result c.count-n.ensures.0)

pub overflow_mul-j : goal.overflow_mul-j
overflow_mul-j c =
    let a = c.args in
    omega (arith, run_size a.stride a.t.now a.i a.j c.requires.0 c.requires.1 c.requires.2 c.count-n.result c.count-n.ensures.0)

pub overflow_mul-n : goal.overflow_mul-n
overflow_mul-n c =
    let a = c.args in
    omega (arith, run_size a.stride a.t.now a.i a.j c.requires.0 c.requires.1 c.requires.2 c.count-n.result c.count-n.ensures.0)

pub move_down-requires : goal.move_down-requires
move_down-requires c =
    let a = c.args in
    omega (arith, run_size a.stride a.t.now a.i a.j c.requires.0 c.requires.1 c.requires.2 c.count-n.result c.count-n.ensures.0)

pub store16-requires : goal.store16-requires
store16-requires c =
    let a = c.args in
    omega (arith, run_size a.stride a.t.now a.i a.j c.requires.0 c.requires.1 c.requires.2 c.count-n.result c.count-n.ensures.0, c.move_down.auto.s)

pub returns : goal.returns
returns c =
    let a = c.args in
    run_done a.stride a.t.now a.i a.j c.requires.0 c.requires.1 c.requires.2 c.count-n.result c.count-n.ensures.0 _ _ c.move_down.ensures c.store16.ensures
