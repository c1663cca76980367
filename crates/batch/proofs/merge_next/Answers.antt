-- `batch::merge_next` meets its contract, by where the record stands among those left.
use native.Mathlib.Omega.{arith}
use Rattle.batch.proofs.Lifts.{next_at, next_gap, next_at_done, next_gap_done}
use Rattle.batch.proofs.merge_next.Goals as goal

pub overflow_add-i : goal.overflow_add-i
overflow_add-i c =
    let a = c.args in
    omega (arith, next_at a.stride a.klen a.held a.fresh a.rec.now a.t.now _ _ c.find_in.ensures c.in-Ok.is)

pub lift-requires : goal.lift-requires
lift-requires c =
    let a = c.args in
    let p = c.requires in
    let z = next_at a.stride a.klen a.held a.fresh a.rec.now a.t.now _ _ c.find_in.ensures c.in-Ok.is in
    (omega arith, omega arith, p.klen_le_stride.1, p.klen_le_stride.2, p.klen_le_stride.3)

pub lift-requires-in-Err : goal.lift-requires-in-Err
lift-requires-in-Err c =
    let a = c.args in
    let p = c.requires in
    let z = next_gap a.stride a.klen a.held a.fresh a.rec.now a.t.now _ _ c.find_in.ensures c.in-Err.is p.bound in
    (z.0, omega (arith, z.1), p.klen_le_stride.1, p.klen_le_stride.2, p.klen_le_stride.3)

pub overflow_sub-result : goal.overflow_sub-result
overflow_sub-result c =
    let a = c.args in
    omega (arith, (next_gap a.stride a.klen a.held a.fresh a.rec.now a.t.now _ _ c.find_in.ensures c.in-Err.is c.requires.bound).1)

pub returns-in-Ok : goal.returns-in-Ok
returns-in-Ok c =
    let a = c.args in
    next_at_done a.stride a.klen a.held a.fresh a.rec.now a.t.now _ _ c.find_in.ensures c.in-Ok.is _ c.lift.ensures

pub returns-in-Err : goal.returns-in-Err
returns-in-Err c =
    let a = c.args in
    next_gap_done a.stride a.klen a.held a.fresh a.rec.now a.t.now _ _ c.find_in.ensures c.in-Err.is _ c.lift-in-Err.ensures
