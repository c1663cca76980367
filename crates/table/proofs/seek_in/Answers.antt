-- `table::seek_in` meets its contract. The invariant: the place lies from low up to high; the measure: high - low.
use Prim.Native.Nat.{ℕ, ◌+◌, ◌*◌, ◌-◌, ◌/◌, ◌≤◌}
use native.Mathlib.Omega.{arith}
use Rattle.table.specs.Table.{runs}
use Rattle.table.proofs.Rows.{rows_lt, length_runs}
use Rattle.table.proofs.Spots.{place_le}
use Rattle.table.proofs.Checks.{seek_up, seek_down}
use Rattle.table.proofs.seek_in.Goals as goal

pub loop-low-init : goal.loop-low-init
loop-low-init c =
    let a = c.args in
    let rs = runs a.n a.stride 2 a.t.now in
    (omega arith, omega (arith, place_le a.klen a.key.now rs, length_runs a.stride a.n 2 a.t.now), omega arith)

pub overflow_sub-middle : goal.overflow_sub-middle
overflow_sub-middle c = omega arith

pub overflow_add-middle : goal.overflow_add-middle
overflow_add-middle c = omega arith

pub overflow_mul-middle : goal.overflow_mul-middle
overflow_mul-middle c =
    -- the middle is a record's place
    let middle : ℕ = c.loop-low.low + (c.loop-low.high - c.loop-low.low) / 2 in
    let room : let a = c.args in middle * a.stride + a.stride ≤ a.n * a.stride = rows_lt c.args.stride (omega arith) in
    omega (arith, room)

pub overflow_add-middle-in-loop-low : goal.overflow_add-middle-in-loop-low
overflow_add-middle-in-loop-low c =
    let middle : ℕ = c.loop-low.low + (c.loop-low.high - c.loop-low.low) / 2 in
    let room : let a = c.args in middle * a.stride + a.stride ≤ a.n * a.stride = rows_lt c.args.stride (omega arith) in
    omega (arith, room)

pub before-requires : goal.before-requires
before-requires c =
    let middle : ℕ = c.loop-low.low + (c.loop-low.high - c.loop-low.low) / 2 in
    let room : let a = c.args in middle * a.stride + a.stride ≤ a.n * a.stride = rows_lt c.args.stride (omega arith) in
    omega (arith, room)

pub overflow_add-low : goal.overflow_add-low
overflow_add-low c = omega arith

pub loop-low-smaller-then-before : goal.loop-low-smaller-then-before
loop-low-smaller-then-before c = omega arith

pub loop-low-preserved-then-before : goal.loop-low-preserved-then-before
loop-low-preserved-then-before c =
    let a = c.args in
    let l = c.loop-low in
    let m : ℕ = l.low + (l.high - l.low) / 2 in
    (seek_up a.stride a.klen a.n a.t.now a.key.now c.requires.klen_le_stride.0 m (omega arith) _ c.before-in-loop-low.ensures c.requires.t_value c.if-before.true, l.invariant.1, l.invariant.2)

pub loop-low-smaller : goal.loop-low-smaller
loop-low-smaller c = omega arith

pub loop-low-preserved : goal.loop-low-preserved
loop-low-preserved c =
    let a = c.args in
    let l = c.loop-low in
    let m : ℕ = l.low + (l.high - l.low) / 2 in
    (l.invariant.0, seek_down a.stride a.klen a.n a.t.now a.key.now c.requires.klen_le_stride.0 m (omega arith) _ c.before-in-loop-low.ensures c.if-before.false, omega arith)

pub returns : goal.returns
returns c = omega arith
