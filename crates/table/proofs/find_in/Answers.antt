-- `table::find_in` meets its contract: the place of the key, and whether the record there has it.
use mathlib.Core.Path.{sym}
use Prim.Native.Nat.{◌+◌, ◌*◌, ◌<◌, ◌≤◌}
use native.Mathlib.Omega.{arith}
use Rattle.table.proofs.Rows.{rows_lt}
use Rattle.table.proofs.Checks.{find_end, find_hit, find_miss}
use Rattle.table.proofs.find_in.Goals as goal

pub returns-then-i-n : goal.returns-then-i-n
returns-then-i-n c =
    let a = c.args in
    sym (find_end a.stride a.klen a.n a.t.now a.key.now c.requires.klen_le_stride.0 _ c.seek_in-i.ensures.0 c.if-i-n.true)

pub overflow_mul-i : goal.overflow_mul-i
overflow_mul-i c =
    -- not at the end: a record's place
    let inside : c.seek_in-i.result < c.args.n = omega (arith, c.seek_in-i.ensures.1, c.if-i-n.false) in
    let room : let a = c.args in c.seek_in-i.result * a.stride + a.stride ≤ a.n * a.stride = rows_lt c.args.stride (inside) in
    omega (arith, room)

pub overflow_add-i : goal.overflow_add-i
overflow_add-i c =
    let inside : c.seek_in-i.result < c.args.n = omega (arith, c.seek_in-i.ensures.1, c.if-i-n.false) in
    let room : let a = c.args in c.seek_in-i.result * a.stride + a.stride ≤ a.n * a.stride = rows_lt c.args.stride (inside) in
    omega (arith, room)

pub same-requires : goal.same-requires
same-requires c =
    let inside : c.seek_in-i.result < c.args.n = omega (arith, c.seek_in-i.ensures.1, c.if-i-n.false) in
    let room : let a = c.args in c.seek_in-i.result * a.stride + a.stride ≤ a.n * a.stride = rows_lt c.args.stride (inside) in
    omega (arith, room)

pub returns-then-same : goal.returns-then-same
returns-then-same c =
    let inside : c.seek_in-i.result < c.args.n = omega (arith, c.seek_in-i.ensures.1, c.if-i-n.false) in
    let a = c.args in
    sym (find_hit a.stride a.klen a.n a.t.now a.key.now c.requires.klen_le_stride.0 _ c.seek_in-i.ensures.0 (inside) _ c.same.ensures c.if-same.true)

pub returns : goal.returns
returns c =
    let inside : c.seek_in-i.result < c.args.n = omega (arith, c.seek_in-i.ensures.1, c.if-i-n.false) in
    let a = c.args in
    sym (find_miss a.stride a.klen a.n a.t.now a.key.now c.requires.klen_le_stride.0 _ c.seek_in-i.ensures.0 (inside) _ c.same.ensures c.if-same.false)
