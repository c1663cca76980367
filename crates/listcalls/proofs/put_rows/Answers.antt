-- 19 where the count is above the list's places, else one copy of the bytes behind the count. Assumes nothing.
use Rattle.std.proofs.Common.{ℕ, ◌*◌, ap, arith}
use Rattle.resultlists.proofs.EntryLaws.{slots_room}
use Rattle.listcalls.proofs.TableLaws.{rows_short, rows_put_lem}
use Rattle.listcalls.proofs.put_rows.Goals as goal

pub returns-then-list-stride : goal.returns-then-list-stride
returns-then-list-stride c = rows_short c.args.stride c.args.t.now _ _ c.count-n.result c.count-n.ensures.0 c.if-list-stride.true

pub overflow_mul-n : goal.overflow_mul-n
overflow_mul-n c =
    let e = ap (λ (n : ℕ). n * c.args.stride) c.count-n.ensures.0 in
    omega (arith, e, c.requires.2)

pub copy-requires : goal.copy-requires
copy-requires c =
    let e = ap (λ (n : ℕ). n * c.args.stride) c.count-n.ensures.0 in
    let h = slots_room c.args.stride c.count-n.result c.args.list.now c.if-list-stride.false in
    (omega arith, omega (arith, e, c.requires.2))

pub returns : goal.returns
returns c = rows_put_lem c.args.stride c.args.t.now _ _ c.count-n.result c.count-n.ensures.0 c.if-list-stride.false _ c.copy.ensures
