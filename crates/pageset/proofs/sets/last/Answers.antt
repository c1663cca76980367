-- The highest bit of the last window is the last page. Assumes nothing.
use Rattle.std.proofs.Common.{◌-◌, ◌<◌, arith}
use Rattle.pageset.proofs.FormLaws.{Normal, normal_fact}
use Rattle.pageset.proofs.WalkLaws.{rises_at}
use Rattle.pageset.proofs.EdgeLaws.{none_highest, high, last_highest}
use Rattle.pageset.proofs.sets.last.Goals as goal

pub returns-then-n-eq0 : goal.returns-then-n-eq0
returns-then-n-eq0 c =
    let its : Normal c.args.s = normal_fact c.args.s c.requires in
    none_highest c.args.s (its) c.if-n-eq0.true

pub offset_bounds-ws-i : goal.offset_bounds-ws-i
offset_bounds-ws-i c =
    let its : Normal c.args.s = normal_fact c.args.s c.requires in
    omega (arith, (its).tidy.short)

pub bounds-ws-i : goal.bounds-ws-i
bounds-ws-i c =
    let its : Normal c.args.s = normal_fact c.args.s c.requires in
    omega (arith, (its).tidy.short)

pub overflow_sub-b : goal.overflow_sub-b
overflow_sub-b c =
    let its : Normal c.args.s = normal_fact c.args.s c.requires in
    let h : 0 < c.args.s.len = omega arith in
    omega (arith, (high c.args.s (its) h).1)

pub overflow_mul-result : goal.overflow_mul-result
overflow_mul-result c =
    let its : Normal c.args.s = normal_fact c.args.s c.requires in
    omega (arith, rises_at c.args.s (its) (c.args.s.len - 1) (omega arith))

pub overflow_add-result : goal.overflow_add-result
overflow_add-result c =
    let its : Normal c.args.s = normal_fact c.args.s c.requires in
    omega (arith, rises_at c.args.s (its) (c.args.s.len - 1) (omega arith))

pub returns : goal.returns
returns c =
    let its : Normal c.args.s = normal_fact c.args.s c.requires in
    last_highest c.args.s (its) (omega arith)
