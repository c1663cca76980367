-- The lowest bit of the first window is the first page. Assumes nothing.
use Rattle.std.proofs.Common.{◌<◌, arith}
use Rattle.pageset.proofs.FormLaws.{Normal, normal_fact}
use Rattle.pageset.proofs.WalkLaws.{rises_at}
use Rattle.pageset.proofs.EdgeLaws.{none_lowest, first_small, first_lowest}
use Rattle.pageset.proofs.sets.first.Goals as goal

pub returns-then-n-eq0 : goal.returns-then-n-eq0
returns-then-n-eq0 c =
    let its : Normal c.args.s = normal_fact c.args.s c.requires in
    none_lowest c.args.s (its) c.if-n-eq0.true

pub overflow_mul-result : goal.overflow_mul-result
overflow_mul-result c =
    let its : Normal c.args.s = normal_fact c.args.s c.requires in
    let h : 0 < c.args.s.len = omega arith in
    omega (arith, rises_at c.args.s (its) 0 h, first_small c.args.s (its) h)

pub overflow_add-result : goal.overflow_add-result
overflow_add-result c =
    let its : Normal c.args.s = normal_fact c.args.s c.requires in
    let h : 0 < c.args.s.len = omega arith in
    omega (arith, rises_at c.args.s (its) 0 h, first_small c.args.s (its) h)

pub returns : goal.returns
returns c =
    let its : Normal c.args.s = normal_fact c.args.s c.requires in
    first_lowest c.args.s (its) (omega arith)
