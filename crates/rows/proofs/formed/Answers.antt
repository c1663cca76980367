-- The invariant: the whole test is that of the rows from i on, so a row that is not in form or the end of the rows decides.
use Rattle.std.proofs.Common.{arith}
use Rattle.rows.proofs.Checks.{check_no, check_two, check_start, check_room, check_next, check_stop, check_end}
use Rattle.rows.proofs.formed.Goals as goal

pub returns-then-not-well_ordered : goal.returns-then-not-well_ordered
returns-then-not-well_ordered g c = check_no g.K.Kind.form g.K.Kind.table g.K.Kind.SIZE g.K.Kind.KEY g.met.K.Kind.tests c.args.t.now c.SIZE.result c.KEY.result c.SIZE.ensures c.KEY.ensures c.well_ordered.result c.well_ordered.ensures c.if-not-well_ordered.true

pub count-i-end-requires : goal.count-i-end-requires
count-i-end-requires g c = check_two g.K.Kind.form g.K.Kind.table g.K.Kind.SIZE g.K.Kind.KEY g.met.K.Kind.tests c.args.t.now c.SIZE.result c.KEY.result c.SIZE.ensures c.KEY.ensures c.well_ordered.result c.well_ordered.ensures c.if-not-well_ordered.false

pub loop-i-init : goal.loop-i-init
loop-i-init g c = check_start g.K.Kind.form g.K.Kind.table g.K.Kind.SIZE g.K.Kind.KEY g.met.K.Kind.tests c.args.t.now c.SIZE.result c.KEY.result c.SIZE.ensures c.KEY.ensures c.well_ordered.result c.well_ordered.ensures c.if-not-well_ordered.false

pub overflow_mul-i : goal.overflow_mul-i
overflow_mul-i g c =
    omega (arith, check_room g.K.Kind.form g.K.Kind.table g.K.Kind.SIZE g.K.Kind.KEY g.met.K.Kind.tests c.args.t.now c.SIZE.result c.KEY.result c.SIZE.ensures c.KEY.ensures c.well_ordered.result c.well_ordered.ensures c.if-not-well_ordered.false g.met.K.Kind.sized c.SIZE-in-loop-i.result c.SIZE-in-loop-i.ensures c.loop-i.i (omega (arith, c.count-i-end.ensures.0, c.loop-i-test.true)))

pub overflow_add-i : goal.overflow_add-i
overflow_add-i g c =
    omega (arith, check_room g.K.Kind.form g.K.Kind.table g.K.Kind.SIZE g.K.Kind.KEY g.met.K.Kind.tests c.args.t.now c.SIZE.result c.KEY.result c.SIZE.ensures c.KEY.ensures c.well_ordered.result c.well_ordered.ensures c.if-not-well_ordered.false g.met.K.Kind.sized c.SIZE-in-loop-i.result c.SIZE-in-loop-i.ensures c.loop-i.i (omega (arith, c.count-i-end.ensures.0, c.loop-i-test.true)))

pub in_form-requires : goal.in_form-requires
in_form-requires g c =
    check_room g.K.Kind.form g.K.Kind.table g.K.Kind.SIZE g.K.Kind.KEY g.met.K.Kind.tests c.args.t.now c.SIZE.result c.KEY.result c.SIZE.ensures c.KEY.ensures c.well_ordered.result c.well_ordered.ensures c.if-not-well_ordered.false g.met.K.Kind.sized c.SIZE-in-loop-i.result c.SIZE-in-loop-i.ensures c.loop-i.i (omega (arith, c.count-i-end.ensures.0, c.loop-i-test.true))

pub returns-then-not-in_form : goal.returns-then-not-in_form
returns-then-not-in_form g c =
    check_stop g.K.Kind.form g.K.Kind.table g.K.Kind.SIZE g.K.Kind.KEY g.met.K.Kind.tests c.args.t.now
    c.SIZE-in-loop-i.result c.SIZE-in-loop-i.ensures c.loop-i.i (omega (arith, c.count-i-end.ensures.0, c.loop-i-test.true)) c.in_form.result c.in_form.ensures c.loop-i.invariant c.if-not-in_form.true

pub loop-i-preserved : goal.loop-i-preserved
loop-i-preserved g c =
    check_next g.K.Kind.form g.K.Kind.table g.K.Kind.SIZE g.K.Kind.KEY g.met.K.Kind.tests c.args.t.now
    c.SIZE-in-loop-i.result c.SIZE-in-loop-i.ensures c.loop-i.i (omega (arith, c.count-i-end.ensures.0, c.loop-i-test.true)) c.in_form.result c.in_form.ensures c.loop-i.invariant c.if-not-in_form.false

pub returns : goal.returns
returns g c = check_end g.K.Kind.form g.K.Kind.table g.K.Kind.SIZE g.K.Kind.KEY g.met.K.Kind.tests c.args.t.now c.loop-i.i (omega (arith, c.count-i-end.ensures.0, c.loop-i-test.false)) c.loop-i.invariant
