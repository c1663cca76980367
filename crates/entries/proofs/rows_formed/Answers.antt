-- The invariant: the record before is in form and `last` has its numbers, and what is left of the question is asked of those from it on.
use Rattle.std.proofs.Common.{◌∙◌, arith}
use Rattle.entries.proofs.Pass.{rows_none, first_not, first_turn, turn_not, turn_below, next_turn, turn_end}
use mathlib.Core.Path.{ap}
use mathlib.Core.Bool.{not}
use Rattle.entries.proofs.rows_formed.Goals as goal

pub returns-then-n-eq0 : goal.returns-then-n-eq0
returns-then-n-eq0 g c = rows_none g.T.KeyTable.which c.args.s.now c.args.n c.if-n-eq0.true

pub returns-then-not-last : goal.returns-then-not-last
returns-then-not-last g c = first_not g.T.KeyTable.which c.args.s.now c.args.n (omega arith) c.row-last.result c.row-last.ensures c.if-not-last.true

pub loop-i-init : goal.loop-i-init
loop-i-init g c = first_turn g.T.KeyTable.which c.args.s.now c.args.n (omega arith) c.row-last.result c.row-last.ensures c.if-not-last.false

pub returns-then-not-row : goal.returns-then-not-row
returns-then-not-row g c =
    let l = c.loop-i in
    turn_not g.T.KeyTable.which c.args.s.now c.SIZE.result (c.SIZE.ensures ∙ g.met.T.KeyTable.sized) c.args.n l.i l.auto.i c.loop-i-test.true c.requires l.last c.row-row.result l.invariant c.row-row.ensures c.if-not-row.true

pub returns-then-not-below : goal.returns-then-not-below
returns-then-not-below g c =
    let l = c.loop-i in
    turn_below g.T.KeyTable.which c.args.s.now c.SIZE.result (c.SIZE.ensures ∙ g.met.T.KeyTable.sized) c.args.n l.i l.auto.i c.loop-i-test.true c.requires l.last c.row-row.result l.invariant c.row-row.ensures
    (λ j. (c.type_inv.s j).fits) c.if-not-row.false _ c.below.ensures (ap not c.if-not-below.true)

pub loop-i-preserved : goal.loop-i-preserved
loop-i-preserved g c =
    let l = c.loop-i in
    next_turn g.T.KeyTable.which c.args.s.now c.SIZE.result (c.SIZE.ensures ∙ g.met.T.KeyTable.sized) c.args.n l.i l.auto.i c.loop-i-test.true c.requires l.last c.row-row.result l.invariant c.row-row.ensures
    (λ j. (c.type_inv.s j).fits) c.if-not-row.false _ c.below.ensures (ap not c.if-not-below.false)

pub returns : goal.returns
returns g c = turn_end g.T.KeyTable.which c.args.s.now c.args.n c.loop-i.i c.loop-i-test.false c.loop-i.last c.loop-i.invariant
