-- The windows passed were in order, so the test of what is left is the test of them all; the first window that is not in order makes it false.
-- Assumes nothing.
use Rattle.std.proofs.Common.{sym, ◌∙◌, arith}
use Rattle.setbytes.proofs.SetLaws.{ordered_low, ordered_high, ordered_empty, ordered_step, ordered_end}
use Rattle.setbytes.proofs.in_order.Goals as goal

pub returns-then-w-lo : goal.returns-then-w-lo
returns-then-w-lo c =
    let a = c.args in
    let l = c.loop-i in
    sym (ordered_low a.n a.at a.s.now l.i l.lo (omega arith) c.window_read-w.result c.window_read-w.ensures c.if-w-lo.true) ∙ l.invariant

pub returns-then-w-gt67108863 : goal.returns-then-w-gt67108863
returns-then-w-gt67108863 c =
    let a = c.args in
    let l = c.loop-i in
    sym (ordered_high a.n a.at a.s.now l.i l.lo (omega arith) c.window_read-w.result c.window_read-w.ensures (omega arith)) ∙ l.invariant

pub returns-then-w-eq0 : goal.returns-then-w-eq0
returns-then-w-eq0 c =
    let a = c.args in
    let l = c.loop-i in
    sym (ordered_empty a.n a.at a.s.now l.i l.lo (omega arith) c.window_read-w.result c.window_read-w.ensures c.if-w-eq0.true) ∙ l.invariant

pub loop-i-preserved : goal.loop-i-preserved
loop-i-preserved c =
    let a = c.args in
    let l = c.loop-i in
    sym (ordered_step a.n a.at a.s.now l.i l.lo (omega arith) c.window_read-w.result c.window_read-w.ensures (omega arith) (omega arith) (omega arith) (omega arith))
    ∙ l.invariant

pub returns : goal.returns
returns c =
    let a = c.args in
    let l = c.loop-i in
    sym (ordered_end a.n a.at a.s.now l.i l.lo (omega arith)) ∙ l.invariant
