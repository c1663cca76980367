-- `table::in_order` meets its contract. The invariant: the keys of all rise where those from record i - 1 on do.
use mathlib.Core.Path.{sym, ap, ◌∙◌}
use mathlib.Core.Bool.{not}
use native.Mathlib.Omega.{arith}
use Rattle.table.proofs.Checks.{ahead_start, ahead_more, ahead_not, ahead_end}
use Rattle.table.proofs.in_order.Goals as goal

pub loop-i-init : goal.loop-i-init
loop-i-init c = let a = c.args in ahead_start a.stride a.klen a.n a.t.now

pub returns-then-not-before : goal.returns-then-not-before
returns-then-not-before c =
    let a = c.args in
    let l = c.loop-i in
    sym (l.invariant ∙ ahead_not a.stride a.klen a.n a.t.now l.i c.requires.0 (omega arith) (omega arith) _ c.before-in-loop-i.ensures (ap not c.if-not-before.true))

pub loop-i-preserved : goal.loop-i-preserved
loop-i-preserved c =
    let a = c.args in
    let l = c.loop-i in
    l.invariant ∙ ahead_more a.stride a.klen a.n a.t.now l.i c.requires.0 (omega arith) (omega arith) _ c.before-in-loop-i.ensures (ap not c.if-not-before.false)

pub returns : goal.returns
returns c =
    let a = c.args in
    sym (c.loop-i.invariant ∙ ahead_end a.stride a.klen a.n a.t.now _ (omega arith))
