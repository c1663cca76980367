-- `batch::lacking_later` meets its contract. The invariant: the key is lacking among all where it is among the records from i on.
use native.Mathlib.Omega.{arith}
use Rattle.batch.proofs.Turns.{later_same, later_other, later_done}
use Rattle.batch.proofs.lacking_later.Goals as goal

pub returns-then-same : goal.returns-then-same
returns-then-same c =
    let a = c.args in
    let l = c.loop-i in
    (later_same a.stride a.klen a.n l.i a.from a.first a.batch.now c.requires.0 (omega arith) _ c.same.ensures c.if-same.true _ l.invariant, omega arith)

pub loop-i-preserved : goal.loop-i-preserved
loop-i-preserved c =
    let a = c.args in
    let l = c.loop-i in
    later_other a.stride a.klen a.n l.i a.from a.first a.batch.now c.requires.0 (omega arith) _ c.same.ensures c.if-same.false _ l.invariant

pub returns : goal.returns
returns c =
    let a = c.args in
    let l = c.loop-i in
    (later_done a.stride a.klen a.n l.i a.from a.first a.batch.now (omega arith) _ l.invariant, omega arith)
