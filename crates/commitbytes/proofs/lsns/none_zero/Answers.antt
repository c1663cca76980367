-- The LSNs passed were not 0, so what is left decides. Assumes nothing.
use Rattle.std.proofs.Common.{sym, ◌∙◌, arith}
use Rattle.commitbytes.proofs.LsnLaws.{counts_zero, counts_step, counts_end}
use Rattle.commitbytes.proofs.lsns.none_zero.Goals as goal

pub returns-then-lsn-eq0 : goal.returns-then-lsn-eq0
returns-then-lsn-eq0 c =
    let a = c.args in
    let l = c.loop-i in
    sym (counts_zero a.n a.at a.s.now l.i (omega arith) c.load64-lsn.result c.load64-lsn.ensures c.if-lsn-eq0.true) ∙ l.invariant

pub loop-i-preserved : goal.loop-i-preserved
loop-i-preserved c =
    let a = c.args in
    let l = c.loop-i in
    sym (counts_step a.n a.at a.s.now l.i (omega arith) c.load64-lsn.result c.load64-lsn.ensures c.if-lsn-eq0.false) ∙ l.invariant

pub returns : goal.returns
returns c =
    let a = c.args in
    let l = c.loop-i in
    sym (counts_end a.n a.at a.s.now l.i (omega arith)) ∙ l.invariant
