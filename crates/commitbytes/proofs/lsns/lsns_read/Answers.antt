-- The array holds the LSNs passed, and zeros past them. Assumes nothing.
use Rattle.std.proofs.Common.{ℕ, ◌+◌, ◌*◌, length, set, ap, ◌∙◌, arith, rules}
use Rattle.octets.specs.Bytes.{be, part}
use Rattle.octets.proofs.Tabs.{tab_none, tab_more}
use Rattle.basics.specs.declared.lsn.Lsn.{Lsn}
use Rattle.commit.specs.Builders.{zero_lsns}
use Rattle.basics.specs.Says.{lsn_laid}
use Rattle.commitbytes.proofs.LsnLaws.{lsns_made}
use Rattle.commitbytes.proofs.lsns.lsns_read.Goals as goal

pub loop-i-init : goal.loop-i-init
loop-i-init c = (ap length c.no_checkpoints-ns.ensures, c.no_checkpoints-ns.ensures ∙ tab_none _ _)

pub load64-requires : goal.load64-requires
load64-requires c = omega (arith, c.count_read-n.ensures)

pub bounds-ns-i : goal.bounds-ns-i
bounds-ns-i c = omega (arith, c.count_read-n.ensures)

pub loop-i-preserved : goal.loop-i-preserved
loop-i-preserved c =
    let a = c.args in
    let l = c.loop-i in
    let f : ℕ → Lsn = λ k. lsn_laid (be (part (a.at + 1 + k * 8) 8 a.s.now)) in
    (search rules, ap (λ (w : ℕ). set l.ns l.i (lsn_laid w)) c.load64.ensures ∙ tab_more f zero_lsns l.ns (lsn_laid 0) l.i l.invariant.1 (omega (arith, c.count_read-n.ensures)))

pub returns : goal.returns
returns c =
    let l = c.loop-i in
    lsns_made c.args.s.now c.args.at c.requires _ c.count_read-n.ensures l.ns l.i l.invariant.1 (omega arith)
