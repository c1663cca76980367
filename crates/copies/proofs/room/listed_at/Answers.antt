-- The invariant: whether it is among those from here on is whether it is among all.
use Rattle.std.proofs.Common.{◌≡◌, ℕ, ◌+◌, ◌-◌, ◌*◌, eqb, sym, ap, ap₂, ◌∙◌, arith}
use Rattle.rules.specs.Lists.{any}
use Rattle.commitbytes.specs.Laid.{lsns_at}
use Rattle.copies.proofs.Counting.{listed_here, listed_next, listed_end}
use Rattle.copies.proofs.room.listed_at.Goals as goal

pub loop-i-init : goal.loop-i-init
loop-i-init c =
    let m : c.args.n - 0 ≡ c.args.n = omega arith in
    let p : c.args.at + 0 * 8 ≡ c.args.at = omega arith in
    ap₂ (λ (n at : ℕ). any (eqb c.args.lsn) (lsns_at n at c.args.s.now)) m p

pub returns-then-load64-lsn : goal.returns-then-load64-lsn
returns-then-load64-lsn c = let i = c.loop-i.i in
    sym (listed_here c.args.lsn (c.args.n - i) (c.args.n - (i + 1)) (c.args.at + i * 8) c.args.s.now (omega arith) c.load64.result c.load64.ensures c.if-load64-lsn.true) ∙ c.loop-i.invariant

pub loop-i-preserved : goal.loop-i-preserved
loop-i-preserved c = let i = c.loop-i.i in
    let p : c.args.at + i * 8 + 8 ≡ c.args.at + (i + 1) * 8 = omega arith in
    ap (λ (at : ℕ). any (eqb c.args.lsn) (lsns_at (c.args.n - (i + 1)) at c.args.s.now)) (sym p)
    ∙ listed_next c.args.lsn (c.args.n - i) (c.args.n - (i + 1)) (c.args.at + i * 8) c.args.s.now (omega arith) c.load64.result c.load64.ensures c.if-load64-lsn.false
    ∙ c.loop-i.invariant

pub returns : goal.returns
returns c = let i = c.loop-i.i in sym (listed_end c.args.lsn (c.args.at + i * 8) (c.args.n - i) c.args.s.now (omega arith)) ∙ c.loop-i.invariant
