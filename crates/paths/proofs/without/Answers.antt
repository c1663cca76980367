-- The invariant: the ranges kept so far are those of the first i that do not name the log, and the places behind them are as they were.
use Rattle.std.proofs.Common.{◌≡◌, ℕ, ◌<◌, length, take, sym, refl, ap, ◌∙◌, arith, length-set, rules}
use Rattle.rules.proofs.Facts.{id_is}
use Rattle.paths.specs.Left.{others}
use Rattle.paths.proofs.LeftLaws.{other_kept, own_left, rest_stays, none_kept, all_kept}
use Rattle.paths.proofs.without.Goals as goal
use Rattle.paths.proofs.without.Goals.{then-not-same, else-not-same}

pub loop-i-init : goal.loop-i-init
loop-i-init c = (omega arith, search rules, none_kept c.args.log c.args.path, refl)

pub bounds-kept-n : goal.bounds-kept-n
bounds-kept-n c = omega arith

pub overflow_add-n : goal.overflow_add-n
overflow_add-n c = omega arith

pub loop-i-preserved : goal.loop-i-preserved
loop-i-preserved c =
    let l : length c.args.path ≡ 8 = search rules in
    let h : c.loop-i.i < length c.args.path = omega arith in
    let k : c.loop-i.n < length c.loop-i.kept = omega (arith, c.loop-i.invariant) in
    elim c.if-not-same.branch [
      | then-not-same q ↦ rw (q.kept-is, q.n-is) (
        omega (arith, c.loop-i.invariant),
        length-set c.loop-i.kept c.loop-i.n _ ∙ c.loop-i.invariant.1,
        other_kept c.args.log c.args.path c.loop-i.kept c.loop-i.i c.loop-i.n _ h c.loop-i.invariant.2 k (sym (id_is _ _) ∙ sym c.same.ensures ∙ q.if-not-same.true),
        rest_stays c.args.path c.loop-i.kept c.loop-i.n _ c.loop-i.invariant.3,
      )
      | else-not-same q ↦ rw (q.kept-is, q.n-is) (
        omega (arith, c.loop-i.invariant),
        c.loop-i.invariant.1,
        own_left c.args.log c.args.path c.loop-i.kept c.loop-i.i c.loop-i.n _ h c.loop-i.invariant.2 (sym (id_is _ _) ∙ sym c.same.ensures ∙ q.if-not-same.false),
        c.loop-i.invariant.3,
      )
    ]

pub returns : goal.returns
returns c =
    let e : c.loop-i.i ≡ c.args.len = omega arith in
    all_kept c.args.log c.args.path c.loop-i.kept c.loop-i.n c.args.len (omega (arith, c.loop-i.invariant)) (c.loop-i.invariant.2 ∙ ap (λ (n : ℕ). others c.args.log (take n c.args.path)) e) c.loop-i.invariant.3
