-- The tests are the checks of the rule, in its order. Assumes nothing.
use Rattle.std.proofs.Common.{◌≡◌, sym, ap, ◌∙◌, arith}
use Rattle.basics.specs.Answers.{done}
use Rattle.volume.specs.declared.snapshot.Snapshot.{Snapshot}
use Rattle.volume.specs.Snapshots.{laid, laid_answer, with_range}
use Rattle.volume.proofs.SnapshotLaws.{new_lsns, new_order, new_done, laid_one}
use Rattle.volume.proofs.snapshot.Snapshot.new.Goals as goal

pub returns-then-not-has_lsns : goal.returns-then-not-has_lsns
returns-then-not-has_lsns c = ap laid_answer (new_lsns _ _ (sym c.has_lsns.ensures ∙ c.if-not-has_lsns.true))

pub returns-then-not-is_ordered : goal.returns-then-not-is_ordered
returns-then-not-is_ordered c =
    ap
    laid_answer
    (new_order
    _
    _
    (sym c.has_lsns.ensures ∙ c.if-not-has_lsns.false)
    (sym c.is_ordered.ensures ∙ c.if-not-is_ordered.true))

pub with_range-requires : goal.with_range-requires
unfolding laid
with_range-requires c =
    let e : c.empty.result.len ≡ 0 = ap (λ (s : Snapshot). s.len) c.empty.ensures in
    omega arith

pub returns : goal.returns
returns c =
    ap
    done
    (c.with_range.ensures
    ∙ ap (λ (s : Snapshot). with_range s c.args.range) c.empty.ensures
    ∙ laid_one c.args.range c.args.count.0)
    ∙ ap
    laid_answer
    (new_done
    _
    _
    (sym c.has_lsns.ensures ∙ c.if-not-has_lsns.false)
    (sym c.is_ordered.ensures ∙ c.if-not-is_ordered.false))
