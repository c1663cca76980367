-- The tests are the checks of the rule, in its order; what passes them is the rule's answer as it is laid out. Assumes nothing.
use Rattle.std.proofs.Common.{sym, ap, ◌∙◌}
use Rattle.basics.specs.Answers.{done}
use Rattle.volume.specs.Snapshots.{laid_answer}
use Rattle.volume.proofs.SnapshotLaws.{places, own_lsns, range_lsns_lem, own_order, range_order_lem, not_formed, full, fits, laid_more}
use Rattle.volume.proofs.snapshot.Snapshot.append.Goals as goal

pub returns-then-not-has_lsns : goal.returns-then-not-has_lsns
returns-then-not-has_lsns c =
    ap
    laid_answer
    (own_lsns
    _
    _
    (sym c.has_lsns.ensures ∙ c.if-not-has_lsns.true))

pub returns-then-not-has_lsns-2 : goal.returns-then-not-has_lsns-2
returns-then-not-has_lsns-2 c =
    ap
    laid_answer
    (range_lsns_lem
    _
    _
    (sym c.has_lsns.ensures ∙ c.if-not-has_lsns.false)
    (sym c.has_lsns-2.ensures ∙ c.if-not-has_lsns-2.true))

pub returns-then-not-is_ordered : goal.returns-then-not-is_ordered
returns-then-not-is_ordered c =
    ap
    laid_answer
    (own_order
    _
    _
    (sym c.has_lsns.ensures ∙ c.if-not-has_lsns.false)
    (sym c.has_lsns-2.ensures ∙ c.if-not-has_lsns-2.false)
    (sym c.is_ordered.ensures ∙ c.if-not-is_ordered.true))

pub returns-then-not-is_ordered-2 : goal.returns-then-not-is_ordered-2
returns-then-not-is_ordered-2 c =
    ap
    laid_answer
    (range_order_lem
    _
    _
    (sym c.has_lsns.ensures ∙ c.if-not-has_lsns.false)
    (sym c.has_lsns-2.ensures ∙ c.if-not-has_lsns-2.false)
    (sym c.is_ordered.ensures ∙ c.if-not-is_ordered.false)
    (sym c.is_ordered-2.ensures ∙ c.if-not-is_ordered-2.true))

pub returns-then-not-is_formed : goal.returns-then-not-is_formed
returns-then-not-is_formed c =
    ap
    laid_answer
    (not_formed
    _
    _
    (sym c.has_lsns.ensures ∙ c.if-not-has_lsns.false)
    (sym c.has_lsns-2.ensures ∙ c.if-not-has_lsns-2.false)
    (sym c.is_ordered.ensures ∙ c.if-not-is_ordered.false)
    (sym c.is_ordered-2.ensures ∙ c.if-not-is_ordered-2.false)
    (sym c.is_formed.ensures ∙ c.if-not-is_formed.true))

pub returns-then-self-ge8 : goal.returns-then-self-ge8
returns-then-self-ge8 c =
    ap
    laid_answer
    (full
    _
    _
    (sym c.has_lsns.ensures ∙ c.if-not-has_lsns.false)
    (sym c.has_lsns-2.ensures ∙ c.if-not-has_lsns-2.false)
    (sym c.is_ordered.ensures ∙ c.if-not-is_ordered.false)
    (sym c.is_ordered-2.ensures ∙ c.if-not-is_ordered-2.false)
    (sym c.is_formed.ensures ∙ c.if-not-is_formed.false)
    (places c.args.self _ c.well_formed.0)
    c.if-self-ge8.true)

pub returns : goal.returns
returns c =
    ap
    done
    (c.with_range.ensures
    ∙ laid_more
    c.args.self
    c.args.range
    (places c.args.self _ c.well_formed.0)
    c.if-self-ge8.false
    (sym c.is_formed.ensures ∙ c.if-not-is_formed.false))
    ∙ ap
    laid_answer
    (fits
    _
    _
    (sym c.has_lsns.ensures ∙ c.if-not-has_lsns.false)
    (sym c.has_lsns-2.ensures ∙ c.if-not-has_lsns-2.false)
    (sym c.is_ordered.ensures ∙ c.if-not-is_ordered.false)
    (sym c.is_ordered-2.ensures ∙ c.if-not-is_ordered-2.false)
    (sym c.is_formed.ensures ∙ c.if-not-is_formed.false)
    (places c.args.self _ c.well_formed.0)
    c.if-self-ge8.false)
