-- Each test that fails makes the whole test fail; where all pass, page 0 is left to decide. Assumes nothing.
use Rattle.std.proofs.Common.{not, sym, ap, ◌∙◌, arith}
use Rattle.pageset.proofs.FormLaws.{too_many, not_blank, not_ordered, but_zero}
use Rattle.pageset.proofs.WalkLaws.{long_of}
use Rattle.pageset.proofs.form.is_normal.Goals as goal

pub returns-then-s-gt32 : goal.returns-then-s-gt32
returns-then-s-gt32 c = sym (too_many c.args.s c.if-s-gt32.true)

pub returns-then-not-clear_past : goal.returns-then-not-clear_past
returns-then-not-clear_past c = sym (not_blank c.args.s (sym c.clear_past.ensures ∙ c.if-not-clear_past.true))

pub returns-then-not-in_order : goal.returns-then-not-in_order
returns-then-not-in_order c = sym (not_ordered c.args.s (sym c.in_order.ensures ∙ c.if-not-in_order.true))

pub returns : goal.returns
returns c =
    ap not c.has_page.ensures
    ∙ but_zero c.args.s (omega arith) (long_of c.args.s _ c.well_formed.0) (sym c.clear_past.ensures ∙ c.if-not-clear_past.false)
    (sym c.in_order.ensures ∙ c.if-not-in_order.false)
