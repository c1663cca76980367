-- Each test that fails makes the form fail; where all pass, the zeros behind the windows are left to decide. Assumes nothing.
use Rattle.std.proofs.Common.{sym, ◌∙◌, arith}
use Rattle.setbytes.proofs.SetLaws.{over_32, not_ordered, with_zero, but_clear}
use Rattle.setbytes.proofs.set_form.Goals as goal

pub returns-then-n-gt32 : goal.returns-then-n-gt32
returns-then-n-gt32 c =
    sym (over_32 c.args.s.now (λ j. (c.type_inv.s j).fits) c.args.at c.requires (omega (arith, (c.from-n.ensures ∙ c.load8.ensures))))

pub returns-then-not-in_order : goal.returns-then-not-in_order
returns-then-not-in_order c =
    sym (not_ordered c.args.s.now (λ j. (c.type_inv.s j).fits) c.args.at c.requires _ (c.from-n.ensures ∙ c.load8.ensures) (omega arith) (sym c.in_order.ensures ∙ c.if-not-in_order.true))

pub has_page_zero-requires : goal.has_page_zero-requires
has_page_zero-requires c = record { n_in_bounds = omega arith; s_value = sym c.in_order.ensures ∙ c.if-not-in_order.false }

pub returns-then-has_page_zero : goal.returns-then-has_page_zero
returns-then-has_page_zero c =
    sym (with_zero c.args.s.now (λ j. (c.type_inv.s j).fits) c.args.at c.requires _ (c.from-n.ensures ∙ c.load8.ensures) (omega arith) (sym c.has_page_zero.ensures ∙ c.if-has_page_zero.true))

pub returns : goal.returns
returns c =
    c.all_zero.ensures
    ∙ but_clear c.args.s.now (λ j. (c.type_inv.s j).fits) c.args.at c.requires _ (c.from-n.ensures ∙ c.load8.ensures) (omega arith) (sym c.in_order.ensures ∙ c.if-not-in_order.false) (sym c.has_page_zero.ensures ∙ c.if-has_page_zero.false)
