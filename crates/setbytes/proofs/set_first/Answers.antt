-- The first window's index and the lowest bit of its mask make the first page; both are within their limits in a set in form. Assumes nothing.
use Rattle.std.proofs.Common.{sym, ◌∙◌, arith}
use Rattle.setbytes.proofs.SetLaws.{first_none, first_within, first_some}
use Rattle.setbytes.proofs.set_first.Goals as goal

pub returns-then-load8-eq0 : goal.returns-then-load8-eq0
returns-then-load8-eq0 c =
    first_none c.args.s.now c.args.at c.requires.at_in_bounds c.requires.s_value (sym c.load8.ensures ∙ c.if-load8-eq0.true)

pub overflow_mul-result : goal.overflow_mul-result
overflow_mul-result c =
    omega (arith, first_within c.args.s.now c.args.at c.requires.at_in_bounds c.requires.s_value (λ e. c.if-load8-eq0.false (c.load8.ensures ∙ e)) c.load32-index.result c.load64-mask.result c.load32-index.ensures c.load64-mask.ensures)

pub overflow_add-result : goal.overflow_add-result
overflow_add-result c =
    omega (arith, first_within c.args.s.now c.args.at c.requires.at_in_bounds c.requires.s_value (λ e. c.if-load8-eq0.false (c.load8.ensures ∙ e)) c.load32-index.result c.load64-mask.result c.load32-index.ensures c.load64-mask.ensures)

pub returns : goal.returns
returns c =
    first_some c.args.s.now c.args.at c.requires.at_in_bounds c.requires.s_value (λ e. c.if-load8-eq0.false (c.load8.ensures ∙ e)) c.load32-index.result c.load64-mask.result c.load32-index.ensures c.load64-mask.ensures
