-- Each test that fails makes the form fail; where all pass, the zeros behind the LSNs are left to decide. Assumes nothing.
use Rattle.std.proofs.Common.{sym, ◌∙◌, arith}
use Rattle.commitbytes.proofs.LsnLaws.{over_8, with_zero, but_clear}
use Rattle.commitbytes.proofs.lsns.lsns_form.Goals as goal

pub returns-then-n-gt8 : goal.returns-then-n-gt8
returns-then-n-gt8 c =
    sym (over_8 c.args.s.now (λ j. (c.type_inv.s j).fits) c.args.at c.requires (omega (arith, (c.from-n.ensures ∙ c.load8.ensures))))

pub returns-then-not-none_zero : goal.returns-then-not-none_zero
returns-then-not-none_zero c =
    sym (with_zero c.args.s.now (λ j. (c.type_inv.s j).fits) c.args.at c.requires _ (c.from-n.ensures ∙ c.load8.ensures) (omega arith) (sym c.none_zero.ensures ∙ c.if-not-none_zero.true))

pub returns : goal.returns
returns c =
    c.all_zero.ensures ∙ but_clear c.args.s.now (λ j. (c.type_inv.s j).fits) c.args.at c.requires _ (c.from-n.ensures ∙ c.load8.ensures) (omega arith) (sym c.none_zero.ensures ∙ c.if-not-none_zero.false)
