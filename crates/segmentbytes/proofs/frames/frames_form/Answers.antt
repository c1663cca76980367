-- Each test that fails makes the form fail; where all pass, the zeros behind the frames are left to decide. Assumes nothing.
use Rattle.std.proofs.Common.{sym, ◌∙◌, arith}
use Rattle.segmentbytes.proofs.DomainLaws.{over_16, not_domain, but_clear}
use Rattle.segmentbytes.proofs.frames.frames_form.Goals as goal

pub returns-then-n-gt16 : goal.returns-then-n-gt16
returns-then-n-gt16 c =
    sym (over_16 c.args.s.now (λ j. (c.type_inv.s j).fits) c.args.at c.requires _ (omega (arith, (c.from-n.ensures ∙ c.load8.ensures))))

pub returns-then-not-in_domain : goal.returns-then-not-in_domain
returns-then-not-in_domain c =
    sym (not_domain c.args.s.now (λ j. (c.type_inv.s j).fits) c.args.at c.requires _ _ (c.from-n.ensures ∙ c.load8.ensures) (omega arith) (sym c.in_domain.ensures ∙ c.if-not-in_domain.true))

pub returns : goal.returns
returns c =
    c.all_zero.ensures ∙ but_clear c.args.s.now (λ j. (c.type_inv.s j).fits) c.args.at c.requires _ _ (c.from-n.ensures ∙ c.load8.ensures) (omega arith) (sym c.in_domain.ensures ∙ c.if-not-in_domain.false)
