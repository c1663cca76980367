-- A flag of 0 says that nothing is there. Assumes nothing.
use Rattle.std.proofs.Common.{Bool, cond, sym, ap, ◌∙◌, eq-eqb, ne_eqb}
use Rattle.commit.specs.declared.Presence.TheVariants.{Missing, Given}
use Rattle.commitbytes.proofs.parts.flag_read.Goals as goal

pub returns-then-load8-eq0 : goal.returns-then-load8-eq0
returns-then-load8-eq0 c = sym (ap (λ (b : Bool). cond b Missing Given) (eq-eqb _ 0 (sym c.load8.ensures ∙ c.if-load8-eq0.true)))

pub returns : goal.returns
returns c = sym (ap (λ (b : Bool). cond b Missing Given) (ne_eqb _ 0 (λ e. c.if-load8-eq0.false (c.load8.ensures ∙ e))))
