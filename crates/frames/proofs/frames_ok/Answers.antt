-- Each test that fails makes the whole test fail; where all pass, the domain is left to decide. Assumes nothing.
use Rattle.std.proofs.Common.{sym, ◌∙◌, arith, rules}
use Rattle.frames.proofs.FrameLaws.{not_normal, too_many, not_clear, but_domain}
use Rattle.frames.proofs.frames_ok.Goals as goal

pub returns-then-not-is_normal : goal.returns-then-not-is_normal
returns-then-not-is_normal c = sym (not_normal c.args.s (sym c.is_normal.ensures ∙ c.if-not-is_normal.true))

pub returns-then-s-gt16 : goal.returns-then-s-gt16
returns-then-s-gt16 c = sym (too_many c.args.s c.if-s-gt16.true)

pub returns-then-not-clear_past : goal.returns-then-not-clear_past
returns-then-not-clear_past c = sym (not_clear c.args.s (sym c.clear_past.ensures ∙ c.if-not-clear_past.true))

pub in_domain-requires : goal.in_domain-requires
in_domain-requires c = record { pages_value = sym c.is_normal.ensures ∙ c.if-not-is_normal.false; len_bound = search rules }

pub returns : goal.returns
returns c =
    c.in_domain.ensures
    ∙ but_domain c.args.s (sym c.is_normal.ensures ∙ c.if-not-is_normal.false) (omega arith) (sym c.clear_past.ensures ∙ c.if-not-clear_past.false)
