-- 1 or 2 for the range; else its set, or 22. Assumes nothing.
use Rattle.std.proofs.Common.{sym, ap, ◌∙◌}
use Rattle.pageset.specs.Rules.{range_rule}
use Rattle.basics.specs.Refusals.{code_of}
use Rattle.basics.proofs.RefusalLaws.{refusal_counts}
use Rattle.pagecalls.proofs.CallLaws.{gives_or_22, range_stopped, range_passed, range_facts}
use Rattle.pagecalls.proofs.from_range.Goals as goal

pub returns-in-Err : goal.returns-in-Err
unfolding range_rule
returns-in-Err c = gives_or_22 _ _ _ (range_stopped c.args.a.0 c.args.b.0 _ _ (c.number.ensures ∙ sym (ap code_of c.in-Err.is) ∙ c.range_asked.ensures) (λ z. refusal_counts _ (sym c.number.ensures ∙ z))) c.refusal.ensures

pub from_range-requires : goal.from_range-requires
from_range-requires c = let whole = range_facts c.args.a.0 c.args.b.0 _ c.range_asked.ensures (ap code_of c.in-Ok.is) in
    record { a_nonzero = whole.0; a_le_b = whole.1 }

pub returns-in-Ok : goal.returns-in-Ok
unfolding range_rule
returns-in-Ok c = gives_or_22 _ _ _ (range_passed c.args.a.0 c.args.b.0 _ _ c.range_asked.ensures (ap code_of c.in-Ok.is)) c.from_range.ensures
