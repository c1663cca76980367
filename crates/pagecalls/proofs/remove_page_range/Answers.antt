-- 1 or 2 for the range, 3 where the set is not in normal form; else its pages outside the range. Assumes nothing.
use Rattle.std.proofs.Common.{refl, ◌∙◌, sym, ap}
use Rattle.pageset.specs.Sets.{normal}
use Rattle.pageset.specs.Rules.{remove_rule}
use Rattle.basics.proofs.AskLaws.{stopped, passed}
use Rattle.basics.specs.Refusals.{code_of}
use Rattle.basics.proofs.RefusalLaws.{refusal_counts}
use Rattle.pagecalls.proofs.CallLaws.{gives, not_so, so, range_stopped, range_passed, range_facts}
use mathlib.Core.Path.{ap}
use mathlib.Core.Bool.{not}
use Rattle.pagecalls.proofs.remove_page_range.Goals as goal

pub returns-in-Err : goal.returns-in-Err
unfolding remove_rule
returns-in-Err c = gives _ _ _ (range_stopped c.args.a.0 c.args.b.0 _ _ (c.number.ensures ∙ sym (ap code_of c.in-Err.is) ∙ c.range_asked.ensures) (λ z. refusal_counts _ (sym c.number.ensures ∙ z))) c.refusal.ensures

pub returns-then-not-is_normal : goal.returns-then-not-is_normal
unfolding remove_rule
returns-then-not-is_normal c = let s = c.args.s in gives _ _ _ (stopped _ (normal s) 3 (not_so _ (normal s) c.is_normal.ensures (ap not c.if-not-is_normal.true)) ∙ range_passed c.args.a.0 c.args.b.0 _ _ c.range_asked.ensures (ap code_of c.in-Ok.is)) c.refusal-then-not-is_normal.ensures

pub remove_page_range-set-requires : goal.remove_page_range-set-requires
remove_page_range-set-requires c = let s = c.args.s in record { s_value = so _ (normal s) c.is_normal.ensures (ap not c.if-not-is_normal.false); a_nonzero = (range_facts c.args.a.0 c.args.b.0 _ c.range_asked.ensures (ap code_of c.in-Ok.is)).0 }

pub returns-else-not-is_normal : goal.returns-else-not-is_normal
unfolding remove_rule
returns-else-not-is_normal c = let s = c.args.s in gives _ _ _ (passed _ (normal s) 3 (so _ (normal s) c.is_normal.ensures (ap not c.if-not-is_normal.false)) ∙ range_passed c.args.a.0 c.args.b.0 _ _ c.range_asked.ensures (ap code_of c.in-Ok.is)) (refl, c.remove_page_range-set.ensures)
