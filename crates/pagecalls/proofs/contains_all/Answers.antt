-- 1 or 2 for the range, 3 where the set is not in normal form; else what the set answers. Assumes nothing.
use Rattle.std.proofs.lemmas.Result.{err_from_is_err_and}
use Rattle.std.proofs.Common.{ap, ◌∙◌, sym}
use Rattle.basics.specs.Answers.{done}
use Rattle.pageset.specs.Sets.{normal}
use Rattle.pageset.specs.Rules.{all_rule}
use Rattle.basics.proofs.AskLaws.{stopped, passed}
use Rattle.basics.specs.Refusals.{code_of}
use Rattle.basics.proofs.RefusalLaws.{refusal_counts}
use Rattle.pagecalls.proofs.CallLaws.{not_so, so, range_stopped, range_passed, range_facts}
use mathlib.Core.Bool.{not}
use Rattle.pagecalls.proofs.contains_all.Goals as goal

pub returns-in_err-range_asked : goal.returns-in_err-range_asked
unfolding all_rule
returns-in_err-range_asked c = let p = err_from_is_err_and c.from_residual.result c.from_residual.ensures.1 in rw (p.1, p.2) (range_stopped c.args.a.0 c.args.b.0 _ _ (sym (ap code_of c.in_err-range_asked.was) ∙ c.range_asked.ensures) (refusal_counts _))

pub returns-then-not-is_normal : goal.returns-then-not-is_normal
unfolding all_rule
returns-then-not-is_normal c = let s = c.args.s in stopped _ (normal s) 3 (not_so _ (normal s) c.is_normal.ensures (ap not c.if-not-is_normal.true)) ∙ range_passed c.args.a.0 c.args.b.0 _ _ c.range_asked.ensures (ap code_of c.in_ok-range_asked.was)

pub contains_all-requires : goal.contains_all-requires
contains_all-requires c = let s = c.args.s in record { s_value = so _ (normal s) c.is_normal.ensures (ap not c.if-not-is_normal.false); a_nonzero = (range_facts c.args.a.0 c.args.b.0 _ c.range_asked.ensures (ap code_of c.in_ok-range_asked.was)).0; a_le_b = (range_facts c.args.a.0 c.args.b.0 _ c.range_asked.ensures (ap code_of c.in_ok-range_asked.was)).1 }

pub returns : goal.returns
unfolding all_rule
returns c = let s = c.args.s in ap done c.contains_all.ensures ∙ passed _ (normal s) 3 (so _ (normal s) c.is_normal.ensures (ap not c.if-not-is_normal.false)) ∙ range_passed c.args.a.0 c.args.b.0 _ _ c.range_asked.ensures (ap code_of c.in_ok-range_asked.was)
