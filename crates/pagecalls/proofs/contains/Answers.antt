-- 1 for page 0, 3 where the set is not in normal form; else what the set answers. Assumes nothing.
use Rattle.std.proofs.Common.{ap, ◌∙◌}
use Rattle.basics.specs.Answers.{done}
use Rattle.pageset.specs.Sets.{normal}
use Rattle.pageset.specs.Rules.{contains_rule}
use Rattle.basics.proofs.AskLaws.{stopped, passed, zero_stopped, zero_passed}
use Rattle.pagecalls.proofs.CallLaws.{not_so, so}
use mathlib.Core.Bool.{not}
use Rattle.pagecalls.proofs.contains.Goals as goal

pub returns-then-p-eq0 : goal.returns-then-p-eq0
unfolding contains_rule
returns-then-p-eq0 c = zero_stopped _ c.args.p.0 c.if-p-eq0.true

pub returns-then-not-is_normal : goal.returns-then-not-is_normal
unfolding contains_rule
returns-then-not-is_normal c = let s = c.args.s in stopped _ (normal s) 3 (not_so _ (normal s) c.is_normal.ensures (ap not c.if-not-is_normal.true)) ∙ zero_passed _ c.args.p.0 c.if-p-eq0.false

pub contains-requires : goal.contains-requires
contains-requires c = let s = c.args.s in so _ (normal s) c.is_normal.ensures (ap not c.if-not-is_normal.false)

pub returns : goal.returns
unfolding contains_rule
returns c = let s = c.args.s in ap done c.contains.ensures ∙ passed _ (normal s) 3 (so _ (normal s) c.is_normal.ensures (ap not c.if-not-is_normal.false)) ∙ zero_passed _ c.args.p.0 c.if-p-eq0.false
