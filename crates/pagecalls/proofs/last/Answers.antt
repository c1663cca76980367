-- 3 where the set is not in normal form; else what the set answers. Assumes nothing.
use Rattle.std.proofs.Common.{ap, ◌∙◌}
use Rattle.basics.specs.Answers.{done}
use Rattle.pageset.specs.Sets.{normal}
use Rattle.pageset.specs.Rules.{last_rule}
use Rattle.basics.proofs.AskLaws.{stopped, passed}
use Rattle.pagecalls.proofs.CallLaws.{not_so, so}
use mathlib.Core.Bool.{not}
use Rattle.pagecalls.proofs.last.Goals as goal

pub returns-then-not-is_normal : goal.returns-then-not-is_normal
unfolding last_rule
returns-then-not-is_normal c = let s = c.args.s in stopped _ (normal s) 3 (not_so _ (normal s) c.is_normal.ensures (ap not c.if-not-is_normal.true))

pub last-requires : goal.last-requires
last-requires c = let s = c.args.s in so _ (normal s) c.is_normal.ensures (ap not c.if-not-is_normal.false)

pub returns : goal.returns
unfolding last_rule
returns c = let s = c.args.s in ap done c.last.ensures ∙ passed _ (normal s) 3 (so _ (normal s) c.is_normal.ensures (ap not c.if-not-is_normal.false))
