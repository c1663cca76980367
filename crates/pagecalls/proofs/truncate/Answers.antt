-- 3 where the set is not in normal form; else its pages up to n. Assumes nothing.
use Rattle.std.proofs.Common.{refl}
use Rattle.pageset.specs.Sets.{normal}
use Rattle.pageset.specs.Rules.{truncate_rule}
use Rattle.basics.proofs.AskLaws.{stopped, passed}
use Rattle.pagecalls.proofs.CallLaws.{gives, not_so, so}
use mathlib.Core.Path.{ap}
use mathlib.Core.Bool.{not}
use Rattle.pagecalls.proofs.truncate.Goals as goal

pub returns-then-not-is_normal : goal.returns-then-not-is_normal
unfolding truncate_rule
returns-then-not-is_normal c = let s = c.args.s in gives _ _ _ (stopped _ (normal s) 3 (not_so _ (normal s) c.is_normal.ensures (ap not c.if-not-is_normal.true))) c.refusal.ensures

pub truncate-set-requires : goal.truncate-set-requires
truncate-set-requires c = let s = c.args.s in so _ (normal s) c.is_normal.ensures (ap not c.if-not-is_normal.false)

pub returns : goal.returns
unfolding truncate_rule
returns c = let s = c.args.s in gives _ _ _ (passed _ (normal s) 3 (so _ (normal s) c.is_normal.ensures (ap not c.if-not-is_normal.false))) (refl, c.truncate-set.ensures)
