-- 3 where a set is not in normal form; else their pages together, or 22. Assumes nothing.
use Rattle.pageset.specs.Sets.{normal}
use Rattle.pageset.specs.Rules.{union_rule}
use Rattle.pagecalls.proofs.CallLaws.{gives_or_22, not_so, so, left_stopped, right_stopped, both_passed}
use mathlib.Core.Path.{ap}
use mathlib.Core.Bool.{not}
use Rattle.pagecalls.proofs.union.Goals as goal

pub returns-then-not-is_normal : goal.returns-then-not-is_normal
unfolding union_rule
returns-then-not-is_normal c = let a = c.args.a in let b = c.args.b in gives_or_22 _ _ _ (left_stopped _ (normal a) (normal b) 3 (not_so _ (normal a) c.is_normal.ensures (ap not c.if-not-is_normal.true))) c.refusal.ensures

pub returns-then-not-is_normal-2 : goal.returns-then-not-is_normal-2
unfolding union_rule
returns-then-not-is_normal-2 c = let a = c.args.a in let b = c.args.b in gives_or_22 _ _ _ (right_stopped _ (normal a) (normal b) 3 (not_so _ (normal b) c.is_normal-2.ensures (ap not c.if-not-is_normal-2.true))) c.refusal-then-not-is_normal-2.ensures

pub union-requires : goal.union-requires
union-requires c = let a = c.args.a in let b = c.args.b in record { a_value = (so _ (normal a) c.is_normal.ensures (ap not c.if-not-is_normal.false)); b_value = (so _ (normal b) c.is_normal-2.ensures (ap not c.if-not-is_normal-2.false)) }

pub returns : goal.returns
unfolding union_rule
returns c = let a = c.args.a in let b = c.args.b in gives_or_22 _ _ _ (both_passed _ (normal a) (normal b) 3 (so _ (normal a) c.is_normal.ensures (ap not c.if-not-is_normal.false)) (so _ (normal b) c.is_normal-2.ensures (ap not c.if-not-is_normal-2.false))) c.union.ensures
