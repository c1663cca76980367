-- 3 where a set is not in normal form; else the common pages, and the left set without them. Assumes nothing.
use Rattle.pageset.specs.Sets.{normal}
use Rattle.pageset.specs.Rules.{cut_rule, left_rule}
use Rattle.pagecalls.proofs.CallLaws.{gives, not_so, so, left_stopped, right_stopped, both_passed}
use mathlib.Core.Path.{ap}
use mathlib.Core.Bool.{not}
use Rattle.pagecalls.proofs.cut.Goals as goal

pub returns-then-not-is_normal : goal.returns-then-not-is_normal
unfolding cut_rule left_rule
returns-then-not-is_normal c = let a = c.args.a in let b = c.args.b in (gives _ _ _ (left_stopped _ (normal a) (normal b) 3 (not_so _ (normal a) c.is_normal.ensures (ap not c.if-not-is_normal.true))) c.no_cut.ensures.0, gives _ _ _ (left_stopped _ (normal a) (normal b) 3 (not_so _ (normal a) c.is_normal.ensures (ap not c.if-not-is_normal.true))) c.no_cut.ensures.1)

pub returns-then-not-is_normal-2 : goal.returns-then-not-is_normal-2
unfolding cut_rule left_rule
returns-then-not-is_normal-2 c = let a = c.args.a in let b = c.args.b in (gives _ _ _ (right_stopped _ (normal a) (normal b) 3 (not_so _ (normal b) c.is_normal-2.ensures (ap not c.if-not-is_normal-2.true))) c.no_cut-then-not-is_normal-2.ensures.0, gives _ _ _ (right_stopped _ (normal a) (normal b) 3 (not_so _ (normal b) c.is_normal-2.ensures (ap not c.if-not-is_normal-2.true))) c.no_cut-then-not-is_normal-2.ensures.1)

pub cut-requires : goal.cut-requires
cut-requires c = let a = c.args.a in let b = c.args.b in record { a_value = (so _ (normal a) c.is_normal.ensures (ap not c.if-not-is_normal.false)); b_value = (so _ (normal b) c.is_normal-2.ensures (ap not c.if-not-is_normal-2.false)) }

pub returns : goal.returns
unfolding cut_rule left_rule
returns c = let a = c.args.a in let b = c.args.b in let h = c.cut.ensures in (gives _ _ _ (both_passed _ (normal a) (normal b) 3 (so _ (normal a) c.is_normal.ensures (ap not c.if-not-is_normal.false)) (so _ (normal b) c.is_normal-2.ensures (ap not c.if-not-is_normal-2.false))) (h.0, h.1), gives _ _ _ (both_passed _ (normal a) (normal b) 3 (so _ (normal a) c.is_normal.ensures (ap not c.if-not-is_normal.false)) (so _ (normal b) c.is_normal-2.ensures (ap not c.if-not-is_normal-2.false))) (h.0, h.2))
