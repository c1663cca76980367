-- 1 for page 0, 3 where the set is not in normal form, 22 where the pages need over 32 windows; else the set with the page. Assumes nothing.
use Rattle.std.proofs.Common.{◌≡◌, ℕ, Bool, ◌||◌, eqb, ap, ◌∙◌, arith}
use Rattle.pageset.specs.declared.SetAnswer.{SetAnswer}
use Rattle.pageset.specs.Sets.{member, normal}
use Rattle.pageset.specs.Rules.{insert_rule}
use Rattle.basics.proofs.AskLaws.{stopped, passed, zero_stopped, zero_passed}
use Rattle.pagecalls.proofs.CallLaws.{gives_or_22, not_so, so, new_refused, new_done}
use Rattle.pageset.proofs.ResultLaws.{only_22, only_set}
use mathlib.Core.Bool.{not}
use Rattle.pagecalls.proofs.insert.Goals as goal

pub returns-then-p-eq0 : goal.returns-then-p-eq0
unfolding insert_rule
returns-then-p-eq0 c = let s = c.args.s in let p = c.args.p.0 in record { gives_or22 = gives_or_22 _ _ _ (zero_stopped _ p c.if-p-eq0.true) c.not_inserted.ensures.0; result_after = new_refused s p _ _ 1 c.not_inserted.ensures.1 (ap (λ (r : SetAnswer). r.code) c.not_inserted.ensures.0) (λ e. omega arith) }

pub returns-then-not-is_normal : goal.returns-then-not-is_normal
unfolding insert_rule
returns-then-not-is_normal c = let s = c.args.s in let p = c.args.p.0 in record { gives_or22 = gives_or_22 _ _ _ (stopped _ (normal s) 3 (not_so _ (normal s) c.is_normal.ensures (ap not c.if-not-is_normal.true)) ∙ zero_passed _ p c.if-p-eq0.false) c.not_inserted-then-not-is_normal.ensures.0; result_after = new_refused s p _ _ 3 c.not_inserted-then-not-is_normal.ensures.1 (ap (λ (r : SetAnswer). r.code) c.not_inserted-then-not-is_normal.ensures.0) (λ e. omega arith) }

pub union-sum-requires : goal.union-sum-requires
union-sum-requires c = let s = c.args.s in record { a_value = so _ (normal s) c.is_normal.ensures (ap not c.if-not-is_normal.false); b_value = c.single.ensures.normal }

pub returns-then-sum-ne0 : goal.returns-then-sum-ne0
unfolding insert_rule
returns-then-sum-ne0 c = let s = c.args.s in
    let p = c.args.p.0 in
    let one = c.single.result in
    let same : (q : ℕ) → (member s q || member one q) ≡ (member s q || eqb q p) = λ q. ap (λ (b : Bool). member s q || b) (c.single.ensures.pages q) in
    let rule = passed _ (normal s) 3 (so _ (normal s) c.is_normal.ensures (ap not c.if-not-is_normal.false)) ∙ zero_passed _ p c.if-p-eq0.false in record { gives_or22 = gives_or_22 _ _ _ rule (only_22 (λ q. member s q || member one q) (λ q. member s q || eqb q p) same c.union-sum.result c.union-sum.ensures c.if-sum-ne0.true _ c.not_inserted-then-sum-ne0.ensures.0); result_after = (new_refused s p _ _ 22 c.not_inserted-then-sum-ne0.ensures.1 (ap (λ (r : SetAnswer). r.code) c.not_inserted-then-sum-ne0.ensures.0) (λ e. omega arith)) }

pub contains-new-requires : goal.contains-new-requires
contains-new-requires c = let s = c.args.s in so _ (normal s) c.is_normal.ensures (ap not c.if-not-is_normal.false)

pub returns : goal.returns
unfolding insert_rule
returns c = let s = c.args.s in
    let p = c.args.p.0 in
    let one = c.single.result in
    let same : (q : ℕ) → (member s q || member one q) ≡ (member s q || eqb q p) = λ q. ap (λ (b : Bool). member s q || b) (c.single.ensures.pages q) in
    let rule = passed _ (normal s) 3 (so _ (normal s) c.is_normal.ensures (ap not c.if-not-is_normal.false)) ∙ zero_passed _ p c.if-p-eq0.false in record { gives_or22 = gives_or_22 _ _ _ rule (only_set (λ q. member s q || member one q) (λ q. member s q || eqb q p) same c.union-sum.result c.union-sum.ensures c.if-sum-ne0.false); result_after = (new_done s p c.contains-new.result c.contains-new.ensures) }
