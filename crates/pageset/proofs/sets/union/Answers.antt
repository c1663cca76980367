-- The invariant is `Merging` of the two sets by `bit_or`: up to a bound the set under way has the joined masks, and from there on what is left of
-- the two is all that they have. Each turn moves at least one of the two places on, so the measure is the windows left of both. Where 32 windows
-- are made and one is left, the pages need over 32. Assumes nothing.
use Rattle.std.proofs.Common.{◌≡◌, drop, refl, inl, inr, arith}
use Rattle.pageset.specs.Sets.{shown}
use lib.Bits.{bit_or}
use Rattle.pageset.proofs.FormLaws.{Normal, normal_fact}
use Rattle.pageset.proofs.WalkLaws.{head_of, head_is}
use Rattle.pageset.proofs.MergeLaws.{merge_start, merge_step}
use Rattle.pageset.proofs.JoinLaws.{or_none, or_fits, next_of_both, or_set, or_over}
use Rattle.pageset.proofs.sets.union.Goals as goal

pub loop-i-init : goal.loop-i-init
loop-i-init c = rw c.empty-set.ensures (merge_start bit_or _ _ (normal_fact c.args.a c.requires.a_value) (normal_fact c.args.b c.requires.b_value))

pub overflow_add-i : goal.overflow_add-i
overflow_add-i c = let t = (normal_fact c.args.a c.requires.a_value).tidy in let u = (normal_fact c.args.b c.requires.b_value).tidy in omega (arith, t.short, u.short, c.loop-i.invariant.a_most, c.loop-i.invariant.b_most)

pub overflow_add-a : goal.overflow_add-a
overflow_add-a c = let t = (normal_fact c.args.a c.requires.a_value).tidy in let u = (normal_fact c.args.b c.requires.b_value).tidy in omega (arith, t.short, u.short)

pub returns-then-set-ge32 : goal.returns-then-set-ge32
returns-then-set-ge32 c =
    let ta : Normal c.args.a = normal_fact c.args.a c.requires.a_value in
    let tb : Normal c.args.b = normal_fact c.args.b c.requires.b_value in
    inr (c.refusal.ensures, λ s h. or_over c.args.a c.args.b ta tb c.loop-i.i c.loop-i.k c.loop-i.set.len c.loop-i.set.windows c.loop-i.invariant s h (omega arith) (omega arith))

pub overflow_add-i-in-loop-i : goal.overflow_add-i-in-loop-i
overflow_add-i-in-loop-i c = let t = (normal_fact c.args.a c.requires.a_value).tidy in omega (arith, t.short, c.loop-i.invariant.a_most)

pub overflow_add-k : goal.overflow_add-k
overflow_add-k c = let t = (normal_fact c.args.b c.requires.b_value).tidy in omega (arith, t.short, c.loop-i.invariant.b_most)

pub loop-i-preserved : goal.loop-i-preserved
loop-i-preserved c =
    let ta : Normal c.args.a = normal_fact c.args.a c.requires.a_value in
    let tb : Normal c.args.b = normal_fact c.args.b c.requires.b_value in
    let x : c.head-x.result ≡ head_of (drop c.loop-i.i (shown c.args.a)) = cc (head_is c.args.a ta.tidy c.loop-i.i) in
    let y : c.head-y.result ≡ head_of (drop c.loop-i.k (shown c.args.b)) = cc (head_is c.args.b tb.tidy c.loop-i.k) in
    rw c.push.ensures
    (merge_step bit_or or_none or_fits c.args.a c.args.b ta tb c.loop-i.i c.loop-i.k c.loop-i.set.len c.loop-i.set.windows c.loop-i.invariant (omega arith)
    c.head-x.result c.head-y.result x y c.next_turn-t.result c.next_turn-t.ensures.value
    (next_of_both c.args.a c.args.b ta tb c.loop-i.i c.loop-i.k c.head-x.result c.head-y.result x y c.loop-i-test.true)
    (bit_or c.next_turn-t.result.left c.next_turn-t.result.right) refl)

pub returns : goal.returns
returns c =
    let ta : Normal c.args.a = normal_fact c.args.a c.requires.a_value in
    let tb : Normal c.args.b = normal_fact c.args.b c.requires.b_value in
    inl (refl, or_set c.args.a c.args.b ta tb c.loop-i.i c.loop-i.k c.loop-i.set.len c.loop-i.set.windows c.loop-i.invariant (omega arith))
