-- The invariant is `Merging` of the two sets twice, by `bit_and` into the common pages and by `and_not` into what is left of the left set. Each
-- turn moves at least one of the two places on; a window is made only where one of the left set is done, so neither set overflows. The measure
-- is the windows left of both. Assumes nothing.
use Rattle.std.proofs.Common.{◌≡◌, ◌<◌, get_or, drop, refl, ap, arith}
use Rattle.pageset.specs.declared.PageSet.{PageSet}
use Rattle.pageset.specs.Sets.{shown, zero_window}
use lib.Bits.{bit_and}
use Rattle.pageset.proofs.FormLaws.{Normal, normal_fact}
use Rattle.pageset.proofs.WalkLaws.{head_of, head_is, head_at_lem}
use Rattle.pageset.proofs.MergeLaws.{merge_start, merge_step, few_step}
use Rattle.pageset.proofs.JoinLaws.{and_not, and_none, and_fits, not_none, not_fits, next_of_left, and_set, not_set}
use Rattle.pageset.proofs.sets.cut.Goals as goal

pub loop-i-init : goal.loop-i-init
loop-i-init c =
    let ta : Normal c.args.a = normal_fact c.args.a c.requires.a_value in
    let tb : Normal c.args.b = normal_fact c.args.b c.requires.b_value in
    record {
      few_common = omega arith;
      few_left = omega arith;
      common = rw c.empty.ensures (merge_start bit_and _ _ ta tb);
      left = rw c.empty-2.ensures (merge_start and_not _ _ ta tb);
    }

pub offset_bounds-a-i : goal.offset_bounds-a-i
offset_bounds-a-i c = let t = (normal_fact c.args.a c.requires.a_value).tidy in omega (arith, t.short)

pub bounds-a-i : goal.bounds-a-i
bounds-a-i c = let t = (normal_fact c.args.a c.requires.a_value).tidy in omega (arith, t.short)

pub put-met-requires : goal.put-met-requires
put-met-requires c = let t = (normal_fact c.args.a c.requires.a_value).tidy in omega (arith, t.short, c.loop-i.invariant.few_common)

pub put-kept-requires : goal.put-kept-requires
put-kept-requires c = let t = (normal_fact c.args.a c.requires.a_value).tidy in omega (arith, t.short, c.loop-i.invariant.few_left)

pub overflow_add-k : goal.overflow_add-k
overflow_add-k c = let t = (normal_fact c.args.b c.requires.b_value).tidy in omega (arith, t.short, c.loop-i.invariant.common.b_most)

pub loop-i-preserved : goal.loop-i-preserved
loop-i-preserved c =
    let ta : Normal c.args.a = normal_fact c.args.a c.requires.a_value in
    let tb : Normal c.args.b = normal_fact c.args.b c.requires.b_value in
    let i = c.loop-i.i in
    let k = c.loop-i.k in
    let h : i < c.args.a.len = c.loop-i-test.true in
    let x : get_or c.args.a.windows i zero_window ≡ head_of (drop i (shown c.args.a)) = head_at_lem c.args.a ta.tidy i h in
    let y : c.head-y.result ≡ head_of (drop k (shown c.args.b)) = cc (head_is c.args.b tb.tidy k) in
    let q = next_of_left c.args.a c.args.b ta tb i k (get_or c.args.a.windows i zero_window) c.head-y.result x y h in
    let t = c.next_turn-t.result in
    let e = c.next_turn-t.ensures.value in
    let v = merge_step bit_and (and_none 0) and_fits c.args.a c.args.b ta tb i k c.loop-i.met c.loop-i.commons c.loop-i.invariant.common
    (omega (arith, ta.tidy.short, c.loop-i.invariant.few_common)) _ c.head-y.result x y t e q (bit_and t.left t.right) refl in
    let w = merge_step and_not (not_none 0) not_fits c.args.a c.args.b ta tb i k c.loop-i.kept c.loop-i.lefts c.loop-i.invariant.left
    (omega (arith, ta.tidy.short, c.loop-i.invariant.few_left)) _ c.head-y.result x y t e q (and_not t.left t.right) refl in
    record {
      few_common = omega (
        arith,
        ap (λ (s : PageSet). s.len) c.put-met.ensures,
        few_step bit_and (and_none 0) and_fits c.args.a c.args.b ta tb i k c.loop-i.met c.loop-i.commons c.loop-i.invariant.common
            (omega (arith, ta.tidy.short, c.loop-i.invariant.few_common)) _ c.head-y.result x y t e q and_none (bit_and t.left t.right) refl c.loop-i.invariant.few_common,
      );
      few_left = omega (
        arith,
        ap (λ (s : PageSet). s.len) c.put-kept.ensures,
        few_step and_not (not_none 0) not_fits c.args.a c.args.b ta tb i k c.loop-i.kept c.loop-i.lefts c.loop-i.invariant.left
            (omega (arith, ta.tidy.short, c.loop-i.invariant.few_left)) _ c.head-y.result x y t e q not_none (and_not t.left t.right) refl c.loop-i.invariant.few_left,
      );
      common = rw c.put-met.ensures v;
      left = rw c.put-kept.ensures w;
    }

pub returns : goal.returns
returns c =
    let ta : Normal c.args.a = normal_fact c.args.a c.requires.a_value in
    let tb : Normal c.args.b = normal_fact c.args.b c.requires.b_value in (
      refl,
      and_set c.args.a c.args.b ta tb c.loop-i.i c.loop-i.k c.loop-i.met c.loop-i.commons c.loop-i.invariant.common c.loop-i-test.false,
      not_set c.args.a c.args.b ta tb c.loop-i.i c.loop-i.k c.loop-i.kept c.loop-i.lefts c.loop-i.invariant.left c.loop-i-test.false,
    )
