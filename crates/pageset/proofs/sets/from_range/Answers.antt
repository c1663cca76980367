-- The windows from that of lo up to below q are made, and hold just the pages of the range that stand there. Over 32 windows each of them would
-- hold a page. Assumes nothing.
use Rattle.std.proofs.Common.{refl, inl, inr, arith}
use Rattle.pageset.specs.Rules.{within}
use Rattle.pageset.proofs.RangeLaws.{range_start, range_push, range_members, range_normal, too_long}
use Rattle.pageset.proofs.ResultLaws.{is_set, set_normal}
use Rattle.pageset.proofs.sets.from_range.Goals as goal

pub returns-then-end-lo-gt31 : goal.returns-then-end-lo-gt31
returns-then-end-lo-gt31 c =
    inr (c.refusal.ensures, λ s h. too_long c.args.a.0 c.args.b.0 s (set_normal _ s h) h.pages c.requires.a_le_b (omega arith) (omega arith))

pub loop-q-init : goal.loop-q-init
loop-q-init c = rw c.empty-set.ensures (range_start c.args.a.0 c.args.b.0 c.requires.a_nonzero)

pub push-requires : goal.push-requires
push-requires c = omega (arith, c.loop-q.invariant.few)

pub loop-q-preserved : goal.loop-q-preserved
loop-q-preserved c =
    let h = c.requires.a_nonzero in
    rw c.push.ensures (range_push c.args.a.0 c.args.b.0 h c.loop-q.q c.loop-q.set c.loop-q.invariant (omega arith) (omega (arith, c.loop-q.invariant.few)) c.span_mask.result c.span_mask.ensures)

pub returns-else-end-lo-gt31-2 : goal.returns-else-end-lo-gt31-2
returns-else-end-lo-gt31-2 c =
    let lo = c.args.a.0 in
    let hi = c.args.b.0 in
    let h = c.requires.a_nonzero in
    let w = range_push lo hi h c.loop-q.q c.loop-q.set c.loop-q.invariant (omega arith) (omega (arith, c.loop-q.invariant.few)) c.span_mask.result c.span_mask.ensures in
    rw c.push.ensures (inl (refl, is_set (within lo hi) _ (range_normal lo hi h _ _ w (omega arith)) (range_members lo hi h _ _ w (omega arith))))
