-- What the windows passed left of their masks stands in the new set; with what the windows to come will leave it is what they all leave.
-- Assumes nothing.
use Rattle.std.proofs.Common.{◌≡◌, ℕ, ◌-◌, ◌^◌, Bool, cond, ◌&&◌, get_or, ap, ◌∙◌, arith}
use lib.Bits.{bit_and}
use Rattle.pageset.specs.Sets.{shown, member, zero_window}
use Rattle.pageset.proofs.FormLaws.{Normal, normal_fact, shown_length}
use Rattle.pageset.proofs.EdgeLaws.{nth}
use Rattle.pageset.proofs.RangeLaws.{side_mask, side_page, side_picked}
use Rattle.pageset.proofs.MaskLaws.{walk_start, walk_push, walk_normal, walk_member}
use Rattle.pageset.proofs.ResultLaws.{is_set}
use Rattle.pageset.proofs.sets.selected.Goals as goal

pub shared_ref_as_front-w-items : goal.shared_ref_as_front-w-items
shared_ref_as_front-w-items c = let t = (normal_fact c.args.s c.requires.s_value).tidy in omega (arith, t.short, t.whole)

pub loop-w-init : goal.loop-w-init
loop-w-init c = rw c.empty.ensures (walk_start (side_mask c.args.inside c.args.lo c.args.hi) (shown c.args.s))

pub span_mask-requires-clause-q_bound : goal.span_mask-requires-clause-q_bound
span_mask-requires-clause-q_bound c =
    let its : Normal c.args.s = normal_fact c.args.s c.requires.s_value in
    (nth 0 (shown c.args.s) c.loop-w.w-index its.rising (omega arith)).high

pub put-len-requires : goal.put-len-requires
put-len-requires c =
    let its : Normal c.args.s = normal_fact c.args.s c.requires.s_value in
    omega (arith, c.loop-w.invariant.few, shown_length c.args.s its.tidy, its.tidy.short)

pub loop-w-preserved : goal.loop-w-preserved
loop-w-preserved c =
    let its : Normal c.args.s = normal_fact c.args.s c.requires.s_value in
    let i = c.loop-w.w-index in
    let w = get_or (shown c.args.s) i zero_window in
    let k = c.span_mask.result in
    let e : c.picked-m.result ≡ bit_and w.mask (side_mask c.args.inside c.args.lo c.args.hi w.index) =
    c.picked-m.ensures ∙ side_picked c.args.inside w.mask k ((2 ^ 64 - 1) - k)
    ∙ ap (λ (z : ℕ). bit_and w.mask (cond c.args.inside z ((2 ^ 64 - 1) - z))) c.span_mask.ensures in
    rw c.put-len.ensures (walk_push (side_mask c.args.inside c.args.lo c.args.hi) (shown c.args.s) i (record { len = c.loop-w.len; windows = c.loop-w.windows }) (omega arith)
    (omega (arith, shown_length c.args.s its.tidy, its.tidy.short)) c.loop-w.invariant c.picked-m.result e)

pub returns : goal.returns
returns c =
    let s = c.args.s in
    let its : Normal s = normal_fact s c.requires.s_value in
    let g = side_mask c.args.inside c.args.lo c.args.hi in
    is_set _ _ (walk_normal g s its c.loop-w.w-index (record { len = c.loop-w.len; windows = c.loop-w.windows }) (omega (arith, shown_length s its.tidy)) c.loop-w.invariant)
    (λ p. walk_member g s its c.loop-w.w-index (record { len = c.loop-w.len; windows = c.loop-w.windows }) (omega (arith, shown_length s its.tidy)) c.loop-w.invariant p
    ∙ ap (λ (b : Bool). member s p && b) (side_page c.args.inside c.args.lo c.args.hi c.requires.lo_nonzero p))
