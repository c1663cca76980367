-- The tests are those of the argument and of the rule, in their order; then the frames are put. Assumes nothing.
use Rattle.std.proofs.Common.{sym, ◌∙◌, arith}
use Rattle.rules.specs.Forms.{segment_form}
use Rattle.layout.specs.Values.{segment_bytes, part_bytes}
use Rattle.layout.proofs.HoldLaws.{in_form_lem}
use Rattle.segmentbytes.specs.Laid.{segment_laid}
use Rattle.arguments.proofs.ArgLaws.{arg_length, arg_bad, arg_good}
use Rattle.resultlists.proofs.EntryLaws.{slots_room}
use Rattle.resultlists.proofs.AnswerLaws.{left_refused}
use Rattle.segmentargs.specs.Segments.{not_asegment}
use Rattle.segmentargs.proofs.SegmentLaws.{segment_size}
use Rattle.segmentargs.proofs.ListLaws.{frames_few, asked_bad, frames_counted, asked_short, asked_list}
use Rattle.segmentargs.proofs.lists.frame_list.Goals as goal

pub returns-then-b-ne-SEGMENT : goal.returns-then-b-ne-SEGMENT
returns-then-b-ne-SEGMENT c =
    let g = c.args in
    left_refused part_bytes g.list.now g.items.now _ 3 (asked_bad g.b.now g.list.now (arg_length segment_bytes segment_form segment_laid not_asegment 594 segment_size _ c.if-b-ne-SEGMENT.true))

pub returns-then-not-segment_form : goal.returns-then-not-segment_form
returns-then-not-segment_form c =
    let g = c.args in
    left_refused part_bytes g.list.now g.items.now _ 3
    (asked_bad g.b.now g.list.now (arg_bad segment_bytes segment_form segment_laid not_asegment 594 segment_size _ c.if-b-ne-SEGMENT.false (sym c.segment_form.ensures ∙ c.if-not-segment_form.true)))

pub returns-then-list-n : goal.returns-then-list-n
returns-then-list-n c =
    let g = c.args in
    let f = sym c.segment_form.ensures ∙ c.if-not-segment_form.false in
    let e = arg_good segment_bytes segment_form segment_laid not_asegment 594 segment_size _ c.if-b-ne-SEGMENT.false f in
    left_refused part_bytes g.list.now g.items.now _ 19
    (asked_short g.b.now g.list.now e (in_form_lem segment_bytes segment_form _ f).1 _ c.frames_count-n.ensures (omega arith))

pub write_frames-requires : goal.write_frames-requires
write_frames-requires c = let g = c.args in
    let f = sym c.segment_form.ensures ∙ c.if-not-segment_form.false in
    let e = arg_good segment_bytes segment_form segment_laid not_asegment 594 segment_size _ c.if-b-ne-SEGMENT.false f in
    let form = (in_form_lem segment_bytes segment_form _ f).1 in record { in_bounds = (omega (arith, c.if-b-ne-SEGMENT.false), form, frames_counted g.b.now g.list.now e form _ c.frames_count-n.ensures); n_in_bounds = slots_room 417 c.frames_count-n.result g.list.now (omega arith) }

pub overflow_cast-items : goal.overflow_cast-items
overflow_cast-items c =
    let g = c.args in
    let f = sym c.segment_form.ensures ∙ c.if-not-segment_form.false in
    let e = arg_good segment_bytes segment_form segment_laid not_asegment 594 segment_size _ c.if-b-ne-SEGMENT.false f in
    omega (arith, frames_counted g.b.now g.list.now e (in_form_lem segment_bytes segment_form _ f).1 _ c.frames_count-n.ensures, frames_few g.b.now 0 (omega (arith, c.if-b-ne-SEGMENT.false)))

pub returns : goal.returns
returns c =
    let g = c.args in
    let f = sym c.segment_form.ensures ∙ c.if-not-segment_form.false in
    let e = arg_good segment_bytes segment_form segment_laid not_asegment 594 segment_size _ c.if-b-ne-SEGMENT.false f in
    asked_list g.b.now g.list.now e (in_form_lem segment_bytes segment_form _ f).1 _ c.frames_count-n.ensures g.items.now _ (omega arith) c.write_frames.ensures
