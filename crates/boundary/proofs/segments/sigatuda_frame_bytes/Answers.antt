-- The argument is read, and the place that the call by value answers lies within the lent bytes. Assumes nothing.
use Rattle.std.proofs.Common.{length, ap, ◌∙◌, arith}
use Rattle.commit.specs.declared.SegmentIdx.{SegmentIdx}
use Rattle.frames.specs.Rules.{bytes_rule, part_bytes}
use Rattle.arguments.specs.declared.Reply.{Reply}
use Rattle.boundary.specs.Parts.{part_left}
use Rattle.boundary.proofs.segments.sigatuda_frame_bytes.Goals as goal

pub slice_bounds-bytes-count : goal.slice_bounds-bytes-count
slice_bounds-bytes-count c =
    let h = rw c.in-Ok-Some.field-0-is at c.in-Ok-Some.ensures.within in
    omega (arith, h.0)

pub returns-in-Err : goal.returns-in-Err
returns-in-Err c =
    let g = c.args in
    ap (λ (r : Reply). (r, g.part.now.now)) c.refused.ensures ∙ ap (part_left g.lent.now g.part.now.now) (c.in-Err.ensures.says ∙ ap (λ (s : SegmentIdx). part_bytes (bytes_rule s g.page (length g.lent.now))) c.segment_arg.ensures)

pub returns-in-Ok-Some : goal.returns-in-Ok-Some
returns-in-Ok-Some c =
    let g = c.args in
    let e = rw c.in-Ok-Some.field-0-is at c.in-Ok-Some.ensures.says in
    ap (part_left g.lent.now g.part.now.now) (e ∙ ap (λ (s : SegmentIdx). part_bytes (bytes_rule s g.page (length g.lent.now))) c.segment_arg.ensures)

pub returns-in-Ok-None : goal.returns-in-Ok-None
returns-in-Ok-None c =
    let g = c.args in
    let e = rw c.in-Ok-None.field-0-is at c.in-Ok-None.ensures.says in
    ap (part_left g.lent.now g.part.now.now) (e ∙ ap (λ (s : SegmentIdx). part_bytes (bytes_rule s g.page (length g.lent.now))) c.segment_arg.ensures)
