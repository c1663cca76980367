-- The argument is read, the call by value answers the rule on it, and its answer is put in bytes. Assumes nothing.
use Rattle.std.proofs.Common.{ap, ◌∙◌}
use Rattle.commit.specs.declared.SegmentIdx.{SegmentIdx}
use Rattle.frames.specs.Rules.{frame_rule}
use Rattle.segmentargs.specs.Segments.{range_left}
use Rattle.segmentargs.proofs.SegmentLaws.{left_range, frame_early}
use Rattle.boundary.proofs.segments.sigatuda_frame_of_page.Goals as goal

pub put_range-requires : goal.put_range-requires
put_range-requires c = c.frame_for.ensures.form

pub returns : goal.returns
returns c =
    c.put_range.ensures ∙ left_range _ c.frame_for.result (frame_rule c.segment_arg.result c.args.page) (frame_early c.segment_arg.result c.args.page) c.frame_for.ensures ∙ ap (λ (s : SegmentIdx). range_left c.args.out.now (frame_rule s c.args.page)) c.segment_arg.ensures
