-- The tests are those of the definition: the length, then the form of the whole. Assumes nothing.
use Rattle.std.proofs.Common.{sym, ◌∙◌}
use Rattle.rules.specs.Forms.{segment_form}
use Rattle.layout.specs.Values.{segment_bytes}
use Rattle.segmentbytes.specs.Laid.{segment_laid}
use Rattle.segmentargs.specs.Segments.{not_asegment}
use Rattle.arguments.proofs.ArgLaws.{arg_length, arg_bad, arg_good}
use Rattle.segmentargs.proofs.SegmentLaws.{segment_size}
use Rattle.segmentargs.proofs.segment_arg.Goals as goal

pub returns-then-b-ne-SEGMENT : goal.returns-then-b-ne-SEGMENT
returns-then-b-ne-SEGMENT c = c.not_a_segment.ensures ∙ arg_length segment_bytes segment_form segment_laid not_asegment 594 segment_size _ c.if-b-ne-SEGMENT.true

pub returns-then-not-segment_form : goal.returns-then-not-segment_form
returns-then-not-segment_form c = c.not_a_segment-then-not-segment_form.ensures ∙ arg_bad segment_bytes segment_form segment_laid not_asegment 594 segment_size _ c.if-b-ne-SEGMENT.false (sym c.segment_form.ensures ∙ c.if-not-segment_form.true)

pub returns : goal.returns
returns c = c.segment_read.ensures ∙ arg_good segment_bytes segment_form segment_laid not_asegment 594 segment_size _ c.if-b-ne-SEGMENT.false (sym c.segment_form.ensures ∙ c.if-not-segment_form.false)
