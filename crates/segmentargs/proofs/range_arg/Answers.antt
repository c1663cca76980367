-- The tests are those of the definition: the length, then the form of the whole. Assumes nothing.
use Rattle.std.proofs.Common.{true, false, sym, ◌∙◌, ap₂}
use Rattle.pageset.specs.declared.PageSet.{PageSet}
use Rattle.commit.specs.declared.SegmentRange.{SegmentRange}
use Rattle.segmentargs.proofs.SegmentLaws.{arg_other, arg_range}
use Rattle.segmentargs.proofs.range_arg.Goals as goal

pub returns-then-b-ne-RANGE : goal.returns-then-b-ne-RANGE
returns-then-b-ne-RANGE c = c.not_a_range.ensures ∙ arg_other _ c.if-b-ne-RANGE.true

pub returns-then-range_form : goal.returns-then-range_form
returns-then-range_form c = c.range_read-range.ensures ∙ arg_range _ true c.if-b-ne-RANGE.false (sym c.range_form.ensures ∙ c.if-range_form.true)

pub returns : goal.returns
returns c =
    ap₂ (λ (r : SegmentRange) (p : PageSet). record { sid = r.sid; start = r.start; end = r.end; pages = p }) c.range_read-range.ensures c.not_a_set-pages.ensures ∙ arg_range _ false c.if-b-ne-RANGE.false (sym c.range_form.ensures ∙ c.if-range_form.false)
