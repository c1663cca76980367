-- The set is tested first; where it is in form, the frames from its starting page on decide. Assumes nothing.
use Rattle.std.proofs.Common.{sym, ◌∙◌, arith}
use Rattle.segmentbytes.proofs.SegmentLaws.{set_not, frames_decide}
use Rattle.segmentbytes.proofs.segment_form.Goals as goal

pub returns-then-not-set_form : goal.returns-then-not-set_form
returns-then-not-set_form c =
    sym (set_not c.args.s.now c.args.at (λ j. (c.type_inv.s j).fits) c.requires (sym c.set_form.ensures ∙ c.if-not-set_form.true))

pub before_first-below-requires : goal.before_first-below-requires
before_first-below-requires c = record { at_in_bounds = omega arith; s_value = sym c.set_form.ensures ∙ c.if-not-set_form.false }

pub returns : goal.returns
returns c =
    c.frames_form.ensures ∙ frames_decide c.args.s.now c.args.at (λ j. (c.type_inv.s j).fits) c.requires (sym c.set_form.ensures ∙ c.if-not-set_form.false) _ c.before_first-below.ensures
