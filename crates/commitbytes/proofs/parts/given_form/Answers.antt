-- Zeros behind a flag 0, a segment in form behind a flag 1. Assumes nothing.
use Rattle.std.proofs.Common.{sym, ◌∙◌, arith}
use Rattle.rules.specs.Forms.{segment_form}
use Rattle.layout.specs.Values.{window_bytes, set_bytes, frame_bytes, frames_bytes, segment_bytes}
use Rattle.commitbytes.proofs.PartLaws.{none_form, no_flag, some_form}
use Rattle.commitbytes.proofs.parts.given_form.Goals as goal

pub returns-then-flag-eq0 : goal.returns-then-flag-eq0
unfolding frame_bytes frames_bytes segment_bytes set_bytes window_bytes
returns-then-flag-eq0 c =
    c.all_zero.ensures ∙ none_form segment_bytes c.args.s.now c.args.at (λ j. (c.type_inv.s j).fits) segment_form c.requires (sym c.load8-flag.ensures ∙ c.if-flag-eq0.true)

pub returns-then-flag-ne1 : goal.returns-then-flag-ne1
unfolding frame_bytes frames_bytes segment_bytes set_bytes window_bytes
returns-then-flag-ne1 c =
    sym (no_flag segment_bytes c.args.s.now c.args.at (λ j. (c.type_inv.s j).fits) segment_form c.requires (λ e. c.if-flag-eq0.false (c.load8-flag.ensures ∙ e)) (λ e. c.if-flag-ne1.true (c.load8-flag.ensures ∙ e)))

pub returns : goal.returns
unfolding frame_bytes frames_bytes segment_bytes set_bytes window_bytes
returns c =
    c.segment_form.ensures ∙ some_form segment_bytes c.args.s.now c.args.at (λ j. (c.type_inv.s j).fits) segment_form c.requires (omega (arith, c.load8-flag.ensures))
