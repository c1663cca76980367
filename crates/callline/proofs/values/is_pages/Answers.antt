-- `values::is_pages` meets its contract. The invariant: the text is in the form exactly if what is left of it, from a place on, rises above the last page read. The measure: what is left of the text. Assumes nothing.
use Rattle.std.proofs.Common.{◌-◌, false, List, sym, ap, ◌∙◌, arith, rules}
use Rattle.callline.specs.Texts.{Text}
use Rattle.callline.specs.Values.{rising}
use Rattle.callline.specs.Says.{is_done, range_says}
use Rattle.callline.proofs.TextLaws.{pieces}
use Rattle.callline.proofs.ValueLaws.{rise_stray, rise_low, rise_falls, rise_last, rise_more, pages_dash, pages_ranges}
use Rattle.callline.proofs.ValueLaws.{rise_stray, rise_falls, rise_last, rise_more, pages_dash, pages_ranges}
use Rattle.callline.proofs.values.is_pages.Goals as goal

pub returns-then-is_text : goal.returns-then-is_text
returns-then-is_text c = sym (pages_dash c.args.s.now (sym c.is_text.ensures ∙ c.if-is_text.true))

pub loop-first-init : goal.loop-first-init
loop-first-init c = (search rules, ap is_done (pages_ranges c.args.s.now (sym c.is_text.ensures ∙ c.if-is_text.false)))

pub returns-in_default : goal.returns-in_default
returns-in_default c = let s = c.args.s.now in let l = c.loop-first in let e = c.piece_end-end.result in let here = l.invariant.1 ∙ ap (λ (ps : List Text). is_done (rising l.low ps)) (pieces 44 s l.at e l.invariant.0 c.piece_end-end.ensures.0) in sym (here ∙ rise_stray l.low _ _ (sym c.range.ensures ∙ ap range_says c.in_default.is))

pub returns-then-first-low : goal.returns-then-first-low
returns-then-first-low c = let s = c.args.s.now in let l = c.loop-first in let e = c.piece_end-end.result in let here = l.invariant.1 ∙ ap (λ (ps : List Text). is_done (rising l.low ps)) (pieces 44 s l.at e l.invariant.0 c.piece_end-end.ensures.0) in sym (here ∙ rise_low l.low _ _ _ _ (sym c.range.ensures ∙ ap range_says c.in-From.is) (omega arith))

pub returns-then-last-first : goal.returns-then-last-first
returns-then-last-first c = let s = c.args.s.now in let l = c.loop-first in let e = c.piece_end-end.result in let here = l.invariant.1 ∙ ap (λ (ps : List Text). is_done (rising l.low ps)) (pieces 44 s l.at e l.invariant.0 c.piece_end-end.ensures.0) in sym (here ∙ rise_falls l.low _ _ _ _ (sym c.range.ensures ∙ ap range_says c.in-From.is) (omega arith))

pub returns-then-end-s : goal.returns-then-end-s
returns-then-end-s c = let s = c.args.s.now in let l = c.loop-first in let e = c.piece_end-end.result in let here = l.invariant.1 ∙ ap (λ (ps : List Text). is_done (rising l.low ps)) (pieces 44 s l.at e l.invariant.0 c.piece_end-end.ensures.0) in sym (here ∙ rise_last l.low _ s e _ _ (sym c.range.ensures ∙ ap range_says c.in-From.is) (omega arith) (omega arith) (omega arith))

pub loop-first-preserved : goal.loop-first-preserved
loop-first-preserved c = let s = c.args.s.now in let l = c.loop-first in let e = c.piece_end-end.result in let here = l.invariant.1 ∙ ap (λ (ps : List Text). is_done (rising l.low ps)) (pieces 44 s l.at e l.invariant.0 c.piece_end-end.ensures.0) in (omega arith, here ∙ rise_more l.low _ s e _ _ (sym c.range.ensures ∙ ap range_says c.in-From.is) (omega arith) (omega arith) (omega arith))
