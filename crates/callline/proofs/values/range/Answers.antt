-- `values::range` meets its contract: a text without `-` is a page alone; with one it has two ends; with more it is no range. Assumes nothing.
use Rattle.std.proofs.Common.{sym, ap, ◌∙◌, arith}
use Rattle.callline.specs.Says.{number_says}
use Rattle.callline.proofs.ValueLaws.{decimal_small, range_stray, range_alone, range_third, range_half, range_two}
use Rattle.callline.specs.Values.{last32}
use Rattle.callline.proofs.values.range.Goals as goal

pub returns-in_default : goal.returns-in_default
returns-in_default c = let s = c.args.s.now in let mid = c.piece_end-mid.result in sym (range_stray s mid c.piece_end-mid.ensures.0 (sym c.decimal.ensures ∙ ap number_says c.in_default.is))

pub overflow_cast-result : goal.overflow_cast-result
overflow_cast-result c = omega (arith, decimal_small last32 _ _ (sym c.decimal.ensures ∙ ap number_says c.in-Is.is))

pub overflow_cast-result-then-mid-s : goal.overflow_cast-result-then-mid-s
overflow_cast-result-then-mid-s c = omega (arith, decimal_small last32 _ _ (sym c.decimal.ensures ∙ ap number_says c.in-Is.is))

pub returns-then-mid-s : goal.returns-then-mid-s
returns-then-mid-s c = let s = c.args.s.now in let mid = c.piece_end-mid.result in sym (range_alone s mid c.piece_end-mid.ensures.0 _ (omega arith) (sym c.decimal.ensures ∙ ap number_says c.in-Is.is))

pub returns-then-to-s : goal.returns-then-to-s
returns-then-to-s c = let s = c.args.s.now in let mid = c.piece_end-mid.result in sym (range_third s mid c.piece_end-mid.ensures.0 c.piece_end-to.result (omega arith) c.piece_end-to.ensures.0 (omega arith))

pub returns-in_default-decimal : goal.returns-in_default-decimal
returns-in_default-decimal c = let s = c.args.s.now in let mid = c.piece_end-mid.result in sym (range_half s mid c.piece_end-mid.ensures.0 c.piece_end-to.result (omega arith) c.piece_end-to.ensures.0 _ (omega arith) (sym c.decimal.ensures ∙ ap number_says c.in-Is.is) (sym c.decimal-2.ensures ∙ ap number_says c.in_default-decimal.is))

pub overflow_cast-result-2 : goal.overflow_cast-result-2
overflow_cast-result-2 c = omega (arith, decimal_small last32 _ _ (sym c.decimal.ensures ∙ ap number_says c.in-Is.is))

pub overflow_cast-result-3 : goal.overflow_cast-result-3
overflow_cast-result-3 c = omega (arith, decimal_small last32 _ _ (sym c.decimal-2.ensures ∙ ap number_says c.in-Is-decimal.is))

pub returns : goal.returns
returns c = let s = c.args.s.now in let mid = c.piece_end-mid.result in sym (range_two s mid c.piece_end-mid.ensures.0 c.piece_end-to.result (omega arith) c.piece_end-to.ensures.0 _ _ (omega arith) (sym c.decimal.ensures ∙ ap number_says c.in-Is.is) (sym c.decimal-2.ensures ∙ ap number_says c.in-Is-decimal.is))
