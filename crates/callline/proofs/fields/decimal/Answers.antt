-- `fields::decimal` meets its contract: the place of the value, then its digits. Assumes nothing.
use Rattle.std.proofs.Common.{sym, ap, ◌∙◌, rules}
use Rattle.basics.specs.Answers.{refused}
use Rattle.callline.specs.Values.{decimal_of, malformed}
use Rattle.callline.specs.Says.{number_says, both}
use Rattle.callline.proofs.ValueLaws.{decimal_small}
use Rattle.callline.proofs.LineLaws.{misplaced, placed}
use Rattle.std.proofs.lemmas.Bool.{not-true, not-false}
use Rattle.callline.proofs.fields.decimal.Goals as goal

pub returns-then-not-p : goal.returns-then-not-p
returns-then-not-p c = let line = c.args.line.now in let key = c.args.key.now in let k = c.args.c in
    record { result_value = rw c.no_field.ensures (misplaced key (decimal_of c.args.limit) both line k c.value_place-p.result c.value_place-p.ensures.result_value (not-true c.value_place-p.result.good c.if-not-p.true)); value_le_limit = rw c.no_field.ensures (search rules) }

pub returns-in_default : goal.returns-in_default
returns-in_default c = let line = c.args.line.now in let key = c.args.key.now in let k = c.args.c in
    record { result_value = rw c.no_field-in_default.ensures (placed key (decimal_of c.args.limit) both line k c.value_place-p.result c.value_place-p.ensures.result_value (not-false c.value_place-p.result.good c.if-not-p.false) (refused malformed) (sym c.decimal.ensures ∙ ap number_says c.in_default.is)); value_le_limit = rw c.no_field-in_default.ensures (search rules) }

pub returns : goal.returns
returns c = let line = c.args.line.now in let key = c.args.key.now in let k = c.args.c in let e = sym c.decimal.ensures ∙ ap number_says c.in-Is.is in record { result_value = placed key (decimal_of c.args.limit) both line k c.value_place-p.result c.value_place-p.ensures.result_value (not-false c.value_place-p.result.good c.if-not-p.false) _ e; value_le_limit = decimal_small c.args.limit _ _ e }
