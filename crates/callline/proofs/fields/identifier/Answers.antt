-- `fields::identifier` meets its contract: the place of the value, then its two digits. Assumes nothing.
use Rattle.std.proofs.Common.{sym, ap, ◌∙◌, rules}
use Rattle.basics.specs.Answers.{refused}
use Rattle.callline.specs.Values.{identifier_of, malformed}
use Rattle.callline.specs.Says.{number_says, both}
use Rattle.callline.proofs.ValueLaws.{identifier_small}
use Rattle.callline.proofs.LineLaws.{misplaced, placed}
use Rattle.std.proofs.lemmas.Bool.{not-true, not-false}
use Rattle.callline.proofs.fields.identifier.Goals as goal

pub returns-then-not-p : goal.returns-then-not-p
returns-then-not-p c = let line = c.args.line.now in let key = c.args.key.now in let k = c.args.c in
    record { result_value = rw c.no_field.ensures (misplaced key identifier_of both line k c.value_place-p.result c.value_place-p.ensures.result_value (not-true c.value_place-p.result.good c.if-not-p.true)); value_bound = rw c.no_field.ensures (search rules) }

pub returns-in_default : goal.returns-in_default
returns-in_default c = let line = c.args.line.now in let key = c.args.key.now in let k = c.args.c in
    record { result_value = rw c.no_field-in_default.ensures (placed key identifier_of both line k c.value_place-p.result c.value_place-p.ensures.result_value (not-false c.value_place-p.result.good c.if-not-p.false) (refused malformed) (sym c.identifier.ensures ∙ ap number_says c.in_default.is)); value_bound = rw c.no_field-in_default.ensures (search rules) }

pub returns : goal.returns
returns c = let line = c.args.line.now in let key = c.args.key.now in let k = c.args.c in let e = sym c.identifier.ensures ∙ ap number_says c.in-Is.is in record { result_value = placed key identifier_of both line k c.value_place-p.result c.value_place-p.ensures.result_value (not-false c.value_place-p.result.good c.if-not-p.false) _ e; value_bound = identifier_small _ _ e }
