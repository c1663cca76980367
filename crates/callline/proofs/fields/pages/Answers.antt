-- `fields::pages` meets its contract: the place of the value, then the form of its text. Assumes nothing.
use Rattle.std.proofs.Common.{◌≡◌, ℕ, sym, ◌∙◌, arith}
use Rattle.callline.specs.Values.{pages_of}
use Rattle.callline.specs.Says.{both}
use Rattle.callline.proofs.LineLaws.{misplaced, pages_placed, pages_misplaced}
use Rattle.std.proofs.lemmas.Bool.{not-true, not-false}
use Rattle.callline.proofs.fields.pages.Goals as goal

pub returns-then-not-p : goal.returns-then-not-p
returns-then-not-p c = let line = c.args.line.now in let key = c.args.key.now in let k = c.args.c in
    record { result_value = rw c.nowhere.ensures (misplaced key pages_of both line k c.value_place-p.result c.value_place-p.ensures.result_value (not-true c.value_place-p.result.good c.if-not-p.true)); in_form = rw c.nowhere.ensures (λ e. absurd (let z : ◌≡◌ {A = ℕ} 0 1 = cc in omega arith)) }

pub returns-then-not-is_pages : goal.returns-then-not-is_pages
returns-then-not-is_pages c = let line = c.args.line.now in let key = c.args.key.now in let k = c.args.c in
    record { result_value = rw c.nowhere-then-not-is_pages.ensures (pages_misplaced line key k c.value_place-p.result c.value_place-p.ensures.result_value (not-false c.value_place-p.result.good c.if-not-p.false) (sym c.is_pages.ensures ∙ c.if-not-is_pages.true)); in_form = rw c.nowhere-then-not-is_pages.ensures (λ e. absurd (let z : ◌≡◌ {A = ℕ} 0 1 = cc in omega arith)) }

pub returns : goal.returns
returns c = let line = c.args.line.now in let key = c.args.key.now in let k = c.args.c in record { result_value = pages_placed line key k c.value_place-p.result c.value_place-p.ensures.result_value (not-false c.value_place-p.result.good c.if-not-p.false) (sym c.is_pages.ensures ∙ c.if-not-is_pages.false); in_form = λ _. (c.value_place-p.ensures.from_le_to.0, c.value_place-p.ensures.from_le_to.1, (sym c.is_pages.ensures ∙ c.if-not-is_pages.false)) }
