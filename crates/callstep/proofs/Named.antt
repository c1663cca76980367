-- The set that a text names: a set in normal form of just its pages, or 22.
use Rattle.std.proofs.Common.{◌≡◌, ℕ, ◌%◌, Bool, true, false, ◌⊎◌, List, [], sym, refl, ap, ◌∙◌, inl, inr, arith}
use Rattle.basics.specs.Answers.{Answer, refused, done, ◌>>=◌}
use Rattle.pageset.specs.declared.PageSet.{PageSet}
use Rattle.pageset.specs.declared.SetAnswer.{SetAnswer}
use Rattle.pageset.specs.Sets.{shown, normal, normal_form, holds, mask_at, bit, rising, window_forms}
use Rattle.pageset.specs.Says.{IsSet, Gives, GivesOr22, Over32, refused_set}
use Rattle.pageset.proofs.BitLaws.{bit_none}
use Rattle.pageset.proofs.ResultLaws.{one_set}
use Rattle.rules.specs.Records.{Pages}
use Rattle.setbytes.specs.Laid.{set_laid}
use Rattle.setbytes.proofs.LaidLaws.{shown_form, laid_normal, says_laid}
use Rattle.callline.specs.Texts.{Text}
use Rattle.callline.specs.Values.{Range, pages_of}
use Rattle.callline.specs.Says.{is_done, list_of, ranges_in}
use Rattle.callpages.specs.Pages.{in_ranges, pages_rule}
use Rattle.callstep.specs.Steps.{PagesOf, SetOf}

-- what the code's answer says
pub record Named (rs : List Range) (r : SetAnswer) : Type 0 where
  pub pages : Answer Pages
  pub are : SetOf rs pages
  pub zero : r.code ≡ 0 → pages ≡ done (shown r.set)
  pub other : (r.code ≡ 0 → ⊥) → pages ≡ refused r.code
  pub form : r.code ≡ 0 → normal r.set ≡ true

given_set : (rs : List Range) (r : SetAnswer) → Gives r (done (in_ranges rs)) ⊎ ((r ≡ refused_set 22) × Over32 (in_ranges rs)) → Named rs r
given_set rs r (inl g) = record {
  pages = done (shown r.set);
  are = record { normal = shown_form r.set g.1.normal; pages = g.1.pages };
  zero = λ e. refl;
  other = λ n. absurd (n g.0);
  form = λ e. g.1.normal;
}
given_set rs r (inr g) =
    let c : r.code ≡ 22 = ap (λ (x : SetAnswer). x.code) g.0 in
    record { pages = refused 22; are = (refl, g.1); zero = λ e. absurd (omega (arith, c, e)); other = λ n. ap {B = Answer Pages} refused (sym c); form = λ e. absurd (omega (arith, c, e)) }

-- pages in the form are a rule with an answer
rule_done : (q : Answer (List Range)) → is_done q ≡ true → (q >>= (λ rs. done (in_ranges rs))) ≡ done (in_ranges (list_of q))
rule_done (refused n) e = absurd (let z : ◌≡◌ {A = ℕ} 0 1 = cc in omega arith)
rule_done (done rs) e = refl

pub named : (text : Text) (r : SetAnswer) → is_done (pages_of text) ≡ true → GivesOr22 r (pages_rule text) → Named (ranges_in text) r
unfolding pages_rule
named text r d g = given_set (ranges_in text) r (rw (rule_done (pages_of text) d) at g)

-- a line that names no pages
no_windows : normal_form [] ≡ true
unfolding normal_form holds mask_at bit rising window_forms
no_windows = refl

no_page : (p : ℕ) → holds [] p ≡ in_ranges [] p
unfolding in_ranges holds mask_at
no_page p = bit_none (p % 64)

pub none_named : SetOf [] (done [])
none_named = record { normal = no_windows; pages = no_page }

-- ---- one set is named

pub one_named : (rs : List Range) (a b : Answer Pages) → SetOf rs a → SetOf rs b → a ≡ b
one_named rs (done u) (done w) h k =
    ap {B = Answer Pages} done (sym (says_laid u) ∙ ap shown (one_set (in_ranges rs) (set_laid u) (set_laid w) (laid_set u h) (laid_set w k)) ∙ says_laid w)
  where
    laid_set : (x : Pages) → PagesOf rs x → IsSet (in_ranges rs) (set_laid x)
    laid_set x p = record { normal = laid_normal x p.normal; pages = λ n. ap (λ (y : Pages). holds y n) (says_laid x) ∙ p.pages n }
one_named rs (done u) (refused n) h k = absurd (k.1 (set_laid u) (record { normal = laid_normal u h.normal; pages = λ n. ap (λ (y : Pages). holds y n) (says_laid u) ∙ h.pages n }))
one_named rs (refused m) (done w) h k = absurd (h.1 (set_laid w) (record { normal = laid_normal w k.normal; pages = λ n. ap (λ (y : Pages). holds y n) (says_laid w) ∙ k.pages n }))
one_named rs (refused m) (refused n) h k = ap {B = Answer Pages} refused (h.0 ∙ sym k.0)
