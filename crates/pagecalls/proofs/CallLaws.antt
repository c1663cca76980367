-- The checks of the rules, as the code makes them: a check that fails gives its number, and one that holds leaves what follows. Assumes nothing.
use Rattle.std.proofs.Common.{◌≡◌, ℕ, ◌<◌, ◌≤◌, Bool, true, false, cond, not, ◌&&◌, eqb, ltb, leb, ◌⊎◌, sym, refl, ap, ◌∙◌, subst, inl, inr, arith, ltb-true, le-ltb, lt-ltb, eq-eqb, ne_eqb, eqb-true, le-leb, leb-true}
use borrow.Author.Tests.{not-true, not-false, lt-leb}
use Rattle.basics.specs.Answers.{Answer, refused, done, ask, ◌>>◌}
use Rattle.basics.proofs.AskLaws.{stopped, passed}
use Rattle.pageset.specs.declared.PageSet.{PageSet}
use Rattle.pageset.specs.declared.SetAnswer.{SetAnswer}
use Rattle.pageset.specs.Sets.{member}
use Rattle.pageset.specs.Rules.{range_fault, new_rule}
use Rattle.pageset.specs.Says.{Gives, GivesOr22}
use Rattle.pageset.proofs.FormLaws.{and_fst, and_snd, and_both, and_left, and_right}

-- ---- a promise under an equal rule

pub gives : (r : SetAnswer) (p q : Answer (ℕ → Bool)) → p ≡ q → Gives r p → Gives r q
gives r p q e h = subst (λ (x : Answer (ℕ → Bool)). Gives r x) e h

pub gives_or_22 : (r : SetAnswer) (p q : Answer (ℕ → Bool)) → p ≡ q → GivesOr22 r p → GivesOr22 r q
gives_or_22 r p q e h = subst (λ (x : Answer (ℕ → Bool)). GivesOr22 r x) e h

-- ---- what a tested answer says of the test

pub not_so : (d b : Bool) → d ≡ b → not d ≡ true → b ≡ false
not_so d b e h = sym e ∙ not-true d h

pub so : (d b : Bool) → d ≡ b → not d ≡ false → b ≡ true
so d b e h = sym e ∙ not-false d h

-- ---- a check of two sets

module _ {A : Type 0} (k : Answer A) (a b : Bool) where
  pub left_stopped : (n : ℕ) → a ≡ false → refused n ≡ ask (a && b) n >> k
  left_stopped n h = stopped k (a && b) n (and_left a b h)

  pub right_stopped : (n : ℕ) → b ≡ false → refused n ≡ ask (a && b) n >> k
  right_stopped n h = stopped k (a && b) n (and_right a b h)

  pub both_passed : (n : ℕ) → a ≡ true → b ≡ true → k ≡ ask (a && b) n >> k
  both_passed n h g = passed k (a && b) n (and_both a b h g)

-- ---- a range of pages

module _ (a b : ℕ) where
  pub fault_left : a ≡ 0 → 1 ≡ range_fault a b
  unfolding range_fault
  fault_left e = rw (and_left (ltb 0 a) (ltb 0 b) (le-ltb 0 a (omega arith)))

  pub fault_right : b ≡ 0 → 1 ≡ range_fault a b
  unfolding range_fault
  fault_right e = rw (and_right (ltb 0 a) (ltb 0 b) (le-ltb 0 b (omega arith)))

  some : (a ≡ 0 → ⊥) → (b ≡ 0 → ⊥) → (ltb 0 a && ltb 0 b) ≡ true
  some h g = and_both (ltb 0 a) (ltb 0 b) (lt-ltb 0 a (omega arith)) (lt-ltb 0 b (omega arith))

  pub fault_order : (a ≡ 0 → ⊥) → (b ≡ 0 → ⊥) → b < a → 2 ≡ range_fault a b
  unfolding range_fault
  fault_order h g l = rw (some h g, lt-leb a b l)

  pub fault_none : (a ≡ 0 → ⊥) → (b ≡ 0 → ⊥) → a ≤ b → 0 ≡ range_fault a b
  unfolding range_fault
  fault_none h g l = rw (some h g, le-leb a b l)

  abbrev ends : Bool
  ends = ltb 0 a && ltb 0 b

  module _ {A : Type 0} (k : Answer A) where
    by_tests : (x z : Bool) → (◌≡◌ {A = ℕ} (cond x (cond z 0 2) 1) 0 → ⊥) → refused (cond x (cond z 0 2) 1) ≡ ask x 1 >> (ask z 2 >> k)
    by_tests true true h = absurd (h refl)
    by_tests true false h = refl
    by_tests false z h = refl

    no_fault : (x z : Bool) → ◌≡◌ {A = ℕ} (cond x (cond z 0 2) 1) 0 → k ≡ ask x 1 >> (ask z 2 >> k)
    no_fault true true e = refl
    no_fault true false e = absurd (omega arith)
    no_fault false z e = absurd (omega arith)

    pub range_stopped : (n : ℕ) → n ≡ range_fault a b → (n ≡ 0 → ⊥) → refused n ≡ ask (ltb 0 a && ltb 0 b) 1 >> (ask (leb a b) 2 >> k)
    unfolding range_fault
    range_stopped n e h = ap refused e ∙ by_tests ends (leb a b) (λ z. h (e ∙ z))

    pub range_passed : (n : ℕ) → n ≡ range_fault a b → n ≡ 0 → k ≡ ask (ltb 0 a && ltb 0 b) 1 >> (ask (leb a b) 2 >> k)
    unfolding range_fault
    range_passed n e h = no_fault ends (leb a b) (sym e ∙ h)

  tests_of : (x z : Bool) → ◌≡◌ {A = ℕ} (cond x (cond z 0 2) 1) 0 → (x ≡ true) × (z ≡ true)
  tests_of true true e = (refl, refl)
  tests_of true false e = absurd (omega arith)
  tests_of false z e = absurd (omega arith)

  pub range_facts : (n : ℕ) → n ≡ range_fault a b → n ≡ 0 → (0 < a) × (a ≤ b)
  unfolding range_fault
  range_facts n e h =
      let t = tests_of ends (leb a b) (sym e ∙ h) in
      (ltb-true 0 a (and_fst (ltb 0 a) (ltb 0 b) t.0), leb-true a b t.1)

-- ---- whether the page was new

module _ (s : PageSet) (p : ℕ) where
  pub new_refused : (new : Bool) (number n : ℕ) → new ≡ false → number ≡ n → (n ≡ 0 → ⊥) → new ≡ new_rule s p number
  unfolding new_rule
  new_refused new number n e d h = e ∙ sym (and_left (eqb number 0) (not (member s p)) (ne_eqb number 0 (λ z. h (sym d ∙ z))))

  pub new_done : (held : Bool) → held ≡ member s p → not held ≡ new_rule s p 0
  unfolding new_rule
  new_done held e = ap not e
