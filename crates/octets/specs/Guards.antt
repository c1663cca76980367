-- A definition that goes by tests, and code that goes by the same tests: `search guards` walks the definition by what the code's branches showed.
use Rattle.std.specs.Prelude.{◌≡◌, Bool, true, false, cond, not, ℕ, ◌≤◌, ◌<◌, eqb, ltb, leb}
use Rattle.std.proofs.Common.{sym, ◌∙◌, eq-eqb, ne_eqb, lt-ltb, le-ltb, le-leb}
use Rattle.std.proofs.lemmas.Bool.{lt-leb, not-true, not-false}

module _ {A : Type 0} (z x y : A) where
  -- a test whose value the code has
  pub if_true : (b : Bool) → b ≡ true → z ≡ x → z ≡ cond b x y
  if_true b h e = rw h e

  pub if_false : (b : Bool) → b ≡ false → z ≡ y → z ≡ cond b x y
  if_false b h e = rw h e

  -- a test of two numbers that the code made itself
  pub if_eq : (m n : ℕ) → m ≡ n → z ≡ x → z ≡ cond (eqb m n) x y
  if_eq m n h e = if_true (eqb m n) (eq-eqb m n h) e

  pub if_ne : (m n : ℕ) → (m ≡ n → ⊥) → z ≡ y → z ≡ cond (eqb m n) x y
  if_ne m n h e = if_false (eqb m n) (ne_eqb m n h) e

  pub if_lt : (m n : ℕ) → m < n → z ≡ x → z ≡ cond (ltb m n) x y
  if_lt m n h e = if_true (ltb m n) (lt-ltb m n h) e

  pub if_ge : (m n : ℕ) → n ≤ m → z ≡ y → z ≡ cond (ltb m n) x y
  if_ge m n h e = if_false (ltb m n) (le-ltb m n h) e

  pub if_le : (m n : ℕ) → m ≤ n → z ≡ x → z ≡ cond (leb m n) x y
  if_le m n h e = if_true (leb m n) (le-leb m n h) e

  pub if_gt : (m n : ℕ) → n < m → z ≡ y → z ≡ cond (leb m n) x y
  if_gt m n h e = if_false (leb m n) (lt-leb m n h) e

  -- the same of a value that a call gave, and that the call says is the definition's
  pub if_true_of : (b d : Bool) → d ≡ b → d ≡ true → z ≡ x → z ≡ cond b x y
  if_true_of b d p h e = if_true b (sym p ∙ h) e

  pub if_false_of : (b d : Bool) → d ≡ b → d ≡ false → z ≡ y → z ≡ cond b x y
  if_false_of b d p h e = if_false b (sym p ∙ h) e

  pub if_eq_of : (m n k : ℕ) → k ≡ m → k ≡ n → z ≡ x → z ≡ cond (eqb m n) x y
  if_eq_of m n k p h e = if_eq m n (sym p ∙ h) e

  pub if_ne_of : (m n k : ℕ) → k ≡ m → (k ≡ n → ⊥) → z ≡ y → z ≡ cond (eqb m n) x y
  if_ne_of m n k p h e = if_ne m n (λ q. h (p ∙ q)) e

  -- where the code tested `!d`
  pub if_not : (b d : Bool) → d ≡ b → not d ≡ true → z ≡ y → z ≡ cond b x y
  if_not b d p h e = if_false_of b d p (not-true d h) e

  pub if_not_not : (b d : Bool) → d ≡ b → not d ≡ false → z ≡ x → z ≡ cond b x y
  if_not_not b d p h e = if_true_of b d p (not-false d h) e

-- all of them
pub ruleset guards = (if_eq, if_ne, if_lt, if_ge, if_le, if_gt, if_true, if_false, if_true_of, if_false_of, if_eq_of, if_ne_of, if_not, if_not_not)
