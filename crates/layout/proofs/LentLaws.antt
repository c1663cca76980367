-- 20 comes first: a table that is not formed, and one that is. And what a call answers and leaves, by what the rule says: on a refusal the bytes as found, else the answer's table laid over them.
use Rattle.std.proofs.Common.{◌≡◌, ℕ, Bool, true, false, cond, List, sym, refl, ap, ◌∙◌}
use Rattle.basics.specs.Answers.{Answer, refused, done, code, ask, ◌>>◌}
use Rattle.rules.specs.Tables.{Table}
use Rattle.layout.specs.Codecs.{Codec}
use Rattle.layout.specs.Tables.{laid_over}
use Rattle.layout.specs.Lent.{lent, after}

module _ {A : Type 0} (ok : Bool) (a : Answer A) where
  pub lent_no : ok ≡ false → lent ok a ≡ refused 20
  unfolding lent
  lent_no e = ap (λ (b : Bool). cond b a (refused 20)) e

  pub lent_yes : ok ≡ true → lent ok a ≡ a
  unfolding lent
  lent_yes e = ap (λ (b : Bool). cond b a (refused 20)) e

-- past 20: the bytes are formed and so is the rules' table
pub past_20 : {A : Type 0} (ok formed : Bool) (rest : Answer A) → ok ≡ true → formed ≡ true → lent ok (ask formed 20 >> rest) ≡ rest
past_20 ok formed rest e f = lent_yes ok (ask formed 20 >> rest) e ∙ ap (λ (b : Bool). ask b 20 >> rest) f

-- a call that may change a table: how the rule's answer is told, and the table that it holds
module _ {R A B : Type 0} (c : Codec R) (tell : Answer A → B) (table : A → Table R) (t : List ℕ) (a : Answer A) where
  -- a refusal leaves the bytes as found
  pub told_unchanged : (n : ℕ) (x : B) → a ≡ refused n → x ≡ tell (refused n) → (x ≡ tell a) × (t ≡ after c table t a)
  unfolding after
  told_unchanged n x e told = (told ∙ ap tell (sym e), ap (after c table t) (sym e))

  -- else the answer's table is laid over them
  pub told_changed : (w : A) (x : B) (u : List ℕ) → a ≡ done w → x ≡ tell (done w) → u ≡ laid_over c (table w) t → (x ≡ tell a) × (u ≡ after c table t a)
  unfolding after
  told_changed w x u e told h = (told ∙ ap tell (sym e), h ∙ ap (after c table t) (sym e))

-- the same where the answer is told by its number, and is the table
module _ {R : Type 0} (c : Codec R) (t : List ℕ) (a : Answer (Table R)) where
  pub unchanged : (n : ℕ) → a ≡ refused n → (n ≡ code a) × (t ≡ after c (λ w. w) t a)
  unchanged n e = told_unchanged c code (λ w. w) t a n n e refl

  pub changed : (w : Table R) (u : List ℕ) → a ≡ done w → u ≡ laid_over c w t → (0 ≡ code a) × (u ≡ after c (λ w. w) t a)
  changed w u e h = told_changed c code (λ w. w) t a w 0 u e refl h
