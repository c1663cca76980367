-- A set that is given by its pages: how a walk's result is one, and that the promises which go by pages determine the answer. Assumes nothing.
use Rattle.std.proofs.Common.{◌≡◌, ℕ, Bool, sym, refl, ap, ◌∙◌, inl, inr, arith}
use Rattle.basics.specs.Answers.{Answer, refused, done}
use Rattle.pageset.specs.declared.PageSet.{PageSet}
use Rattle.pageset.specs.declared.SetAnswer.{SetAnswer}
use Rattle.pageset.specs.Sets.{member}
use Rattle.pageset.specs.Says.{IsSet, Gives, GivesOr22, refused_set}
use Rattle.pageset.proofs.FormLaws.{Normal, normal_fact, normal_test}
use Rattle.pageset.proofs.WalkLaws.{unique}

pub is_set : (f : ℕ → Bool) (s : PageSet) → Normal s → ((p : ℕ) → member s p ≡ f p) → IsSet f s
is_set f s t h = record { normal = normal_test s t; pages = h }

pub set_normal : (f : ℕ → Bool) (s : PageSet) → IsSet f s → Normal s
set_normal f s h = normal_fact s h.normal

-- the same pages by another test
pub set_same : (f g : ℕ → Bool) (s : PageSet) → ((p : ℕ) → f p ≡ g p) → IsSet f s → IsSet g s
set_same f g s e h = record { normal = h.normal; pages = λ p. h.pages p ∙ e p }

-- THE LAW OF UNIQUENESS: one set has just the pages that pass a test
pub one_set : (f : ℕ → Bool) (a b : PageSet) → IsSet f a → IsSet f b → a ≡ b
one_set f a b h k = unique a b (set_normal f a h) (set_normal f b k) (λ p. h.pages p ∙ sym (k.pages p))

same_answer_lem : (a b : SetAnswer) → a.code ≡ b.code → a.set ≡ b.set → a ≡ b
same_answer_lem a b e s = λ i. record { code = e i; set = s i }

-- so a rule has one answer
pub one_answer : (q : Answer (ℕ → Bool)) (a b : SetAnswer) → Gives a q → Gives b q → a ≡ b
one_answer (refused n) a b h k = h ∙ sym k
one_answer (done f) a b h k = same_answer_lem a b (h.0 ∙ sym k.0) (one_set f a.set b.set h.1 k.1)

pub one_answer_or_22 : (q : Answer (ℕ → Bool)) (a b : SetAnswer) → GivesOr22 a q → GivesOr22 b q → a ≡ b
one_answer_or_22 (refused n) a b h k = h ∙ sym k
one_answer_or_22 (done f) a b (inl h) (inl k) = one_answer (done f) a b h k
one_answer_or_22 (done f) a b (inl h) (inr k) = absurd (k.1 a.set h.1)
one_answer_or_22 (done f) a b (inr h) (inl k) = absurd (h.1 b.set k.1)
one_answer_or_22 (done f) a b (inr h) (inr k) = h.0 ∙ sym k.0

-- an answer whose number is known: the set, or 22
module _ (f g : ℕ → Bool) (same : (p : ℕ) → f p ≡ g p) (r : SetAnswer) where
  pub only_set : GivesOr22 r (done f) → r.code ≡ 0 → GivesOr22 (record { code = 0; set = r.set }) (done g)
  only_set (inl h) e = inl (refl, set_same f g r.set same h.1)
  only_set (inr h) e = absurd (let z : r.code ≡ 22 = ap (λ (x : SetAnswer). x.code) h.0 in omega arith)

  pub only_22 : GivesOr22 r (done f) → (r.code ≡ 0 → ⊥) → (a : SetAnswer) → a ≡ refused_set 22 → GivesOr22 a (done g)
  only_22 (inl h) n a e = absurd (n h.0)
  only_22 (inr h) n a e = inr (e, λ s k. h.1 s (set_same g f s (λ p. sym (same p)) k))
