-- Sets across the boundary: an answer by value and what is left of it, and that a rule leaves one thing only.
-- An answer under 1, 2 or 3 is put first, then the lent slice is looked at, then 22 or the set is put: the order of the rule. Assumes nothing.
use Rattle.std.proofs.Common.{◌≡◌, ℕ, ◌<◌, Bool, true, false, cond, not, ◌&&◌, eqb, leb, List, length, drop, sym, refl, ap, ◌∙◌, subst, ap₂, inl, inr, arith, eq-eqb, ne_eqb, eqb-true}
use borrow.Author.Tests.{eqb-false}
use Rattle.octets.specs.Bytes.{put}
use Rattle.octets.proofs.Places.{put_all}
use Rattle.basics.specs.Answers.{Answer, refused, done, ask, ◌>>=◌, ◌>>◌}
use Rattle.pageset.specs.declared.PageSet.{PageSet}
use Rattle.pageset.specs.declared.SetAnswer.{SetAnswer}
use Rattle.pageset.specs.declared.CutAnswer.{CutAnswer}
use Rattle.pageset.specs.Sets.{normal, blank, normal_form, rising, window_forms, holds, bit, mask_at, shown, member}
use Rattle.pageset.specs.Says.{IsSet, Gives, GivesOr22, refused_set, common, left}
use Rattle.pageset.proofs.ResultLaws.{one_set}
use Rattle.pageset.proofs.FormLaws.{and_snd}
pub use Rattle.pageset.proofs.FormLaws.{empty_normal}
use Rattle.layout.specs.Codecs.{in_form}
use Rattle.layout.proofs.HoldLaws.{in_form_lem}
use Rattle.layout.proofs.FormHolds.{set_held}
use Rattle.layout.specs.Values.{set_bytes, window_bytes}
use Rattle.arguments.specs.declared.Reply.{Reply}
use Rattle.arguments.specs.Replies.{none_under}
use Rattle.arguments.specs.Replies as Replies
use Rattle.pageset.specs.Rules.{new_rule, cut_rule, left_rule}
use Rattle.setbytes.specs.Laid.{set_laid}
use Rattle.setbytes.proofs.LaidLaws.{laid_normal}
use Rattle.arguments.specs.Args.{argument, not_aset, set_arg}
use Rattle.layout.specs.Lent.{sized}
use Rattle.arguments.specs.Sets.{told, AreSet, SetLeft, SetLeftOr22, LeavesSet, LeavesSetOr22, LeavesCut, early, set_put, cut_put}

pub set_size : set_bytes.size ≡ 385
unfolding set_bytes window_bytes
set_size = refl

-- a set in normal form has 385 bytes
pub set_long : (s : PageSet) → normal s ≡ true → length (set_bytes.spell (shown s)) ≡ 385
unfolding normal
set_long s h =
    let f : normal_form (shown s) ≡ true = and_snd (leb s.len 32 && eqb (length s.windows) 32 && blank (drop s.len s.windows)) (normal_form (shown s)) h in
    (set_held (shown s) f).long ∙ set_size

-- so it fills a lent slice of its size
pub fills : (s : PageSet) (was : List ℕ) → normal s ≡ true → length was ≡ 385 → put 0 (set_bytes.spell (shown s)) was ≡ set_bytes.spell (shown s)
fills s was h e = put_all (set_bytes.spell (shown s)) was (set_long s h ∙ sym e)

-- ---- an answer by value, as it is put

module _ (found : ℕ) (was : List ℕ) (a : SetAnswer) where
  abbrev spelt : Reply × List ℕ
  spelt = (told found, set_bytes.spell (shown a.set))

  by : Bool → Bool → Bool → Reply × List ℕ
  by e l z = cond e (none_under a.code, was) (cond l (cond z spelt (none_under a.code, was)) (none_under 3, was))

  is_by : (e l z : Bool) → early a.code ≡ e → eqb (length was) 385 ≡ l → eqb a.code 0 ≡ z → by e l z ≡ set_put found was a
  unfolding set_put by
  is_by e l z p q r = rw (← p, ← q, ← r)

  -- 1, 2 or 3
  pub put_early : early a.code ≡ true → (none_under a.code, was) ≡ set_put found was a
  unfolding by
  put_early p = is_by true (eqb (length was) 385) (eqb a.code 0) p refl refl

  -- a lent slice of another length
  pub put_short : early a.code ≡ false → (length was ≡ 385 → ⊥) → (none_under 3, was) ≡ set_put found was a
  unfolding by
  put_short p h = is_by false false (eqb a.code 0) p (ne_eqb (length was) 385 h) refl

  -- 22
  pub put_22 : early a.code ≡ false → length was ≡ 385 → (a.code ≡ 0 → ⊥) → (none_under a.code, was) ≡ set_put found was a
  unfolding by
  put_22 p e h = is_by false true false p (eq-eqb (length was) 385 e) (ne_eqb a.code 0 h)

  -- a set
  pub put_set : early a.code ≡ false → length was ≡ 385 → a.code ≡ 0 → spelt ≡ set_put found was a
  unfolding by
  put_set p e h = is_by false true true p (eq-eqb (length was) 385 e) (eq-eqb a.code 0 h)

-- ---- what is left of an answer to a rule

-- a rule of sets refuses by 1, 2 and 3
abbrev pub Early : {A : Type 0} → Answer A → Type 0
Early (refused n) = (0 < n) × (n < 4)
Early (done a) = Unit {0}

pub is_early : (n : ℕ) → 0 < n → n < 4 → early n ≡ true
is_early n l h = rw (ne_eqb n 0 (λ e. omega arith), ne_eqb n 22 (λ e. omega arith))

none_early : (n : ℕ) → n ≡ 0 → early n ≡ false
none_early n e = rw e

last_early : (n : ℕ) → n ≡ 22 → early n ≡ false
last_early n e = rw e

module _ (found : ℕ) (was : List ℕ) (a : SetAnswer) where
  abbrev put_left : Reply × List ℕ
  put_left = set_put found was a

  refused_left : (n : ℕ) → 0 < n → n < 4 → a ≡ refused_set n → put_left ≡ (none_under n, was)
  refused_left n l h e =
      let c : a.code ≡ n = ap (λ (x : SetAnswer). x.code) e in
      sym (put_early found was a (ap early c ∙ is_early n l h)) ∙ ap (λ (k : ℕ). (none_under k, was)) c

  module _ (f : ℕ → Bool) where
    set_left : a.code ≡ 0 → IsSet f a.set → (b : Bool) → eqb (length was) 385 ≡ b → SetLeft found was (ask b 3 >> done f) put_left
    set_left e h true l =
        subst (λ (x : Reply × List ℕ). (x.0 ≡ told found) × AreSet f x.1)
        (put_set found was a (none_early a.code e) (eqb-true (length was) 385 l) e)
        (refl, record { set = a.set; is = h; bytes = refl })
    set_left e h false l = sym (put_short found was a (none_early a.code e) (eqb-false (length was) 385 l))

    set_or_22 : GivesOr22 a (done f) → (b : Bool) → eqb (length was) 385 ≡ b → SetLeftOr22 found was (ask b 3 >> done f) put_left
    set_or_22 (inl h) true l = inl (set_left h.0 h.1 true l)
    set_or_22 (inl h) false l = set_left h.0 h.1 false l
    set_or_22 (inr h) true l =
        let c : a.code ≡ 22 = ap (λ (x : SetAnswer). x.code) h.0 in
        inr (sym (put_22 found was a (last_early a.code c) (eqb-true (length was) 385 l) (λ z. omega arith)) ∙ ap (λ (k : ℕ). (none_under k, was)) c, h.1)
    set_or_22 (inr h) false l =
        let c : a.code ≡ 22 = ap (λ (x : SetAnswer). x.code) h.0 in
        sym (put_short found was a (last_early a.code c) (eqb-false (length was) 385 l))

  -- a set, or the number
  leaves_set : (q : Answer (ℕ → Bool)) → Early q → Gives a q → LeavesSet found was q put_left
  leaves_set (refused n) e h = refused_left n e.0 e.1 h
  leaves_set (done f) e h = rw set_size (set_left f h.0 h.1 (eqb (length was) 385) refl)

  -- and 22
  leaves_set_or_22 : (q : Answer (ℕ → Bool)) → Early q → GivesOr22 a q → LeavesSetOr22 found was q put_left
  leaves_set_or_22 (refused n) e h = refused_left n e.0 e.1 h
  leaves_set_or_22 (done f) e h = rw set_size (set_or_22 f h (eqb (length was) 385) refl)

-- a promise of the call by value, on arguments that equal the rule's, becomes the promise of the exported call
module _ (found : ℕ) (was : List ℕ) (a : SetAnswer) (p q : Answer (ℕ → Bool)) (x : Reply × List ℕ) (e : p ≡ q) (n : Early q) where
  pub left_set : Gives a p → x ≡ set_put found was a → LeavesSet found was q x
  left_set g h = subst (λ (y : Reply × List ℕ). LeavesSet found was q y) (sym h) (leaves_set found was a q n (subst (λ (r : Answer (ℕ → Bool)). Gives a r) e g))

  pub left_set_or_22 : GivesOr22 a p → x ≡ set_put found was a → LeavesSetOr22 found was q x
  left_set_or_22 g h = subst (λ (y : Reply × List ℕ). LeavesSetOr22 found was q y) (sym h) (leaves_set_or_22 found was a q n (subst (λ (r : Answer (ℕ → Bool)). GivesOr22 a r) e g))

-- what is found counts only under 0
module _ (found found' : ℕ) (was : List ℕ) (a : SetAnswer) where
  same_by : by found was a (early a.code) (eqb (length was) 385) false ≡ by found' was a (early a.code) (eqb (length was) 385) false
  unfolding by
  same_by = refl

  by_code : (z : Bool) → eqb a.code 0 ≡ z → (a.code ≡ 0 → found ≡ found') → set_put found was a ≡ set_put found' was a
  by_code true p h = ap (λ (n : ℕ). set_put n was a) (h (eqb-true a.code 0 p))
  by_code false p h = sym (is_by found was a (early a.code) (eqb (length was) 385) false refl refl p) ∙ same_by ∙ is_by found' was a (early a.code) (eqb (length was) 385) false refl refl p

  pub same_found : (a.code ≡ 0 → found ≡ found') → set_put found was a ≡ set_put found' was a
  same_found h = by_code (eqb a.code 0) refl h

-- an answer under 0 is in normal form, and so is a refusal's empty set
pub given_normal : (a : SetAnswer) (q : Answer (ℕ → Bool)) → Gives a q → normal a.set ≡ true
given_normal a (refused n) h = ap (λ (x : SetAnswer). normal x.set) h ∙ empty_normal
given_normal a (done f) h = h.1.normal

pub given_or_22_normal : (a : SetAnswer) (q : Answer (ℕ → Bool)) → GivesOr22 a q → normal a.set ≡ true
given_or_22_normal a (refused n) h = ap (λ (x : SetAnswer). normal x.set) h ∙ empty_normal
given_or_22_normal a (done f) (inl h) = h.1.normal
given_or_22_normal a (done f) (inr h) = ap (λ (x : SetAnswer). normal x.set) h.0 ∙ empty_normal

-- ---- a rule leaves one thing only

one_bytes : (f : ℕ → Bool) (b c : List ℕ) → AreSet f b → AreSet f c → b ≡ c
one_bytes f b c h k = h.bytes ∙ ap (λ (s : PageSet). set_bytes.spell (shown s)) (one_set f h.set k.set h.is k.is) ∙ sym k.bytes

module _ (found : ℕ) (was : List ℕ) where
  pub one_left : (q : Answer (ℕ → Bool)) (x y : Reply × List ℕ) → SetLeft found was q x → SetLeft found was q y → x ≡ y
  one_left (refused n) x y h k = h ∙ sym k
  one_left (done f) x y h k = ap₂ (λ (r : Reply) (b : List ℕ). (r, b)) (h.0 ∙ sym k.0) (one_bytes f x.1 y.1 h.1 k.1)

  pub one_left_or_22 : (q : Answer (ℕ → Bool)) (x y : Reply × List ℕ) → SetLeftOr22 found was q x → SetLeftOr22 found was q y → x ≡ y
  one_left_or_22 (refused n) x y h k = h ∙ sym k
  one_left_or_22 (done f) x y (inl h) (inl k) = one_left (done f) x y h k
  one_left_or_22 (done f) x y (inl h) (inr k) = absurd (k.1 h.1.set h.1.is)
  one_left_or_22 (done f) x y (inr h) (inl k) = absurd (h.1 k.1.set k.1.is)
  one_left_or_22 (done f) x y (inr h) (inr k) = h.0 ∙ sym k.0

-- ---- a cut

module _ (was was' : List ℕ) (a : CutAnswer) where
  abbrev cut_spelt : Reply × (List ℕ × List ℕ)
  cut_spelt = (told 1, (set_bytes.spell (shown a.common), set_bytes.spell (shown a.left)))

  cut_by : Bool → Bool → Bool → Reply × (List ℕ × List ℕ)
  cut_by z l m = cond z (cond l (cond m cut_spelt (none_under 3, (was, was'))) (none_under 3, (was, was'))) (none_under a.code, (was, was'))

  is_cut_by : (z l m : Bool) → eqb a.code 0 ≡ z → eqb (length was) 385 ≡ l → eqb (length was') 385 ≡ m → cut_by z l m ≡ cut_put was was' a
  unfolding cut_put cut_by
  is_cut_by z l m p q r = rw (← p, ← q, ← r)

  pub cut_refused : (a.code ≡ 0 → ⊥) → (none_under a.code, (was, was')) ≡ cut_put was was' a
  unfolding cut_by
  cut_refused h = is_cut_by false (eqb (length was) 385) (eqb (length was') 385) (ne_eqb a.code 0 h) refl refl

  pub cut_short : a.code ≡ 0 → (length was ≡ 385 → ⊥) → (none_under 3, (was, was')) ≡ cut_put was was' a
  unfolding cut_by
  cut_short e h = is_cut_by true false (eqb (length was') 385) (eq-eqb a.code 0 e) (ne_eqb (length was) 385 h) refl

  pub cut_short_2 : a.code ≡ 0 → length was ≡ 385 → (length was' ≡ 385 → ⊥) → (none_under 3, (was, was')) ≡ cut_put was was' a
  unfolding cut_by
  cut_short_2 e l h = is_cut_by true true false (eq-eqb a.code 0 e) (eq-eqb (length was) 385 l) (ne_eqb (length was') 385 h)

  pub cut_sets : a.code ≡ 0 → length was ≡ 385 → length was' ≡ 385 → cut_spelt ≡ cut_put was was' a
  unfolding cut_by
  cut_sets e l m = is_cut_by true true true (eq-eqb a.code 0 e) (eq-eqb (length was) 385 l) (eq-eqb (length was') 385 m)

  abbrev cut_left : Reply × (List ℕ × List ℕ)
  cut_left = cut_put was was' a

  -- each half of what is left, both slices looked at
  Halves : Bool → Bool → (f g : ℕ → Bool) → Reply × (List ℕ × List ℕ) → Type 0
  Halves l m f g x =
      SetLeft 1 was ((ask l 3 >> done f) >>= λ h. (ask m 3 >> done h)) (x.0, x.1.0)
      × SetLeft 1 was' ((ask l 3 >> done g) >>= λ h. (ask m 3 >> done h)) (x.0, x.1.1)

  module _ (f g : ℕ → Bool) (e : a.code ≡ 0) (h : IsSet f a.common) (k : IsSet g a.left) where
    halves : (l m : Bool) → eqb (length was) 385 ≡ l → eqb (length was') 385 ≡ m → Halves l m f g cut_left
    unfolding Halves
    halves true true p q =
        subst (Halves true true f g) (cut_sets e (eqb-true (length was) 385 p) (eqb-true (length was') 385 q))
        ((refl, record { set = a.common; is = h; bytes = refl }), (refl, record { set = a.left; is = k; bytes = refl }))
    halves true false p q = subst (Halves true false f g) (cut_short_2 e (eqb-true (length was) 385 p) (eqb-false (length was') 385 q)) (refl, refl)
    halves false m p q = subst (Halves false m f g) (cut_short e (eqb-false (length was) 385 p)) (refl, refl)

  -- the two rules of a cut refuse by the same number
  leaves_cut : (b : Bool) (f g : ℕ → Bool) → Gives (common a) (ask b 3 >> done f) → Gives (left a) (ask b 3 >> done g) → LeavesCut was was' (ask b 3 >> done f) (ask b 3 >> done g) cut_left
  unfolding Halves
  leaves_cut true f g h k = rw set_size (halves f g h.0 h.1 k.1 (eqb (length was) 385) (eqb (length was') 385) refl refl)
  leaves_cut false f g h k =
      let e : a.code ≡ 3 = ap (λ (x : SetAnswer). x.code) h in
      let r : (none_under 3, (was, was')) ≡ cut_left = ap (λ (n : ℕ). (none_under n, (was, was'))) (sym e) ∙ cut_refused (λ z. omega arith) in
      (ap (λ (x : Reply × (List ℕ × List ℕ)). (x.0, x.1.0)) (sym r), ap (λ (x : Reply × (List ℕ × List ℕ)). (x.0, x.1.1)) (sym r))

-- the promise of a cut by value, on arguments that equal the rule's
pub left_cut : (was was' : List ℕ) (a : CutAnswer) (s t u v : PageSet) (x : Reply × (List ℕ × List ℕ)) → s ≡ u → t ≡ v → Gives (common a) (cut_rule s t) × Gives (left a) (left_rule s t) → x ≡ cut_put was was' a → LeavesCut was was' (cut_rule u v) (left_rule u v) x
unfolding cut_rule left_rule
left_cut was was' a s t u v x d e g h =
    subst (λ (y : Reply × (List ℕ × List ℕ)). LeavesCut was was' (cut_rule u v) (left_rule u v) y) (sym h)
    (leaves_cut was was' a (normal u && normal v) (λ (p : ℕ). member u p && member v p) (λ (p : ℕ). member u p && not (member v p))
    (subst (λ (r : Answer (ℕ → Bool)). Gives (common a) r) (ap₂ cut_rule d e) g.0) (subst (λ (r : Answer (ℕ → Bool)). Gives (left a) r) (ap₂ left_rule d e) g.1))

-- ---- whether an inserted page was new

pub new_found : (s t : PageSet) (p number found : ℕ) (new : Bool) → found ≡ Replies.bit new → new ≡ new_rule s p number → s ≡ t → number ≡ 0 → found ≡ Replies.bit (not (member t p))
unfolding new_rule
new_found s t p number found new b h e z = b ∙ ap Replies.bit (h ∙ ap (λ (n : ℕ). eqb n 0 && not (member s p)) z ∙ ap (λ (u : PageSet). not (member u p)) e)

-- a cut leaves one thing only
module _ (was was' : List ℕ) (p q : Answer (ℕ → Bool)) where
  abbrev sized_both : Answer (ℕ → Bool) → Answer (ℕ → Bool)
  sized_both r = sized set_bytes.size was' (sized set_bytes.size was r)

  pub one_cut : (x y : Reply × (List ℕ × List ℕ)) → LeavesCut was was' p q x → LeavesCut was was' p q y → x ≡ y
  one_cut x y h k =
      let a = one_left 1 was (sized_both p) (x.0, x.1.0) (y.0, y.1.0) h.0 k.0 in
      let b = one_left 1 was' (sized_both q) (x.0, x.1.1) (y.0, y.1.1) h.1 k.1 in
      λ i. ((a i).0, ((a i).1, (b i).1))

-- ---- 3 comes just where the bytes of an argument are not those of a set in form

module _ (b : List ℕ) where
  abbrev fine : Bool
  fine = eqb (length b) set_bytes.size && in_form set_bytes normal_form b

  not_normal : normal not_aset ≡ false
  unfolding not_aset normal blank normal_form rising window_forms holds bit mask_at
  not_normal = refl

  by_form : (t : Bool) → fine ≡ t → normal (cond t (set_laid (set_bytes.read b)) not_aset) ≡ t
  by_form true e = laid_normal (set_bytes.read b) (in_form_lem set_bytes normal_form b (and_snd (eqb (length b) set_bytes.size) (in_form set_bytes normal_form b) e)).1
  by_form false e = not_normal

  pub arg_normal : normal (set_arg b) ≡ (eqb (length b) set_bytes.size && in_form set_bytes normal_form b)
  unfolding argument
  arg_normal = by_form fine refl
