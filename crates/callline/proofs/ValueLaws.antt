-- Laws of a line's values: a decimal digit by digit, a range by its ends, pages range by range.
use Rattle.std.proofs.Common.{◌≡◌, ℕ, zero, suc, ◌+◌, ◌-◌, ◌*◌, ◌<◌, ◌≤◌, Bool, true, false, ◌&&◌, eqb, ltb, leb, List, [], ◌∷◌, length, get_or, drop, sym, refl, ap, ◌∙◌, add-one, arith, drop_of_length-le, drop-cons, ltb-true, le-ltb, lt-ltb, le-leb, leb-true}
use mathlib.Core.Bool.{and-false}
use borrow.Author.Tests.{lt-leb}
use Rattle.basics.specs.Answers.{Answer, refused, done, ask, ◌>>=◌, ◌>>◌}
use Rattle.callline.specs.Texts.{Text, split, before, pieces_after, is_text, between}
use Rattle.callline.specs.Values.{malformed, is_digit, hex_digit, identifier_of, all_digits, spelled, leads, decimal_of, last32, Range, ends_of, range_of, follows, rising, dash, pages_of}
use Rattle.callline.specs.Says.{is_done}
use Rattle.callline.proofs.TextLaws.{by_test, split_first, pieces, after_last, after_more}

-- what is left of a decimal behind the digits of n
abbrev pub tail : ℕ → ℕ → Text → Answer ℕ
tail limit n t = ask (all_digits t && leb (spelled n t) limit) malformed >> done (spelled n t)

-- digits only make a number larger
spelled_grows : (n : ℕ) (t : Text) → n ≤ spelled n t
unfolding spelled
spelled_grows n [] = omega arith
spelled_grows n (b ∷ t) = omega (arith, spelled_grows (n * 10 + (b - 48)) t)

-- a byte below or above the digits, or the letters of hex
pub no_digit : (b : ℕ) → b < 48 → is_digit b ≡ false
no_digit b low = rw (lt-leb 48 b low)

pub no_digit' : (b : ℕ) → 57 < b → is_digit b ≡ false
no_digit' b high = rw (lt-leb b 57 high, and-false (leb 48 b))

pub no_letter : (b : ℕ) → b < 97 → (leb 97 b && leb b 102) ≡ false
no_letter b low = rw (lt-leb 97 b low)

pub no_letter' : (b : ℕ) → 102 < b → (leb 97 b && leb b 102) ≡ false
no_letter' b high = rw (lt-leb b 102 high, and-false (leb 97 b))

module _ (limit n : ℕ) (t : Text) (i : ℕ) (h : i < length t) where
  stray : is_digit (get_or t i 0) ≡ false → tail limit n (drop i t) ≡ refused malformed
  unfolding all_digits
  stray e = rw (drop-cons t i 0 h, e)

  pub below : get_or t i 0 < 48 → tail limit n (drop i t) ≡ refused malformed
  below l = stray (no_digit (get_or t i 0) l)

  pub above : 57 < get_or t i 0 → tail limit n (drop i t) ≡ refused malformed
  above g = stray (no_digit' (get_or t i 0) g)

  -- a number too large only grows
  pub large : limit < n * 10 + (get_or t i 0 - 48) → tail limit n (drop i t) ≡ refused malformed
  unfolding spelled
  large g =
      let m = n * 10 + (get_or t i 0 - 48) in
      let over : limit < spelled (n * 10 + (get_or t i 0 - 48)) (drop (suc i) t) = omega (arith, spelled_grows (n * 10 + (get_or t i 0 - 48)) (drop (suc i) t)) in
      rw (drop-cons t i 0 h, lt-leb (spelled (n * 10 + (get_or t i 0 - 48)) (drop (suc i) t)) limit over, and-false)

  pub step : 48 ≤ get_or t i 0 → get_or t i 0 ≤ 57 → tail limit n (drop i t) ≡ tail limit (n * 10 + (get_or t i 0 - 48)) (drop (i + 1) t)
  unfolding spelled all_digits
  step l g = rw (add-one i, drop-cons t i 0 h, le-leb 48 (get_or t i 0) l, le-leb (get_or t i 0) 57 g)

pub spent : (limit n : ℕ) (t : Text) (i : ℕ) → length t ≤ i → n ≤ limit → tail limit n (drop i t) ≡ done n
unfolding spelled all_digits
spent limit n t i h g = rw (drop_of_length-le t h, le-leb n limit g)

pub led : (limit : ℕ) (t : Text) → leads t ≡ true → decimal_of limit t ≡ tail limit 0 t
unfolding decimal_of
led limit t h = rw h

pub unled : (limit : ℕ) (t : Text) → leads t ≡ false → decimal_of limit t ≡ refused malformed
unfolding decimal_of
unled limit t h = rw h

-- a check whose answer is a value held
pub refused_done : {A : Type 0} (n : ℕ) (a : A) → ◌≡◌ {A = Answer A} (refused n) (done a) → ⊥
refused_done n a e = let z : ◌≡◌ {A = ℕ} 0 1 = cc in omega arith

asked : {A P : Type 0} (b : Bool) (n : ℕ) (k : Answer A) (a : A) → (ask b n >> k) ≡ done a → (b ≡ true → k ≡ done a → P) → P
asked true n k a e then = then refl e
asked false n k a e then = absurd (refused_done n a e)

and_right : (a b : Bool) → (a && b) ≡ true → b ≡ true
and_right true b e = e
and_right false b e = let z : ◌≡◌ {A = ℕ} 0 1 = cc in absurd (omega arith)

-- an identifier is a byte, and a decimal is at most its limit
pub identifier_small : (t : Text) (v : ℕ) → identifier_of t ≡ done v → v < 256
unfolding identifier_of
identifier_small t v e =
    let a = hex_digit (get_or t 0 0) in
    let b = hex_digit (get_or t 1 0) in
    asked (eqb (length t) 2) malformed _ v e
    (λ _ e₁. asked (ltb a 16) malformed _ v e₁
    (λ p e₂. asked (ltb b 16) malformed _ v e₂
    (λ q e₃. let s : hex_digit (get_or t 0 0) * 16 + hex_digit (get_or t 1 0) ≡ v = cc in omega (arith, ltb-true (hex_digit (get_or t 0 0)) 16 p, ltb-true (hex_digit (get_or t 1 0)) 16 q))))

pub decimal_small : (limit : ℕ) (t : Text) (v : ℕ) → decimal_of limit t ≡ done v → v ≤ limit
unfolding decimal_of
decimal_small limit t v e =
    asked (leads t) malformed _ v e
    (λ _ e₁. asked (all_digits t && leb (spelled 0 t) limit) malformed _ v e₁
    (λ p e₂. let s : spelled 0 t ≡ v = cc in omega (arith, leb-true (spelled 0 t) limit (and_right (all_digits t) (leb (spelled 0 t) limit) p))))

-- the ends of a range: the first is no decimal; alone; a third; the second is no decimal; two
ends_stray : (a : Text) (ps : List Text) → decimal_of last32 a ≡ refused malformed → ends_of (a ∷ ps) ≡ refused malformed
unfolding ends_of
ends_stray a [] h = rw h
ends_stray a (b ∷ []) h = rw h
ends_stray a (b ∷ c ∷ ps) h = refl

module _ (s : Text) (mid : ℕ) (p : mid ≡ 0 + before 45 (drop 0 s)) where
  first_end_lem : split 45 s ≡ between 0 mid s ∷ pieces_after 45 s mid
  first_end_lem = pieces 45 s 0 mid (omega arith) p

  pub range_stray : decimal_of last32 (between 0 mid s) ≡ refused malformed → range_of s ≡ refused malformed
  unfolding range_of
  range_stray h = rw first_end_lem (ends_stray (between 0 mid s) (pieces_after 45 s mid) h)

  pub range_alone : (a : ℕ) → length s ≤ mid → decimal_of last32 (between 0 mid s) ≡ done a → range_of s ≡ done (record { first = a; last = a })
  unfolding range_of ends_of
  range_alone a h e = rw (first_end_lem, after_last 45 s mid h, e)

  module _ (to : ℕ) (h : mid < length s) (q : to ≡ mid + 1 + before 45 (drop (mid + 1) s)) where
    second_end : split 45 s ≡ between 0 mid s ∷ between (mid + 1) to s ∷ pieces_after 45 s to
    second_end = first_end_lem ∙ ap (λ (l : List Text). between 0 mid s ∷ l) (after_more 45 s mid h ∙ pieces 45 s (mid + 1) to (omega arith) q)

    pub range_third : to < length s → range_of s ≡ refused malformed
    unfolding range_of ends_of
    range_third g = rw (second_end, after_more 45 s to g, split_first 45 (drop (to + 1) s))

    pub range_half : (a : ℕ) → length s ≤ to → decimal_of last32 (between 0 mid s) ≡ done a → decimal_of last32 (between (mid + 1) to s) ≡ refused malformed → range_of s ≡ refused malformed
    unfolding range_of ends_of
    range_half a g e f = rw (second_end, after_last 45 s to g, e, f)

    pub range_two : (a b : ℕ) → length s ≤ to → decimal_of last32 (between 0 mid s) ≡ done a → decimal_of last32 (between (mid + 1) to s) ≡ done b → range_of s ≡ done (record { first = a; last = b })
    unfolding range_of ends_of
    range_two a b g e f = rw (second_end, after_last 45 s to g, e, f)

-- an answer goes on or not whatever is made of its value
done_on : {A B : Type 0} (x : Answer A) (f : A → B) → is_done (x >>= λ a. done (f a)) ≡ is_done x
done_on (refused n) f = refl
done_on (done a) f = refl

-- ranges, one after another
module _ (low : ℕ) (p : Text) (ps : List Text) where
  pub rise_stray : range_of p ≡ refused malformed → is_done (rising low (p ∷ ps)) ≡ false
  unfolding rising
  rise_stray e = rw e

  module _ (f l : ℕ) (e : range_of p ≡ done (record { first = f; last = l })) where
    pub rise_low : f ≤ low → is_done (rising low (p ∷ ps)) ≡ false
    unfolding rising
    rise_low h = rw (e, le-ltb low f h)

    pub rise_falls : l < f → is_done (rising low (p ∷ ps)) ≡ false
    unfolding rising
    rise_falls h = rw (e, lt-leb f l h, and-false (ltb low f))

    rise_on : low < f → f ≤ l → is_done (rising low (p ∷ ps)) ≡ is_done (rising l ps)
    unfolding rising
    rise_on h g = rw (e, lt-ltb low f h, le-leb f l g) (done_on (rising l ps) (λ rs. record { first = f; last = l } ∷ rs))

rise_end : (low : ℕ) → is_done (rising low []) ≡ true
unfolding rising
rise_end low = refl

-- a range that ends with the text is the last; else the next starts behind its `,`
module _ (low : ℕ) (p t : Text) (e f l : ℕ) (r : range_of p ≡ done (record { first = f; last = l })) (h : low < f) (g : f ≤ l) where
  pub rise_last : length t ≤ e → is_done (rising low (p ∷ pieces_after 44 t e)) ≡ true
  rise_last k = rise_on low p (pieces_after 44 t e) f l r h g ∙ rw (after_last 44 t e k) (rise_end l)

  pub rise_more : e < length t → is_done (rising low (p ∷ pieces_after 44 t e)) ≡ is_done (rising l (split 44 (drop (e + 1) t)))
  rise_more k = rise_on low p (pieces_after 44 t e) f l r h g ∙ rw (after_more 44 t e k)

pub pages_dash : (t : Text) → is_text dash t ≡ true → is_done (pages_of t) ≡ true
unfolding pages_of
pages_dash t h = rw h

pub pages_ranges : (t : Text) → is_text dash t ≡ false → pages_of t ≡ rising 0 (split 44 t)
unfolding pages_of
pages_ranges t h = rw h

-- every refusal is 24
abbrev Only24 : {A : Type 0} → Answer A → Type 0
Only24 x = is_done x ≡ false → x ≡ refused malformed

done_24 : {A : Type 0} (a : A) → Only24 (done a)
done_24 a h = absurd (let z : ◌≡◌ {A = ℕ} 0 1 = cc in omega arith)

ask_24 : {A : Type 0} (b : Bool) (k : Answer A) → Only24 k → Only24 (ask b malformed >> k)
ask_24 true k h = h
ask_24 false k h = λ _. refl

bind_24 : {A B : Type 0} (x : Answer A) (f : A → Answer B) → Only24 x → ((a : A) → Only24 (f a)) → Only24 (x >>= f)
bind_24 (refused n) f h g = λ _. ap (λ (y : Answer _). y >>= f) (h refl)
bind_24 (done a) f h g = g a

decimal_24 : (limit : ℕ) (t : Text) → Only24 (decimal_of limit t)
unfolding decimal_of
decimal_24 limit t = ask_24 (leads t) _ (ask_24 (all_digits t && leb (spelled 0 t) limit) _ (done_24 _))

ends_24 : (ps : List Text) → Only24 (ends_of ps)
unfolding ends_of
ends_24 [] = λ _. refl
ends_24 (a ∷ []) = bind_24 (decimal_of last32 a) _ (decimal_24 last32 a) (λ n. done_24 _)
ends_24 (a ∷ b ∷ []) = bind_24 (decimal_of last32 a) _ (decimal_24 last32 a) (λ n. bind_24 (decimal_of last32 b) _ (decimal_24 last32 b) (λ m. done_24 _))
ends_24 (a ∷ b ∷ c ∷ ps) = λ _. refl

range_24 : (t : Text) → Only24 (range_of t)
unfolding range_of
range_24 t = ends_24 (split 45 t)

rising_24 : (low : ℕ) (ps : List Text) → Only24 (rising low ps)
unfolding rising
rising_24 low [] = done_24 _
rising_24 low (p ∷ ps) = bind_24 (range_of p) _ (range_24 p) (λ r. ask_24 (follows low r) _ (bind_24 (rising r.last ps) _ (rising_24 r.last ps) (λ rs. done_24 _)))

pages_cases : (t : Text) (q : Bool) → is_text dash t ≡ q → Only24 (pages_of t)
unfolding pages_of
pages_cases t true e = rw e (done_24 _)
pages_cases t false e = rw e (rising_24 0 (split 44 t))

pub pages_24 : (t : Text) → is_done (pages_of t) ≡ false → pages_of t ≡ refused malformed
pages_24 t = pages_cases t (is_text dash t) refl
