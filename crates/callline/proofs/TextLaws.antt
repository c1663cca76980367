-- Laws of texts taken apart: a text is its first piece and the pieces after it, at every place; and a beginning, byte by byte.
use Rattle.std.proofs.Common.{◌≡◌, ℕ, zero, suc, ◌+◌, ◌-◌, ◌<◌, ◌≤◌, Bool, true, false, cond, eqb, ltb, List, [], ◌∷◌, length, get_or, take, drop, sym, refl, ap, ◌∙◌, add-one, arith, length-drop, drop_of_length-le, length-take-le, drop-cons, drop-drop, take-add, drop_at, ltb-false, ltb-true, le-ltb, lt-ltb, eq-eqb, ne_eqb}
use Rattle.callline.specs.Texts.{Text, onto, split, before, pieces_after, starts, between}

-- a test goes one way or the other
pub by_test : {P : Type 0} (b : Bool) → (b ≡ true → P) → (b ≡ false → P) → P
by_test true yes' no' = yes' refl
by_test false yes' no' = no' refl

-- where no byte is left, none stands before
pub before_end : (s : ℕ) (t : Text) (i : ℕ) → length t ≤ i → before s (drop i t) ≡ 0
unfolding before
before_end s t i h = rw (drop_of_length-le t h)

pub before_found : (s : ℕ) (t : Text) (i : ℕ) → i < length t → get_or t i 0 ≡ s → before s (drop i t) ≡ 0
unfolding before
before_found s t i h e = rw (drop-cons t i 0 h, eq-eqb (get_or t i 0) s e)

pub before_step : (s : ℕ) (t : Text) (i : ℕ) → i < length t → (get_or t i 0 ≡ s → ⊥) → before s (drop i t) ≡ suc (before s (drop (i + 1) t))
unfolding before
before_step s t i h ne = rw (add-one i, drop-cons t i 0 h, ne_eqb (get_or t i 0) s ne)

after_cons : (s b : ℕ) (t : Text) (n : ℕ) → pieces_after s (b ∷ t) (suc n) ≡ pieces_after s t n
unfolding pieces_after
after_cons s b t n =
    by_test (ltb n (length t))
    (λ y. let h : n < length t = ltb-true n (length t) y in
    rw (y, lt-ltb (suc n) (suc (length t)) (omega arith), add-one (suc n), add-one n))
    (λ x. let h : length t ≤ n = ltb-false n (length t) x in
    rw (x, le-ltb (suc n) (suc (length t)) (omega arith)))

split_cons : (s b : ℕ) (t : Text) (q : Bool) → eqb b s ≡ q → split s t ≡ take (before s t) t ∷ pieces_after s t (before s t) → split s (b ∷ t) ≡ take (before s (b ∷ t)) (b ∷ t) ∷ pieces_after s (b ∷ t) (before s (b ∷ t))
unfolding split before onto pieces_after
split_cons s b t true e ih = rw (e, lt-ltb 0 (suc (length t)) (omega arith))
split_cons s b t false e ih = rw (e, after_cons s b t (before s t), ih)

-- a text is its first piece and the pieces after it
pub split_first : (s : ℕ) (t : Text) → split s t ≡ take (before s t) t ∷ pieces_after s t (before s t)
unfolding split before pieces_after
split_first s [] = refl
split_first s (b ∷ t) = split_cons s b t (eqb b s) refl (split_first s t)

after_drop : (s : ℕ) (t : Text) (at' n : ℕ) → at' ≤ length t → pieces_after s (drop at' t) n ≡ pieces_after s t (at' + n)
unfolding pieces_after
after_drop s t at' n h =
    let same : at' + (n + 1) ≡ at' + n + 1 = omega arith in
    by_test (ltb (at' + n) (length t))
    (λ y. let g : at' + n < length t = ltb-true (at' + n) (length t) y in
    rw (y, length-drop at' t, lt-ltb n (length t - at') (omega arith), drop-drop (n + 1) at' t, same))
    (λ x. let g : length t ≤ at' + n = ltb-false (at' + n) (length t) x in
    rw (x, length-drop at' t, le-ltb n (length t - at') (omega arith)))

-- the pieces from a place on: the one that ends at e, and those after it
pub pieces : (s : ℕ) (t : Text) (at' e : ℕ) → at' ≤ length t → e ≡ at' + before s (drop at' t) → split s (drop at' t) ≡ between at' e t ∷ pieces_after s t e
pieces s t at' e h p =
    let n : before s (drop at' t) ≡ e - at' = omega arith in
    split_first s (drop at' t) ∙ rw (after_drop s t at' (before s (drop at' t)) h, ← p, n)

-- where a piece ends with the text, none is after it; else the pieces after it start behind that byte
pub after_last : (s : ℕ) (t : Text) (e : ℕ) → length t ≤ e → pieces_after s t e ≡ []
unfolding pieces_after
after_last s t e h = rw (le-ltb e (length t) h)

pub after_more : (s : ℕ) (t : Text) (e : ℕ) → e < length t → pieces_after s t e ≡ split s (drop (e + 1) t)
unfolding pieces_after
after_more s t e h = rw (lt-ltb e (length t) h)

-- the part behind a beginning of k bytes
pub between_drop : (k : ℕ) (t : Text) (at' e : ℕ) → at' + k ≤ e → e ≤ length t → drop k (between at' e t) ≡ between (at' + k) e t
between_drop k t at' e h g =
    let n : e - at' ≡ k + (e - (at' + k)) = omega arith in
    let m : k ≤ length (drop at' t) = rw (length-drop at' t) (omega arith) in
    rw (n, take-add k (e - (at' + k)) (drop at' t), drop_at (take k (drop at' t)) (take (e - (at' + k)) (drop k (drop at' t))) k (length-take-le k (drop at' t) m), drop-drop k at' t)

starts_short_cons : (k : ℕ) (ks : Text) (b : ℕ) (t : Text) (q : Bool) → eqb b k ≡ q → starts ks t ≡ false → starts (k ∷ ks) (b ∷ t) ≡ false
unfolding starts
starts_short_cons k ks b t true e ih = rw (e, ih)
starts_short_cons k ks b t false e ih = rw e

-- a text begins with no longer one
pub starts_short : (ks t : Text) → length t < length ks → starts ks t ≡ false
unfolding starts
starts_short [] t h = absurd (omega arith)
starts_short (k ∷ ks) [] h = refl
starts_short (k ∷ ks) (b ∷ t) h = starts_short_cons k ks b t (eqb b k) refl (starts_short ks t (omega arith))

pub starts_length : (ks t : Text) → starts ks t ≡ true → length ks ≤ length t
starts_length ks t h =
    by_test (ltb (length t) (length ks))
    (λ y. let z : ◌≡◌ {A = Bool} true false = sym h ∙ starts_short ks t (ltb-true (length t) (length ks) y) in absurd (true_false z))
    (λ x. ltb-false (length t) (length ks) x)
  where
    true_false : ◌≡◌ {A = Bool} true false → ⊥
    true_false z = let w : ◌≡◌ {A = ℕ} 0 1 = cc in omega arith

-- one byte of a beginning
pub starts_step : (ks t : Text) (i : ℕ) → i < length ks → i < length t → get_or t i 0 ≡ get_or ks i 0 → starts (drop i ks) (drop i t) ≡ starts (drop (i + 1) ks) (drop (i + 1) t)
unfolding starts
starts_step ks t i h g e = rw (add-one i, drop-cons ks i 0 h, drop-cons t i 0 g, eq-eqb (get_or t i 0) (get_or ks i 0) e)

pub starts_differs : (ks t : Text) (i : ℕ) → i < length ks → i < length t → (get_or t i 0 ≡ get_or ks i 0 → ⊥) → starts (drop i ks) (drop i t) ≡ false
unfolding starts
starts_differs ks t i h g ne = rw (drop-cons ks i 0 h, drop-cons t i 0 g, ne_eqb (get_or t i 0) (get_or ks i 0) ne)

pub starts_end : (ks t : Text) (i : ℕ) → length ks ≤ i → starts (drop i ks) t ≡ true
unfolding starts
starts_end ks t i h = rw (drop_of_length-le ks h)

-- a beginning of a part ends within it
pub key_fits : (ks t : Text) (at' e : ℕ) → at' ≤ e → e ≤ length t → starts ks (between at' e t) ≡ true → at' + length ks ≤ e
key_fits ks t at' e h g s =
    let m : e - at' ≤ length (drop at' t) = rw (length-drop at' t) (omega arith) in
    omega (arith, starts_length ks (between at' e t) s, length-take-le (e - at') (drop at' t) m)
