-- The laws of `tab`, and the turns of a loop that fills an array with its elements.
use mathlib.Core.Path.{◌≡◌, refl, sym, ap, ◌∙◌, subst}
use mathlib.Core.List.{List, [], ◌∷◌, ◌++◌}
use Prim.Native.Nat.{ℕ, zero, suc, ◌+◌, ◌-◌, ◌<◌}
use native.Mathlib.Omega.{arith}
use native.Mathlib.Numerals.{add-one}
use native.Mathlib.Decide.{dec_lt}
use lib.ListN.{length, get_or, set, drop, replicate, length-append, get_or-append}
use lib.Seq.{drop-cons, set_at, append_snoc, get_or_at}
use Rattle.octets.specs.Tab.{tab}

module _ {A : Type 0} (f : ℕ → A) where
  pub length_tab : (n : ℕ) → length (tab f n) ≡ n
  unfolding tab
  length_tab zero = refl
  length_tab (suc n) = length-append (tab f n) (f n ∷ []) ∙ add-one _ ∙ ap suc (length_tab n)

  -- none stored yet
  pub tab_none : (d : List A) → d ≡ tab f 0 ++ drop 0 d
  unfolding tab
  tab_none d = refl

  -- a turn: f i is stored at i
  pub tab_more : (d xs : List A) (z : A) (i : ℕ) → xs ≡ tab f i ++ drop i d → i < length d → set xs i (f i) ≡ tab f (i + 1) ++ drop (i + 1) d
  unfolding tab
  tab_more d xs z i e h =
      ap (λ (l : List A). set l i (f i)) (e ∙ ap (λ (r : List A). tab f i ++ r) (drop-cons d i z h))
      ∙ set_at (tab f i) (get_or d i z) (drop (suc i) d) (f i) i (length_tab i)
      ∙ sym (append_snoc (tab f i) (f i) (drop (suc i) d))
      ∙ ap (λ (n : ℕ). tab f n ++ drop n d) (sym (add-one i))

  pub get_d_tab : (z : A) (n i : ℕ) → i < n → get_or (tab f n) i z ≡ f i
  unfolding tab
  get_d_tab z zero i h = absurd (omega arith)
  get_d_tab z (suc n) i h = go (get_d_tab z n i) (dec_lt i n)
    where
      go : (i < n → get_or (tab f n) i z ≡ f i) → Dec (i < n) → get_or (tab f n ++ (f n ∷ [])) i z ≡ f i
      go rest (yes l) =
          let k : i < length (tab f n) = subst (λ (m : ℕ). i < m) (sym (length_tab n)) l in
          get_or-append (tab f n) (f n ∷ []) z i k ∙ rest l
      go rest (no l) =
          let e : i ≡ n = omega arith in
          get_or_at (tab f n) (f n) [] z i (length_tab n ∙ sym e) ∙ ap f (sym e)

-- the rest of an array that was filled with one value
pub drop_replicate : {A : Type 0} (z : A) (n i : ℕ) → drop i (replicate n z) ≡ replicate (n - i) z
drop_replicate z n zero = let e : n - 0 ≡ n = omega arith in ap (λ (m : ℕ). replicate m z) (sym e)
drop_replicate z zero (suc i) = let e : 0 - suc i ≡ 0 = omega arith in ap (λ (m : ℕ). replicate m z) (sym e)
drop_replicate z (suc n) (suc i) = drop_replicate z n i ∙ (let e : n - i ≡ suc n - suc i = omega arith in ap (λ (m : ℕ). replicate m z) e)
