-- A walk that tests windows one by one: the test of what is left, at a window that passes and at one that does not. Assumes nothing.
use Rattle.std.proofs.Common.{◌≡◌, ℕ, ◌+◌, ◌^◌, ◌<◌, ◌≤◌, Bool, true, false, ◌&&◌, eqb, ltb, List, [], ◌∷◌, length, get_or, drop, refl, ap, ◌∙◌, ap₂, arith, drop_of_length-le, le-ltb, le-leb}
use borrow.Author.Tests.{lt-leb}
use Rattle.pageset.specs.declared.Window.{Window}
use Rattle.pageset.specs.Sets.{rising, window_form, window_forms, zero_window, blank}
use Rattle.pageset.proofs.FormLaws.{and_left, and_right, form_test}
use Rattle.pageset.proofs.WalkLaws.{next_of}
use Rattle.std.specs.List.{list_all}

-- ---- windows in order

-- the test that a loop carries along
abbrev pub in_order : ℕ → List Window → Bool
in_order lo ws = rising lo ws && window_forms ws

module _ (lo : ℕ) (w : Window) (ws : List Window) where
  low : w.index < lo → in_order lo (w ∷ ws) ≡ false
  unfolding rising window_forms
  low h = and_left _ _ (and_left _ _ (lt-leb lo w.index h))

  bad : window_form w ≡ false → in_order lo (w ∷ ws) ≡ false
  unfolding rising window_forms
  bad e = and_right (rising lo (w ∷ ws)) _ (and_left (window_form w) (window_forms ws) e)

  good : lo ≤ w.index → window_form w ≡ true → in_order lo (w ∷ ws) ≡ in_order (w.index + 1) ws
  unfolding rising window_forms
  good h e = ap₂ (λ (a b : Bool). (a && rising (w.index + 1) ws) && (b && window_forms ws)) (le-leb lo w.index h) e

module _ (xs : List Window) (i lo : ℕ) where
  pub order_end : length xs ≤ i → in_order lo (drop i xs) ≡ true
  unfolding rising window_forms
  order_end h = ap (in_order lo) (drop_of_length-le xs {i = i} h)

  module _ (h : i < length xs) where
    abbrev here : Window
    here = get_or xs i zero_window

    next : in_order lo (drop i xs) ≡ in_order lo (here ∷ drop (i + 1) xs)
    next = ap (in_order lo) (next_of xs i h)

    pub order_low : (get_or xs i zero_window).index < lo → in_order lo (drop i xs) ≡ false
    order_low l = next ∙ low lo here (drop (i + 1) xs) l

    pub order_high : 67108864 ≤ (get_or xs i zero_window).index → in_order lo (drop i xs) ≡ false
    order_high l = next ∙ bad lo here (drop (i + 1) xs) (and_right (ltb 0 here.mask && ltb here.mask (2 ^ 64)) _ (le-ltb here.index (2 ^ 26) l))

    pub order_empty : (get_or xs i zero_window).mask ≡ 0 → in_order lo (drop i xs) ≡ false
    order_empty e = next ∙ bad lo here (drop (i + 1) xs) (and_left _ _ (and_left _ _ (le-ltb 0 here.mask (omega arith))))

    pub order_step : lo ≤ (get_or xs i zero_window).index → 0 < (get_or xs i zero_window).mask → (get_or xs i zero_window).mask < 2 ^ 64
        → (get_or xs i zero_window).index < 67108864 → in_order lo (drop i xs) ≡ in_order ((get_or xs i zero_window).index + 1) (drop (i + 1) xs)
    order_step a b c d = next ∙ good lo here (drop (i + 1) xs) a (form_test here b c d)

-- ---- zero windows

pub all_zero : (ws : List Window) → list_all (λ w. eqb w.index 0 && eqb w.mask 0) ws ≡ blank ws
unfolding blank
all_zero [] = refl
all_zero (w ∷ ws) = ap (λ (b : Bool). (eqb w.index 0 && eqb w.mask 0) && b) (all_zero ws)
