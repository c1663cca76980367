-- The turns of the loops over masks. What is done of the masks, with what the rest of the windows will make of the rest of them, is what all windows make of all masks; each turn keeps that. Two sets
-- are walked together, the lower index first: a window whose index the other set has passed loses nothing more.
use Prim.Native.Nat.{ℕ, zero, suc, ◌+◌, ◌*◌, ◌-◌, ◌/◌, ◌%◌, ◌^◌, ◌≤◌, ◌<◌}
use mathlib.Core.Path.{◌≡◌, refl, sym, ap, ap₂, ◌∙◌}
use mathlib.Core.List.{List, [], ◌∷◌, ◌++◌, append_assoc}
use mathlib.Core.Bool.{Bool, true, false, ◌&&◌}
use native.Mathlib.Omega.{arith}
use native.Mathlib.Numerals.{add-one}
use borrow.Author.Tests.{leb-true, le-leb, lt-ltb, le-ltb, eq-eqb, ne_eqb}
use lib.Bits.{bit_and, bit_or, bit_xor, and_lt, xor_lt, and_mask, and_zero_r, xor_zero_r}
use lib.Dec.{eqb, leb}
use Rattle.std.specs.List.{list_all}
use lib.ListN.{length, get_or, take, drop, set, take-append-drop, drop_of_length-le}
use lib.Pow.{ones_sub-lt, ones_split, ones_lt, high}
use lib.Seq.{take-suc, take-suc-set, drop-cons, drop-set-lt}
use Rattle.octets.specs.Bytes.{be, part}
use Rattle.pageset.specs.declared.Window.{Window}
use Rattle.pageset.specs.Sets.{bit, mask_at, rising, zero_window}
use Rattle.pageset.proofs.BitLaws.{bit_and_lem, bit_not, bit_ext}
use Rattle.pageset.proofs.WindowLaws.{mask_same, mask_other}
use Rattle.rules.specs.Records.{Pages}
use Rattle.rules.specs.Pages.{up_to, without}
use Rattle.rules.proofs.TableLaws.{and_fst, and_snd, and_both}
use Rattle.rules.proofs.PageLaws.{mask_below, rising_weaken, bit_without}
use Rattle.setbytes.specs.Laid.{windows_at}
use Rattle.setbytes.proofs.SetLaws.{length_windows, window_nth}
use Rattle.setbytes.proofs.WindowLaws.{window_at}
use Rattle.masks.specs.Masks.{less_masks, more_masks, no_masks}

-- ---- bits

-- `m & !k`
pub and_not_lem : (m k : ℕ) → m < 2 ^ 64 → k < 2 ^ 64 → bit_and m ((2 ^ 64 - 1) - k) ≡ without m k
and_not_lem m k h l =
    bit_ext 64 (bit_and m ((2 ^ 64 - 1) - k)) (without m k) (and_lt 64 m ((2 ^ 64 - 1) - k) h (ones_sub-lt 64 k)) (xor_lt 64 m (bit_and m k) h (and_lt 64 m k h l)) (λ b j.
    bit_and_lem m ((2 ^ 64 - 1) - k) b ∙ ap (λ (x : Bool). bit m b && x) (bit_not 64 b k j l) ∙ sym (bit_without m k b))

pub without_none : (m : ℕ) → without m 0 ≡ m
without_none m = ap (bit_xor m) (and_zero_r m) ∙ xor_zero_r m

-- ---- a mask cut at a count

module _ (n q m : ℕ) where
  pub kept_whole : q < n / 64 → m ≡ up_to n q m
  kept_whole h = rw (lt-ltb q (n / 64) h)

  pub kept_none : n / 64 < q → 0 ≡ up_to n q m
  kept_none h = rw (le-ltb q (n / 64) (omega arith), ne_eqb q (n / 64) (λ e. omega arith))

  pub kept_low : q ≡ n / 64 → bit_and m ((2 ^ 64 - 1) / 2 ^ (63 - n % 64)) ≡ up_to n q m
  kept_low h =
      let k = 63 - n % 64 in
      let e : 64 ≡ suc (n % 64) + k = omega arith in
      let ones : (2 ^ 64 - 1) / 2 ^ k ≡ 2 ^ suc (n % 64) - 1 =
      ap (λ (j : ℕ). (2 ^ j - 1) / 2 ^ k) e ∙ ap (λ (x : ℕ). x / 2 ^ k) (ones_split (suc (n % 64)) k) ∙ high (2 ^ suc (n % 64) - 1) k (ones_lt k) in
      rw (le-ltb q (n / 64) (omega arith), eq-eqb q (n / 64) h, ones) (and_mask m (suc (n % 64)))

-- ---- masks less the pages of a set

-- no page
less_none : (ws : Pages) (ms : List ℕ) → less_masks ws [] ms ≡ ms
unfolding less_masks mask_at
less_none [] ms = refl
less_none (w ∷ ws) [] = refl
less_none (w ∷ ws) (m ∷ ms) = ap₂ ◌∷◌ (without_none m) (less_none ws ms)

-- a window below all of these
less_below : (lo : ℕ) (ws u : Pages) (v : Window) (ms : List ℕ) → v.index < lo → rising lo ws ≡ true → less_masks ws (v ∷ u) ms ≡ less_masks ws u ms
unfolding less_masks rising
less_below lo [] u v ms h r = refl
less_below lo (w ∷ ws) u v [] h r = refl
less_below lo (w ∷ ws) u v (m ∷ ms) h r =
    let l = leb-true lo w.index (and_fst (leb lo w.index) (rising (w.index + 1) ws) r) in
    ap₂ {C = List ℕ} (λ x y. without m x ∷ y) (mask_other v u w.index (λ e. omega arith)) (less_below (w.index + 1) ws u v ms (omega arith) (and_snd (leb lo w.index) (rising (w.index + 1) ws) r))

-- two first windows
module _ (w v : Window) (ws u : Pages) (ms : List ℕ) (rest : rising (w.index + 1) ws ≡ true) (rest_v : rising (v.index + 1) u ≡ true) where
  from : rising w.index (w ∷ ws) ≡ true
  unfolding rising
  from = and_both (le-leb w.index w.index (omega arith)) rest

  from_v : rising v.index (v ∷ u) ≡ true
  unfolding rising
  from_v = and_both (le-leb v.index v.index (omega arith)) rest_v

  first_lower : (m : ℕ) → w.index < v.index → less_masks (w ∷ ws) (v ∷ u) (m ∷ ms) ≡ m ∷ less_masks ws (v ∷ u) ms
  unfolding less_masks
  first_lower m h = ap {B = List ℕ} (λ (x : ℕ). without m x ∷ less_masks ws (v ∷ u) ms) (mask_below v.index w.index (v ∷ u) h from_v) ∙ ap {B = List ℕ} (λ (x : ℕ). x ∷ less_masks ws (v ∷ u) ms) (without_none m)

  first_same : (m k : ℕ) → w.index ≡ v.index → k ≡ without m v.mask → less_masks (w ∷ ws) (v ∷ u) (m ∷ ms) ≡ k ∷ less_masks ws u ms
  unfolding less_masks
  first_same m k h e = ap₂ {C = List ℕ} (λ x y. x ∷ y) (ap (without m) (mask_same v u w.index (sym h)) ∙ sym e) (less_below (w.index + 1) ws u v ms (omega arith) rest)

  first_higher : v.index < w.index → less_masks (w ∷ ws) u ms ≡ less_masks (w ∷ ws) (v ∷ u) ms
  first_higher h = sym (less_below w.index (w ∷ ws) u v ms h from)

-- ---- the windows in bytes

-- the windows from i on rise
drop_rises : (i lo : ℕ) (ws : Pages) → rising lo ws ≡ true → rising 0 (drop i ws) ≡ true
unfolding rising
drop_rises zero lo ws e = rising_weaken 0 lo ws (omega arith) e
drop_rises (suc i) lo [] e = refl
drop_rises (suc i) lo (w ∷ ws) e = drop_rises i (w.index + 1) ws (and_snd (leb lo w.index) (rising (w.index + 1) ws) e)

rest_rises : (w : Window) (ws : Pages) → rising 0 (w ∷ ws) ≡ true → rising (w.index + 1) ws ≡ true
unfolding rising
rest_rises w ws e = and_snd (leb 0 w.index) (rising (w.index + 1) ws) e

module _ (n at : ℕ) (s : List ℕ) (i : ℕ) where
  -- none is left
  pub done_all : n ≤ i → drop i (windows_at n at s) ≡ []
  done_all h = drop_of_length-le (windows_at n at s) {i = i} (omega (arith, length_windows n at s))

  -- window i, and those after it
  abbrev pub window : Window
  window = record { index = be (part (at + i * 12) 4 s); mask = be (part (at + i * 12 + 4) 8 s) }

  pub one_on : i < n → drop i (windows_at n at s) ≡ window ∷ drop (i + 1) (windows_at n at s)
  one_on h =
      let l : i < length (windows_at n at s) = omega (arith, length_windows n at s) in
      rw (add-one, drop-cons (windows_at n at s) i zero_window l) (ap (λ (w : Window). w ∷ drop (suc i) (windows_at n at s)) (window_nth n at s i h ∙ window_at (at + i * 12) s))

  rises_on : rising 0 (windows_at n at s) ≡ true → i < n → rising (window.index + 1) (drop (i + 1) (windows_at n at s)) ≡ true
  rises_on up h = rest_rises window (drop (i + 1) (windows_at n at s)) (ap (rising 0) (sym (one_on h)) ∙ drop_rises i 0 (windows_at n at s) up)

-- ---- the masks

module _ (ms : List ℕ) (i : ℕ) (h : i < length ms) where
  pub mask_on : drop i ms ≡ get_or ms i 0 ∷ drop (i + 1) ms
  mask_on = rw (add-one, drop-cons ms i 0 h)

  mask_passed : (r : List ℕ) → take (i + 1) ms ++ r ≡ take i ms ++ (get_or ms i 0 ∷ r)
  mask_passed r = rw (add-one, take-suc ms i 0 h) (append_assoc (take i ms) (get_or ms i 0 ∷ []) r)

  mask_set : (k : ℕ) (r : List ℕ) → take (i + 1) (set ms i k) ++ r ≡ take i ms ++ (k ∷ r)
  mask_set k r = rw (add-one, take-suc-set ms i k h) (append_assoc (take i ms) (k ∷ []) r)

-- ---- the turns of `less`

-- the masks, when the windows from i on have lost the pages of the others from j on
abbrev pub less_from : Pages → Pages → ℕ → ℕ → List ℕ → List ℕ
less_from ws u i j ms = take i ms ++ less_masks (drop i ws) (drop j u) (drop i ms)

module _ (n at m other : ℕ) (s : List ℕ) (i j : ℕ) (ms : List ℕ) where
  abbrev all : Pages
  all = windows_at n at s

  abbrev others : Pages
  others = windows_at m other s

  -- all windows are done
  pub less_done : n ≤ i → less_from all others i j ms ≡ ms
  unfolding less_masks
  less_done h = rw (done_all n at s i h) (take-append-drop i ms)

  -- no page of the others is left
  pub less_over : m ≤ j → less_from all others i j ms ≡ ms
  less_over h = rw (done_all m other s j h, less_none) (take-append-drop i ms)

  module _ (up : rising 0 all ≡ true) (others_up : rising 0 others ≡ true) (hi : i < n) (hj : j < m) (long : i < length ms) where
    abbrev w : Window
    w = window n at s i

    abbrev v : Window
    v = window m other s j

    abbrev ws : Pages
    ws = drop (i + 1) all

    abbrev u : Pages
    u = drop (j + 1) others

    rises : rising (w.index + 1) ws ≡ true
    rises = rises_on n at s i up hi

    others_rise : rising (v.index + 1) u ≡ true
    others_rise = rises_on m other s j others_up hj

    heads : less_from all others i j ms ≡ take i ms ++ less_masks (w ∷ ws) (v ∷ u) (get_or ms i 0 ∷ drop (i + 1) ms)
    heads = rw (one_on n at s i hi, one_on m other s j hj, mask_on ms i long)

    -- a window below the others that are left
    pub less_lower : w.index < v.index → less_from all others (i + 1) j ms ≡ less_from all others i j ms
    less_lower h =
        mask_passed ms i long (less_masks ws (drop j others) (drop (i + 1) ms))
        ∙ ap (λ (x : Pages). take i ms ++ (get_or ms i 0 ∷ less_masks ws x (drop (i + 1) ms))) (one_on m other s j hj)
        ∙ ap (λ (l : List ℕ). take i ms ++ l) (sym (first_lower w v ws u (drop (i + 1) ms) rises others_rise (get_or ms i 0) h))
        ∙ sym heads

    -- two windows of one index
    pub less_same : (k : ℕ) → w.index ≡ v.index → k ≡ without (get_or ms i 0) v.mask → less_from all others (i + 1) (j + 1) (set ms i k) ≡ less_from all others i j ms
    less_same k h e =
        mask_set ms i long k (less_masks ws u (drop (i + 1) (set ms i k)))
        ∙ ap (λ (l : List ℕ). take i ms ++ (k ∷ less_masks ws u l)) (drop-set-lt (i + 1) ms i k (omega arith))
        ∙ ap (λ (l : List ℕ). take i ms ++ l) (sym (first_same w v ws u (drop (i + 1) ms) rises others_rise (get_or ms i 0) k h e))
        ∙ sym heads

    -- a window of the others below those that are left
    pub less_higher : v.index < w.index → less_from all others i (j + 1) ms ≡ less_from all others i j ms
    less_higher h =
        ap₂ (λ (x : Pages) (l : List ℕ). take i ms ++ less_masks x u l) (one_on n at s i hi) (mask_on ms i long)
        ∙ ap (λ (l : List ℕ). take i ms ++ l) (first_higher w v ws u (get_or ms i 0 ∷ drop (i + 1) ms) rises others_rise h)
        ∙ sym heads

-- ---- the turns of `none_left` and `more`

less_one : (n i : ℕ) → i < n → n - i ≡ suc (n - (i + 1))
less_one n i h = omega arith

pub all_none : (n : ℕ) (ms : List ℕ) → list_all (λ m. eqb m 0) (take n ms) ≡ no_masks n ms
unfolding no_masks
all_none zero ms = refl
all_none (suc n) [] = refl
all_none (suc n) (m ∷ ms) = ap (λ (b : Bool). eqb m 0 && b) (all_none n ms)

-- the masks, when the first n from i on have the pages of the others
abbrev pub more_from : ℕ → List ℕ → ℕ → List ℕ → List ℕ
more_from n ks i ms = take i ms ++ more_masks (n - i) (drop i ms) (drop i ks)

module _ (n : ℕ) (ks : List ℕ) (i : ℕ) (ms : List ℕ) where
  pub more_done : n ≤ i → more_from n ks i ms ≡ ms
  unfolding more_masks
  more_done h = let e : n - i ≡ 0 = omega arith in rw e (take-append-drop i ms)

  pub more_turn : i < n → i < length ms → i < length ks → more_from n ks (i + 1) (set ms i (bit_or (get_or ms i 0) (get_or ks i 0))) ≡ more_from n ks i ms
  unfolding more_masks
  more_turn h l k =
      mask_set ms i l (bit_or (get_or ms i 0) (get_or ks i 0)) (more_masks (n - (i + 1)) (drop (i + 1) (set ms i (bit_or (get_or ms i 0) (get_or ks i 0)))) (drop (i + 1) ks))
      ∙ ap (λ (x : List ℕ). take i ms ++ (bit_or (get_or ms i 0) (get_or ks i 0) ∷ more_masks (n - (i + 1)) x (drop (i + 1) ks))) (drop-set-lt (i + 1) ms i (bit_or (get_or ms i 0) (get_or ks i 0)) (omega arith))
      ∙ rw (less_one n i h, mask_on ms i l, mask_on ks i k)
