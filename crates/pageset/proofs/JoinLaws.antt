-- What the walk over two sets makes: their pages together, their common pages, and those of the left set alone. Assumes nothing.
use Rattle.std.proofs.Common.{◌≡◌, ℕ, ◌+◌, ◌-◌, ◌*◌, ◌/◌, ◌%◌, ◌^◌, ◌<◌, ◌≤◌, min, Bool, false, not, ◌&&◌, ◌||◌, ◌⊎◌, List, take, drop, sym, ap, ◌∙◌, ap₂, inl, inr, lt_of_le_of_lt, arith}
use lib.Bits.{bit_and, bit_or, or_zero_l, or_lt, or_add_and, and_le_l, and_le_r, and_zero_l}
use Rattle.pageset.specs.declared.Window.{Window}
use Rattle.pageset.specs.declared.PageSet.{PageSet}
use Rattle.pageset.specs.Sets.{bit, mask_at, holds, shown, member}
use Rattle.pageset.specs.Says.{IsSet}
use Rattle.pageset.proofs.BitLaws.{bit_or_lem, bit_and_lem, bit_not, bit_ext}
use Rattle.pageset.proofs.FormLaws.{Rises, Tidy, Normal, and_left}
use Rattle.pageset.proofs.WindowLaws.{lt_or, mask_lt}
use Rattle.pageset.proofs.WalkLaws.{made, head_of}
use Rattle.pageset.proofs.MergeLaws.{Merging, real, merge_masks, both_ended, left_ended, merge_rises, merge_refused}
use Rattle.pageset.proofs.ResultLaws.{is_set, set_normal}

-- the bits of a 64-bit mask that another has not
abbrev pub and_not : ℕ → ℕ → ℕ
and_not x y = bit_and x ((2 ^ 64 - 1) - y)

pub or_none : bit_or 0 0 ≡ 0
or_none = or_zero_l 0

pub or_fits : (x y : ℕ) → x < 2 ^ 64 → y < 2 ^ 64 → bit_or x y < 2 ^ 64
or_fits x y h k = or_lt 64 x y h k

pub and_none : (y : ℕ) → bit_and 0 y ≡ 0
and_none y = and_zero_l y

pub and_fits : (x y : ℕ) → x < 2 ^ 64 → y < 2 ^ 64 → bit_and x y < 2 ^ 64
and_fits x y h k = lt_of_le_of_lt (and_le_l x y) h

pub not_none : (y : ℕ) → and_not 0 y ≡ 0
not_none y = and_zero_l ((2 ^ 64 - 1) - y)

pub not_fits : (x y : ℕ) → x < 2 ^ 64 → y < 2 ^ 64 → and_not x y < 2 ^ 64
not_fits x y h k = lt_of_le_of_lt (and_le_l x ((2 ^ 64 - 1) - y)) h

pub or_left : (x y : ℕ) → 0 < x → 0 < bit_or x y
or_left x y h = omega (arith, or_add_and x y, and_le_r x y)

or_right : (x y : ℕ) → 0 < y → 0 < bit_or x y
or_right x y h = omega (arith, or_add_and x y, and_le_l x y)

module _ (a b : PageSet) (ta : Normal a) (tb : Normal b) where
  -- while a window is left on one side, the lower of the two next indexes is that of a window
  next_index : (i k : ℕ) (x y : Window) → x ≡ head_of (drop i (shown a)) → y ≡ head_of (drop k (shown b)) → (i < a.len) ⊎ (k < b.len) → min x.index y.index < 67108864
  next_index i k x y ex ey (inl h) = omega (arith, real a ta i h x ex)
  next_index i k x y ex ey (inr h) = omega (arith, real b tb k h y ey)

  one_left : (i k : ℕ) → i + k < a.len + b.len → (i < a.len) ⊎ (k < b.len)
  one_left i k h = go (lt_or i a.len)
    where
      go : (i < a.len) ⊎ (a.len ≤ i) → (i < a.len) ⊎ (k < b.len)
      go (inl l) = inl l
      go (inr l) = inr (omega arith)

  pub next_of_both : (i k : ℕ) (x y : Window) → x ≡ head_of (drop i (shown a)) → y ≡ head_of (drop k (shown b)) → i + k < a.len + b.len → min x.index y.index < 67108864
  next_of_both i k x y ex ey h = next_index i k x y ex ey (one_left i k h)

  pub next_of_left : (i k : ℕ) (x y : Window) → x ≡ head_of (drop i (shown a)) → y ≡ head_of (drop k (shown b)) → i < a.len → min x.index y.index < 67108864
  next_of_left i k x y ex ey h = next_index i k x y ex ey (inl h)

  module _ (i k n : ℕ) (ws : List Window) where
    -- a walk's result whose masks are f of the two sets' masks, and whose pages are g of theirs
    by_masks : (f : ℕ → ℕ → ℕ) (g : ℕ → Bool) → Tidy (made n ws) → Rises 0 (take n ws) → ((q : ℕ) → mask_at (take n ws) q ≡ f (mask_at (shown a) q) (mask_at (shown b) q))
        → ((p : ℕ) → bit (f (mask_at (shown a) (p / 64)) (mask_at (shown b) (p / 64))) (p % 64) ≡ g p) → g 0 ≡ false → IsSet g (made n ws)
    unfolding holds
    by_masks f g t r e h z =
        let m : (p : ℕ) → member (made n ws) p ≡ g p = λ p. ap (λ (x : ℕ). bit x (p % 64)) (e (p / 64)) ∙ h p in
        is_set g (made n ws) (record { tidy = t; rising = r; no_zero = m 0 ∙ z }) m

    module _ (w : Merging bit_or a b i k (made n ws)) where
      pub or_set : a.len + b.len ≤ i + k → IsSet (λ p. member a p || member b p) (made n ws)
      unfolding holds
      or_set h =
          by_masks bit_or (λ p. member a p || member b p) w.tidy (merge_rises bit_or or_none or_fits a b ta tb i k n ws w)
          (merge_masks bit_or or_none or_fits a b ta tb i k n ws w (both_ended bit_or or_none or_fits a b ta tb i k n ws w h)) (λ p. bit_or_lem _ _ (p % 64)) (ap₂ ◌||◌ ta.no_zero tb.no_zero)

      -- a set of these pages has the joined masks
      masks_of : (s : PageSet) → Normal s → ((p : ℕ) → member s p ≡ (member a p || member b p)) → (q : ℕ) → mask_at (shown s) q ≡ bit_or (mask_at (shown a) q) (mask_at (shown b) q)
      unfolding holds
      masks_of s t h q =
          bit_ext 64 _ _ (mask_lt 0 (shown s) q t.rising) (or_lt 64 _ _ (mask_lt 0 (shown a) q ta.rising) (mask_lt 0 (shown b) q tb.rising)) (λ j l.
          let d : (q * 64 + j) / 64 ≡ q = omega arith in
          let m : (q * 64 + j) % 64 ≡ j = omega arith in
          sym (ap₂ (λ (x y : ℕ). bit (mask_at (shown s) x) y) d m) ∙ h (q * 64 + j)
          ∙ ap₂ (λ (x y : ℕ). bit (mask_at (shown a) x) y || bit (mask_at (shown b) x) y) d m ∙ sym (bit_or_lem _ _ j))

      pub or_over : (s : PageSet) → IsSet (λ p. member a p || member b p) s → 32 ≤ n → i + k < a.len + b.len → ⊥
      or_over s h =
          let t : Normal s = set_normal _ s h in
          merge_refused bit_or or_none or_fits a b ta tb i k n ws w s t (masks_of s t h.pages) or_left or_right

    pub and_set : Merging bit_and a b i k (made n ws) → a.len ≤ i → IsSet (λ p. member a p && member b p) (made n ws)
    unfolding holds
    and_set w h =
        by_masks bit_and (λ p. member a p && member b p) w.tidy (merge_rises bit_and (and_none 0) and_fits a b ta tb i k n ws w)
        (merge_masks bit_and (and_none 0) and_fits a b ta tb i k n ws w (left_ended bit_and (and_none 0) and_fits a b ta tb i k n ws w and_none h)) (λ p. bit_and_lem _ _ (p % 64)) (and_left _ _ ta.no_zero)

    pub not_set : Merging and_not a b i k (made n ws) → a.len ≤ i → IsSet (λ p. member a p && not (member b p)) (made n ws)
    unfolding holds
    not_set w h =
        by_masks and_not (λ p. member a p && not (member b p)) w.tidy (merge_rises and_not (not_none 0) not_fits a b ta tb i k n ws w)
        (merge_masks and_not (not_none 0) not_fits a b ta tb i k n ws w (left_ended and_not (not_none 0) not_fits a b ta tb i k n ws w not_none h))
        (λ p. bit_and_lem _ _ (p % 64) ∙ ap (λ (x : Bool). bit (mask_at (shown a) (p / 64)) (p % 64) && x) (bit_not 64 (p % 64) (mask_at (shown b) (p / 64)) (omega arith) (mask_lt 0 (shown b) (p / 64) tb.rising)))
        (and_left _ _ ta.no_zero)
