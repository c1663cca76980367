-- The laws of page sets: truncating, cutting and listing pages, by the pages that a set holds. A set's windows rise, so a window has one mask
-- (`mask_at`), and each operation acts on it mask by mask; bit by bit this is the operation on pages.
use Rattle.std.proofs.Common.{◌≡◌, ℕ, zero, suc, ◌+◌, ◌-◌, ◌*◌, ◌/◌, ◌%◌, ◌^◌, ◌<◌, ◌≤◌, min, Bool, true, false, not, ◌&&◌, ◌||◌, eqb, ltb, leb, List, [], ◌∷◌, length, sym, refl, ap, ◌∙◌, lt_of_lt_of_le, mod-lt, arith, lit<, pow_pos, pow_mono, ltb-false, ltb-true, le-ltb, lt-ltb, eq-eqb, ne_eqb, eqb-true, le-leb, leb-false, leb-true}
use mathlib.Core.Bool.{and-true, and-false, or-false}
use native.Mathlib.Nat.{div-eq_of_lt, zero-mod}
use lib.Arith.{digits_mod}
use lib.Bits.{bit_and, bit_xor, and_shr, xor_shr, xor_step, differ, and_zero_l, xor_zero_l}
use lib.Pow.{field, mod-mod-pow}
use borrow.Author.Tests.{eqb-false, lt-leb, not-true}
use Rattle.basics.specs.Numbers.{last_page}
use Rattle.pageset.specs.Sets.{bit, mask_at, holds, rising, window_form, window_forms, normal_form}
use Rattle.pageset.proofs.BitLaws.{bit_none, bit_and_lem, and_odd}
use Rattle.rules.specs.Lists.{any, all, those}
use Rattle.rules.specs.Records.{Pages}
use Rattle.rules.specs.Pages.{numbers, pages_in, is_empty, masked, up_to, truncated, common, without, minus}
use Rattle.rules.specs.Forms.{page_form}
use Rattle.rules.proofs.TableLaws.{cases, clash, and_fst, and_snd, and_both, any_append}

-- n numbers in a row are n
pub length_numbers : (a n : ℕ) → length (numbers a n) ≡ n
unfolding numbers
length_numbers a zero = refl
length_numbers a (suc n) = ap suc (length_numbers (suc a) n)

-- ---- bits
-- a mask cut to its low k bits
bit_low : (m k i : ℕ) → i < k → bit (m % 2 ^ k) i ≡ bit m i
unfolding bit
bit_low m k i h =
    let j = k - suc i in
    let e : k ≡ (j + 1) + i = omega arith in
    ap (λ (x : ℕ). eqb (m % 2 ^ x / 2 ^ i % 2) 1) e ∙ ap (λ (x : ℕ). eqb (x % 2) 1) (field m (j + 1) i) ∙ ap (λ (x : ℕ). eqb x 1) (mod-mod-pow (m / 2 ^ i) j 1)

bit_high : (m k i : ℕ) → k ≤ i → bit (m % 2 ^ k) i ≡ false
unfolding bit
bit_high m k i h = ap (λ (x : ℕ). eqb (x % 2) 1) (div-eq_of_lt (lt_of_lt_of_le (mod-lt m (pow_pos k)) (pow_mono h)))

-- the lowest bit of what is left, by the lowest bits
low_without : (x y : ℕ) → x < 2 → y < 2 → (differ x (min x y) < 2) × (eqb (differ x (min x y)) 1 ≡ eqb x 1 && not (eqb y 1))
low_without zero zero p q = (lit< tt, refl)
low_without zero (suc zero) p q = (lit< tt, refl)
low_without zero (suc (suc y)) p q = absurd (omega arith)
low_without (suc zero) zero p q = (lit< tt, refl)
low_without (suc zero) (suc zero) p q = (lit< tt, refl)
low_without (suc zero) (suc (suc y)) p q = absurd (omega arith)
low_without (suc (suc x)) y p q = absurd (omega arith)

without_lowest : (a b : ℕ) → without a b % 2 ≡ differ (a % 2) (min (a % 2) (b % 2))
without_lowest a b =
    ap (λ (x : ℕ). x % 2) (xor_step a (bit_and a b))
    ∙ ap (λ (d : ℕ). (bit_xor (a / 2) (bit_and a b / 2) * 2 + differ (a % 2) d) % 2) (and_odd a b)
    ∙ digits_mod (bit_xor (a / 2) (bit_and a b / 2)) (low_without (a % 2) (b % 2) (omega arith) (omega arith)).0

-- the bits of m that k has not
pub bit_without : (a b i : ℕ) → bit (without a b) i ≡ bit a i && not (bit b i)
unfolding bit
bit_without a b i =
    ap (λ (x : ℕ). eqb (x % 2) 1) (xor_shr a (bit_and a b) i ∙ ap (λ (x : ℕ). bit_xor (a / 2 ^ i) x) (and_shr a b i))
    ∙ ap (λ (x : ℕ). eqb x 1) (without_lowest (a / 2 ^ i) (b / 2 ^ i))
    ∙ (low_without (a / 2 ^ i % 2) (b / 2 ^ i % 2) (omega arith) (omega arith)).1

-- a mask without what lies above page n
pub bit_up_to : (n q m b : ℕ) → b < 64 → bit (up_to n q m) b ≡ bit m b && leb (q * 64 + b) n
bit_up_to n q m b l =
    cases (ltb q (n / 64))
    (λ h. rw (h, le-leb (q * 64 + b) n (omega (arith, ltb-true q (n / 64) h))) (sym (and-true (bit m b))))
    (λ h. let k = ltb-false q (n / 64) h in
    cases (eqb q (n / 64))
    (λ e. let j = eqb-true q (n / 64) e in
    cases (leb (q * 64 + b) n)
    (λ u. let v = leb-true (q * 64 + b) n u in rw (h, e, u, bit_low m (suc (n % 64)) b (omega arith)) (sym (and-true (bit m b))))
    (λ u. let v = leb-false (q * 64 + b) n u in rw (h, e, u, bit_high m (suc (n % 64)) b (omega arith)) (sym (and-false (bit m b)))))
    (λ e. let j = eqb-false q (n / 64) e in rw (h, e, lt-leb (q * 64 + b) n (omega (arith, j)), bit_none b) (sym (and-false (bit m b)))))

-- ---- windows that rise
pub rising_weaken : (a b : ℕ) (s : Pages) → a ≤ b → rising b s ≡ true → rising a s ≡ true
unfolding rising
rising_weaken a b [] h e = refl
rising_weaken a b (w ∷ s) h e =
    let l = leb-true b w.index (and_fst (leb b w.index) (rising (w.index + 1) s) e) in
    and_both (le-leb a w.index (omega arith)) (and_snd (leb b w.index) (rising (w.index + 1) s) e)

-- no window is below the bound
pub mask_below : (lo q : ℕ) (s : Pages) → q < lo → rising lo s ≡ true → mask_at s q ≡ 0
unfolding rising mask_at
mask_below lo q [] h e = refl
mask_below lo q (w ∷ s) h e =
    let l = leb-true lo w.index (and_fst (leb lo w.index) (rising (w.index + 1) s) e) in
    rw (ne_eqb w.index q (omega arith)) (mask_below (w.index + 1) q s (omega arith) (and_snd (leb lo w.index) (rising (w.index + 1) s) e))

pub rising_masked : (f : ℕ → ℕ → ℕ) (lo : ℕ) (s : Pages) → rising lo s ≡ true → rising lo (masked f s) ≡ true
unfolding rising masked
rising_masked f lo [] e = refl
rising_masked f lo (w ∷ s) e =
    let a = and_fst (leb lo w.index) (rising (w.index + 1) s) e in
    let r = rising_masked f (w.index + 1) s (and_snd (leb lo w.index) (rising (w.index + 1) s) e) in
    cases (ltb 0 (f w.index w.mask)) (λ q. rw q (and_both a r)) (λ q. rw q (rising_weaken lo (w.index + 1) (masked f s) (omega (arith, leb-true lo w.index a)) r))

-- an operation mask by mask
mask_masked : (f : ℕ → ℕ → ℕ) (lo q : ℕ) (s : Pages) → f q 0 ≡ 0 → rising lo s ≡ true → mask_at (masked f s) q ≡ f q (mask_at s q)
unfolding rising masked mask_at
mask_masked f lo q [] z e = sym z
mask_masked f lo q (w ∷ s) z e =
    let up = and_snd (leb lo w.index) (rising (w.index + 1) s) e in
    let rest = mask_masked f (w.index + 1) q s z up in
    cases (eqb w.index q)
    (λ h. let i = eqb-true w.index q h in
    cases (ltb 0 (f w.index w.mask)) (λ p. rw (p, h) (ap (λ (k : ℕ). f k w.mask) i))
    (λ p. rw (p, h) (mask_below (w.index + 1) q (masked f s) (omega arith) (rising_masked f (w.index + 1) s up) ∙ zero_is (f w.index w.mask) p ∙ ap (λ (k : ℕ). f k w.mask) i)))
    (λ h. cases (ltb 0 (f w.index w.mask)) (λ p. rw (p, h) rest) (λ p. rw (p, h) rest))
  where
    zero_is : (n : ℕ) → ltb 0 n ≡ false → 0 ≡ n
    zero_is n p = omega (arith, ltb-false 0 n p)

module _ (lo : ℕ) (s : Pages) (up : rising lo s ≡ true) where
  pub holds_truncated : (n p : ℕ) → holds (truncated s n) p ≡ holds s p && leb p n
  unfolding holds truncated
  holds_truncated n p =
      let z : p / 64 * 64 + p % 64 ≡ p = omega arith in
      rw (mask_masked (up_to n) lo (p / 64) s (top n (p / 64)) up) (bit_up_to n (p / 64) (mask_at s (p / 64)) (p % 64) (omega arith) ∙ ap (λ (x : ℕ). bit (mask_at s (p / 64)) (p % 64) && leb x n) z)
    where
      top : (n q : ℕ) → up_to n q 0 ≡ 0
      top n q = cases (ltb q (n / 64)) (λ h. rw h) (λ h. cases (eqb q (n / 64)) (λ e. rw (h, e) (zero-mod (2 ^ suc (n % 64)))) (λ e. rw (h, e)))

  pub holds_minus : (u : Pages) (p : ℕ) → holds (minus s u) p ≡ holds s p && not (holds u p)
  unfolding holds minus
  holds_minus u p =
      rw (mask_masked (λ q m. without m (mask_at u q)) lo (p / 64) s (rw (and_zero_l (mask_at u (p / 64))) (xor_zero_l 0)) up)
      (bit_without (mask_at s (p / 64)) (mask_at u (p / 64)) (p % 64))

  pub holds_common : (u : Pages) (p : ℕ) → holds (common s u) p ≡ holds s p && holds u p
  unfolding holds common
  holds_common u p =
      rw (mask_masked (λ q m. bit_and m (mask_at u q)) lo (p / 64) s (and_zero_l (mask_at u (p / 64))) up)
      (bit_and_lem (mask_at s (p / 64)) (mask_at u (p / 64)) (p % 64))

pub holds_empty : (p : ℕ) → holds [] p ≡ false
unfolding holds mask_at
holds_empty p = bit_none (p % 64)

pub empty_holds : (s : Pages) (p : ℕ) → is_empty s ≡ true → holds s p ≡ false
empty_holds [] p e = holds_empty p
empty_holds (w ∷ s) p e = absurd (clash e refl)

-- ---- the pages, one by one
among : (f : ℕ → Bool) (p a n : ℕ) → any (λ q. eqb p q) (those f (numbers a n)) ≡ f p && (leb a p && ltb p (a + n))
unfolding any those numbers
among f p a zero = cases (leb a p) (λ l. rw (l, le-ltb p (a + 0) (omega (arith, leb-true a p l))) (sym (and-false (f p)))) (λ l. rw l (sym (and-false (f p))))
among f p a (suc n) =
    cases (eqb p a)
    (λ e. let i = eqb-true p a e in
    let here : leb a p && ltb p (a + suc n) ≡ true = and_both (le-leb a p (omega arith)) (lt-ltb p (a + suc n) (omega arith)) in
    let past : leb (suc a) p && ltb p (suc a + n) ≡ false = rw (lt-leb (suc a) p (omega arith)) in
    cases (f a) (λ q. let fp : f p ≡ true = rw i q in rw (q, e, fp, here)) (λ q. let fp : f p ≡ false = rw i q in rw q (among f p (suc a) n ∙ rw (fp))))
    (λ e. let i = eqb-false p a e in
    let rest = among f p (suc a) n ∙ ap (λ (b : Bool). f p && b) (shift i) in
    cases (f a) (λ q. rw (q, e) rest) (λ q. rw q rest))
  where
    shift : (p ≡ a → ⊥) → leb (suc a) p && ltb p (suc a + n) ≡ leb a p && ltb p (a + suc n)
    shift i =
        let s : suc a + n ≡ a + suc n = omega arith in
        cases (leb a p) (λ l. let h = leb-true a p l in rw (l, le-leb (suc a) p (omega (arith, i)), s)) (λ l. let h = leb-false a p l in rw (l, lt-leb (suc a) p (omega arith)))

pub pages_holds : (lo : ℕ) (s : Pages) (p : ℕ) → rising lo s ≡ true → any (λ q. eqb p q) (pages_in s) ≡ holds s p
unfolding pages_in holds any rising mask_at
pages_holds lo [] p e = sym (bit_none (p % 64))
pages_holds lo (w ∷ s) p e =
    let up = and_snd (leb lo w.index) (rising (w.index + 1) s) e in
    any_append (λ q. eqb p q) (those (λ q. bit w.mask (q % 64)) (numbers (w.index * 64) 64)) (pages_in s)
    ∙ rw (among (λ q. bit w.mask (q % 64)) p (w.index * 64) 64, pages_holds (w.index + 1) s p up)
    (cases (eqb w.index (p / 64))
    (λ h. let i = eqb-true w.index (p / 64) h in
    rw (h, and_both (le-leb (w.index * 64) p (omega arith)) (lt-ltb p (w.index * 64 + 64) (omega arith)), mask_below (w.index + 1) (p / 64) s (omega arith) up, bit_none (p % 64), and-true)
    (or-false (bit w.mask (p % 64))))
    (λ h. let i = eqb-false w.index (p / 64) h in
    rw (h, outside w.index p i, and-false)))
  where
    outside : (k p : ℕ) → (k ≡ p / 64 → ⊥) → leb (k * 64) p && ltb p (k * 64 + 64) ≡ false
    outside k p i =
        cases (leb (k * 64) p) (λ l. let h = leb-true (k * 64) p l in rw (l, le-ltb p (k * 64 + 64) (omega (arith, i)))) (λ l. rw l)

-- ---- forms
pub form_rising : (s : Pages) → normal_form s ≡ true → rising 0 s ≡ true
unfolding normal_form
form_rising s e = search (and_fst, and_snd)

-- every window ends by the last page
mask_above : (q : ℕ) (s : Pages) → 2 ^ 26 ≤ q → window_forms s ≡ true → mask_at s q ≡ 0
unfolding window_forms mask_at
mask_above q [] h e = refl
mask_above q (w ∷ s) h e =
    let i : ltb w.index (2 ^ 26) ≡ true = search (and_fst, and_snd) in
    let j = ltb-true w.index (2 ^ 26) i in
    rw (ne_eqb w.index q (omega arith)) (mask_above q s h (and_snd (window_form w) (window_forms s) e))

all_any : (f : ℕ → Bool) (l : List ℕ) → ((p : ℕ) → any (λ q. eqb p q) l ≡ true → f p ≡ true) → all f l ≡ true
unfolding all any
all_any f [] h = refl
all_any f (x ∷ l) h = and_both (h x (rw (eq-eqb x x refl))) (all_any f l (λ p m. h p (or_right (eqb p x) m)))
  where
    or_right : (a : Bool) {b : Bool} → b ≡ true → a || b ≡ true
    or_right true e = refl
    or_right false e = e

no_mask : (s : Pages) (p : ℕ) → mask_at s (p / 64) ≡ 0 → holds s p ≡ false
unfolding holds
no_mask s p k = rw (k, bit_none (p % 64))

-- the pages of a set in normal form are page numbers
pub pages_form : (s : Pages) → normal_form s ≡ true → all page_form (pages_in s) ≡ true
unfolding normal_form page_form last_page
pages_form s e =
    let ws : window_forms s ≡ true = search (and_fst, and_snd) in
    let z : not (holds s 0) ≡ true = search (and_fst, and_snd) in
    all_any page_form (pages_in s) (λ p m.
    let h : holds s p ≡ true = sym (pages_holds 0 s p (form_rising s e)) ∙ m in
    and_both (cases (ltb 0 p) (λ q. q) (λ q. let i : p ≡ 0 = omega (arith, ltb-false 0 p q) in absurd (clash (rw i at h) (not-true (holds s 0) z))))
    (cases (leb p (2 ^ 32 - 1)) (λ q. q) (λ q. let i = leb-false p (2 ^ 32 - 1) q in absurd (clash h (no_mask s p (mask_above (p / 64) s (omega arith) ws))))))

pub empty_form : normal_form [] ≡ true
unfolding normal_form rising window_forms holds mask_at bit
empty_form = refl
