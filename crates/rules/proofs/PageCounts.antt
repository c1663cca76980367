-- The pages of a set in normal form, as the page set crate speaks of them: their number is the count of the pages that it holds, the first is the lowest,
-- and truncating, cutting and spanning give sets in normal form. The listed pages are those that it holds, in rising order: before a window none, in it
-- those of its bits, after it those of the later windows.
use Rattle.std.proofs.Common.{◌≡◌, ℕ, zero, suc, ◌+◌, ◌-◌, ◌*◌, ◌/◌, ◌%◌, ◌^◌, ◌<◌, ◌≤◌, Bool, true, false, not, ◌&&◌, eqb, ltb, leb, List, [], ◌∷◌, ◌++◌, length, sym, refl, ap, ◌∙◌, lt_of_le_of_lt, zero-add, arith, length-append, ltb-true, lt-ltb, eq-eqb, ne_eqb, le-leb, leb-false, leb-true}
use mathlib.Core.Bool.{and-true, and-false}
use native.Mathlib.Nat.{mod-le}
use lib.Bits.{bit_and, and_le_l, xor_lt}
use borrow.Author.Tests.{lt-leb, not-true}
use Rattle.pageset.specs.declared.Window.{Window}
use Rattle.pageset.specs.Sets.{bit, mask_at, holds, rising, window_form, window_forms, normal_form}
use Rattle.pageset.specs.Counts.{count, lowest, or_else}
use Rattle.pageset.proofs.BitLaws.{bit_none}
use Rattle.rules.specs.Lists.{those}
use Rattle.rules.specs.Records.{Pages}
use Rattle.rules.specs.Pages.{numbers, pages_in, size, head, first_page, masked, up_to, truncated, common, without, minus, span}
use Rattle.rules.proofs.TableLaws.{cases, and_fst, and_snd, and_both, those_append}
use Rattle.rules.proofs.PageLaws.{rising_masked, mask_below, form_rising, holds_empty, holds_truncated, holds_minus, holds_common}

-- ---- runs of numbers

pub numbers_append : (a m n : ℕ) → numbers a (m + n) ≡ numbers a m ++ numbers (a + m) n
unfolding numbers
numbers_append a zero n = let e : 0 + n ≡ n = omega arith in let f : a + 0 ≡ a = omega arith in rw (e, f)
numbers_append a (suc m) n =
    let e : suc m + n ≡ suc (m + n) = omega arith in
    let f : suc a + m ≡ a + suc m = omega arith in
    rw (e, ← f) (ap {B = List ℕ} (λ l. a ∷ l) (numbers_append (suc a) m n))

pub those_same : (f g : ℕ → Bool) (a n : ℕ) → ((p : ℕ) → a ≤ p → p < a + n → f p ≡ g p) → those f (numbers a n) ≡ those g (numbers a n)
unfolding those numbers
those_same f g a zero h = refl
those_same f g a (suc n) h =
    let e = h a (omega arith) (omega arith) in
    let r = those_same f g (suc a) n (λ p u v. h p (omega arith) (omega arith)) in
    cases (g a) (λ q. rw (e, q, r)) (λ q. rw (e, q, r))

pub those_none : (f : ℕ → Bool) (a n : ℕ) → ((p : ℕ) → a ≤ p → p < a + n → f p ≡ false) → those f (numbers a n) ≡ []
unfolding those numbers
those_none f a zero h = refl
those_none f a (suc n) h = rw (h a (omega arith) (omega arith)) (those_none f (suc a) n (λ p u v. h p (omega arith) (omega arith)))

-- ---- the pages of a set, as those that it holds

-- what a first window says of the pages before, in and after it
before_window : (w : Window) (s : Pages) (p : ℕ) → rising (w.index + 1) s ≡ true → p / 64 < w.index → holds (w ∷ s) p ≡ false
unfolding holds mask_at
before_window w s p up h = rw (ne_eqb w.index (p / 64) (omega arith), mask_below (w.index + 1) (p / 64) s (omega arith) up, bit_none (p % 64))

in_window : (w : Window) (s : Pages) (p : ℕ) → p / 64 ≡ w.index → holds (w ∷ s) p ≡ bit w.mask (p % 64)
unfolding holds mask_at
in_window w s p h = rw (eq-eqb w.index (p / 64) (sym h))

after_window : (w : Window) (s : Pages) (p : ℕ) → w.index < p / 64 → holds (w ∷ s) p ≡ holds s p
unfolding holds mask_at
after_window w s p h = rw (ne_eqb w.index (p / 64) (omega arith))

window_index : (w : Window) (s : Pages) → window_forms (w ∷ s) ≡ true → (w.index < 2 ^ 26) × (window_forms s ≡ true)
unfolding window_forms
window_index w s e = let i : ltb w.index (2 ^ 26) ≡ true = search (and_fst, and_snd) in (ltb-true w.index (2 ^ 26) i, and_snd (window_form w) (window_forms s) e)

listed_from : (lo : ℕ) (s : Pages) → lo ≤ 2 ^ 26 → rising lo s ≡ true → window_forms s ≡ true → pages_in s ≡ those (holds s) (numbers (lo * 64) ((2 ^ 26 - lo) * 64))
unfolding pages_in rising
listed_from lo [] b up f = sym (those_none (holds []) (lo * 64) ((2 ^ 26 - lo) * 64) (λ p u v. nothing p))
  where
    nothing : (p : ℕ) → holds [] p ≡ false
    nothing p = holds_empty p
listed_from lo (w ∷ s) b up f =
    let i = w.index in
    let k = window_index w s f in
    let l = leb-true lo i (and_fst (leb lo i) (rising (i + 1) s) up) in
    let rest = and_snd (leb lo i) (rising (i + 1) s) up in
    let a : numbers (lo * 64) ((2 ^ 26 - lo) * 64) ≡ numbers (lo * 64) ((i - lo) * 64) ++ numbers (i * 64) (64 + (2 ^ 26 - (i + 1)) * 64) =
    ap (numbers (lo * 64)) (omega arith) ∙ numbers_append (lo * 64) ((i - lo) * 64) (64 + (2 ^ 26 - (i + 1)) * 64) ∙ ap (λ (n : ℕ). numbers (lo * 64) ((i - lo) * 64) ++ numbers n (64 + (2 ^ 26 - (i + 1)) * 64)) (omega arith) in
    let c : numbers (i * 64) (64 + (2 ^ 26 - (i + 1)) * 64) ≡ numbers (i * 64) 64 ++ numbers ((i + 1) * 64) ((2 ^ 26 - (i + 1)) * 64) =
    numbers_append (i * 64) 64 ((2 ^ 26 - (i + 1)) * 64) ∙ ap (λ (n : ℕ). numbers (i * 64) 64 ++ numbers n ((2 ^ 26 - (i + 1)) * 64)) (omega arith) in
    sym
    (ap (those (holds (w ∷ s))) (a ∙ ap {B = List ℕ} (λ m. numbers (lo * 64) ((i - lo) * 64) ++ m) c)
    ∙ those_append (holds (w ∷ s)) (numbers (lo * 64) ((i - lo) * 64)) (numbers (i * 64) 64 ++ numbers ((i + 1) * 64) ((2 ^ 26 - (i + 1)) * 64))
    ∙ ap {B = List ℕ} (λ m. m ++ those (holds (w ∷ s)) (numbers (i * 64) 64 ++ numbers ((i + 1) * 64) ((2 ^ 26 - (i + 1)) * 64)))
    (those_none (holds (w ∷ s)) (lo * 64) ((i - lo) * 64) (λ p u v. before_window w s p rest (omega arith)))
    ∙ those_append (holds (w ∷ s)) (numbers (i * 64) 64) (numbers ((i + 1) * 64) ((2 ^ 26 - (i + 1)) * 64))
    ∙ ap {B = List ℕ} (λ m. m ++ those (holds (w ∷ s)) (numbers ((i + 1) * 64) ((2 ^ 26 - (i + 1)) * 64)))
    (those_same (holds (w ∷ s)) (λ p. bit w.mask (p % 64)) (i * 64) 64 (λ p u v. in_window w s p (omega arith)))
    ∙ ap {B = List ℕ} (λ m. those (λ p. bit w.mask (p % 64)) (numbers (i * 64) 64) ++ m)
    (those_same (holds (w ∷ s)) (holds s) ((i + 1) * 64) ((2 ^ 26 - (i + 1)) * 64) (λ p u v. after_window w s p (omega arith)) ∙ sym (listed_from (i + 1) s (omega (arith, k.0)) rest k.1)))

-- the pages of a set are those that it holds, rising
pub pages_listed : (s : Pages) → normal_form s ≡ true → pages_in s ≡ those (holds s) (numbers 0 (2 ^ 32))
unfolding normal_form
pages_listed s e = listed_from 0 s (omega arith) (search (and_fst, and_snd)) (search (and_fst, and_snd))

-- ---- their number and the first

snoc : (a n : ℕ) → numbers a (suc n) ≡ numbers a n ++ ((a + n) ∷ [])
unfolding numbers
snoc a zero = let e : a + 0 ≡ a = omega arith in rw e
snoc a (suc n) = let e : suc a + n ≡ a + suc n = omega arith in rw (← e) (ap {B = List ℕ} (λ l. a ∷ l) (snoc (suc a) n))

counted : (f : ℕ → Bool) (n : ℕ) → length (those f (numbers 0 n)) ≡ count f n
unfolding those numbers count
counted f zero = refl
counted f (suc n) =
    ap (λ (l : List ℕ). length (those f l)) (snoc 0 n) ∙ ap length (those_append f (numbers 0 n) ((0 + n) ∷ [])) ∙ length-append (those f (numbers 0 n)) (those f ((0 + n) ∷ []))
    ∙ ap (λ (k : ℕ). length (those f (numbers 0 n)) + length (those f (k ∷ []))) (zero-add n)
    ∙ cases (f n) (λ q. rw q (omega (arith, counted f n))) (λ q. rw q (omega (arith, counted f n)))

head_append : (l m : List ℕ) → head (l ++ m) ≡ or_else (head l) (head m)
head_append [] m = refl
head_append (x ∷ l) m = refl

first_lowest : (f : ℕ → Bool) (n : ℕ) → head (those f (numbers 0 n)) ≡ lowest f n
unfolding those numbers lowest
first_lowest f zero = refl
first_lowest f (suc n) =
    ap (λ (l : List ℕ). head (those f l)) (snoc 0 n) ∙ ap head (those_append f (numbers 0 n) ((0 + n) ∷ [])) ∙ head_append (those f (numbers 0 n)) (those f ((0 + n) ∷ []))
    ∙ ap (λ (k : ℕ). or_else (head (those f (numbers 0 n))) (head (those f (k ∷ [])))) (zero-add n)
    ∙ cases (f n) (λ q. rw (q, first_lowest f n)) (λ q. rw (q, first_lowest f n))

-- the number of pages of a set
pub size_counts : (s : Pages) → normal_form s ≡ true → size s ≡ count (holds s) (2 ^ 32)
size_counts s e = ap length (pages_listed s e) ∙ counted (holds s) (2 ^ 32)

-- the first page of a set, or nothing
pub first_page_lem : (s : Pages) → normal_form s ≡ true → first_page s ≡ lowest (holds s) (2 ^ 32)
first_page_lem s e = ap head (pages_listed s e) ∙ first_lowest (holds s) (2 ^ 32)

-- ---- normal forms

masked_length : (f : ℕ → ℕ → ℕ) (s : Pages) → length (masked f s) ≤ length s
unfolding masked
masked_length f [] = omega arith
masked_length f (w ∷ s) = let r = masked_length f s in cases (ltb 0 (f w.index w.mask)) (λ q. rw q (omega arith)) (λ q. rw q (omega arith))

masked_forms : (f : ℕ → ℕ → ℕ) (s : Pages) → ((q m : ℕ) → m < 2 ^ 64 → f q m < 2 ^ 64) → window_forms s ≡ true → window_forms (masked f s) ≡ true
unfolding masked window_forms
masked_forms f [] h e = refl
masked_forms f (w ∷ s) h e =
    let m : ltb w.mask (2 ^ 64) ≡ true = search (and_fst, and_snd) in
    let i : ltb w.index (2 ^ 26) ≡ true = search (and_fst, and_snd) in
    let r = masked_forms f s h (and_snd (window_form w) (window_forms s) e) in
    cases (ltb 0 (f w.index w.mask))
    (λ q. rw q (and_both (and_both (and_both q (lt-ltb (f w.index w.mask) (2 ^ 64) (h w.index w.mask (ltb-true w.mask (2 ^ 64) m)))) i) r)) (λ q. rw q r)

-- an operation that keeps masks in 64 bits and holds no page that the set does not hold keeps the normal form
masked_normal : (f : ℕ → ℕ → ℕ) (s : Pages) → ((q m : ℕ) → m < 2 ^ 64 → f q m < 2 ^ 64) → normal_form s ≡ true → holds (masked f s) 0 ≡ false → normal_form (masked f s) ≡ true
unfolding normal_form
masked_normal f s h e z =
    let n : leb (length s) 32 ≡ true = search (and_fst, and_snd) in
    let up : rising 0 s ≡ true = search (and_fst, and_snd) in
    let ws : window_forms s ≡ true = search (and_fst, and_snd) in
    and_both (and_both (and_both (le-leb (length (masked f s)) 32 (omega (arith, masked_length f s, leb-true (length s) 32 n))) (rising_masked f 0 s up)) (masked_forms f s h ws)) (rw z)

no_zero : (s : Pages) → normal_form s ≡ true → holds s 0 ≡ false
unfolding normal_form
no_zero s e = let z : not (holds s 0) ≡ true = search (and_fst, and_snd) in not-true (holds s 0) z

up_to_small : (n q m : ℕ) → m < 2 ^ 64 → up_to n q m < 2 ^ 64
up_to_small n q m h =
    cases (ltb q (n / 64)) (λ a. rw a h) (λ a. cases (eqb q (n / 64)) (λ b. rw (a, b) (mod_small m (suc (n % 64)) h)) (λ b. rw (a, b) (omega arith)))
  where
    mod_small : (m k : ℕ) → m < 2 ^ 64 → m % 2 ^ k < 2 ^ 64
    mod_small m k h = lt_of_le_of_lt (mod-le m (2 ^ k)) h

pub truncated_normal : (s : Pages) (n : ℕ) → normal_form s ≡ true → normal_form (truncated s n) ≡ true
unfolding truncated
truncated_normal s n e = masked_normal (up_to n) s (up_to_small n) e (holds_truncated 0 s (form_rising s e) n 0 ∙ rw (no_zero s e))

pub minus_normal : (s u : Pages) → normal_form s ≡ true → normal_form (minus s u) ≡ true
unfolding minus
minus_normal s u e =
    masked_normal (λ q m. without m (mask_at u q)) s (λ q m h. xor_lt 64 m (bit_and m (mask_at u q)) h (lt_of_le_of_lt (and_le_l m (mask_at u q)) h)) e (holds_minus 0 s (form_rising s e) u 0 ∙ rw (no_zero s e))

pub common_normal : (s u : Pages) → normal_form s ≡ true → normal_form (common s u) ≡ true
unfolding common
common_normal s u e =
    masked_normal (λ q m. bit_and m (mask_at u q)) s (λ q m h. lt_of_le_of_lt (and_le_l m (mask_at u q)) h) e (holds_common 0 s (form_rising s e) u 0 ∙ rw (no_zero s e))

pub span_normal : (a b : ℕ) (s : Pages) → normal_form s ≡ true → normal_form (span a b s) ≡ true
unfolding span
span_normal a b s e = minus_normal (truncated s b) (truncated s (a - 1)) (truncated_normal s b e)

-- the pages of a set from a to b
pub holds_span : (a b : ℕ) (s : Pages) (p : ℕ) → normal_form s ≡ true → 0 < a → holds (span a b s) p ≡ holds s p && (leb a p && leb p b)
unfolding span
holds_span a b s p e pos =
    holds_minus 0 (truncated s b) (form_rising (truncated s b) (truncated_normal s b e)) (truncated s (a - 1)) p
    ∙ rw (holds_truncated 0 s (form_rising s e) b p, holds_truncated 0 s (form_rising s e) (a - 1) p)
    (cases (holds s p)
    (λ h. rw h (cases (leb a p) (λ l. let k = leb-true a p l in rw (l, lt-leb p (a - 1) (omega arith)) (and-true (leb p b))) (λ l. let k = leb-false a p l in rw (l, le-leb p (a - 1) (omega arith)) (and-false (leb p b)))))
    (λ h. rw h))
