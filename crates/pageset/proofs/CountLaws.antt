-- Numbers below a bound that pass a test: the laws of counts, of the lowest and the highest, and that the ones of a set's masks count its pages.
-- Assumes nothing.
use Rattle.std.proofs.Common.{◌≡◌, ℕ, zero, suc, ◌+◌, ◌-◌, ◌*◌, ◌/◌, ◌%◌, ◌^◌, ◌<◌, ◌≤◌, min, Bool, true, false, cond, not, ◌&&◌, ◌||◌, eqb, ◌⊎◌, List, [], ◌∷◌, length, get_or, drop, drop_of_length-le, sym, refl, ap, ◌∙◌, ap₂, inl, inr, add-suc, pow-suc, arith, eq-eqb, ne_eqb, le-leb}
use mathlib.Core.Option.{none, some}
use borrow.Author.Tests.{lt-leb}
use lib.Count.{ones, ones_step}
use Rattle.pageset.specs.declared.Window.{Window}
use Rattle.pageset.specs.declared.PageSet.{PageSet}
use Rattle.pageset.specs.Sets.{bit, mask_at, holds, shown, member, zero_window}
use Rattle.pageset.specs.Rules.{within}
use Rattle.pageset.specs.Counts.{count, lowest, highest, or_else, any_of, all_of}
use Rattle.pageset.proofs.BitLaws.{digit, bit_zero, bit_suc}
use Rattle.pageset.proofs.FormLaws.{Rises, Normal, and_fst, and_snd, clash}
use Rattle.pageset.proofs.WindowLaws.{eq_or, lt_or, mask_nil, mask_same, mask_other, mask_below, mask_lt}
use Rattle.pageset.proofs.WalkLaws.{next_of}

-- ---- the lowest and the highest

module _ (f : ℕ → Bool) where
  pub lowest_none : (n : ℕ) → ((k : ℕ) → f k ≡ false) → none ≡ lowest f n
  unfolding lowest
  lowest_none zero h = refl
  lowest_none (suc n) h = rw (← lowest_none n h, h n)

  pub lowest_is : (n p : ℕ) → p < n → f p ≡ true → ((k : ℕ) → k < p → f k ≡ false) → some p ≡ lowest f n
  unfolding lowest
  lowest_is zero p l e h = absurd (omega arith)
  lowest_is (suc n) p l e h = go (lt_or p n) (λ k. lowest_is n p k e h)
    where
      below : (m : ℕ) → ((k : ℕ) → k < m → f k ≡ false) → none ≡ lowest f m
      below zero g = refl
      below (suc m) g = rw (← below m (λ k q. g k (omega arith)), g m (omega arith))

      go : (p < n) ⊎ (n ≤ p) → (p < n → some p ≡ lowest f n) → some p ≡ or_else (lowest f n) (cond (f n) (some n) none)
      go (inl k) ih = rw (← ih k)
      go (inr k) ih = let z : p ≡ n = omega arith in rw (← below n (λ k q. h k (omega arith)), ← z, e)

  pub highest_none : (n : ℕ) → ((k : ℕ) → f k ≡ false) → none ≡ highest f n
  unfolding highest
  highest_none zero h = refl
  highest_none (suc n) h = rw (h n) (highest_none n h)

  pub highest_is : (n p : ℕ) → p < n → f p ≡ true → ((k : ℕ) → p < k → f k ≡ false) → some p ≡ highest f n
  unfolding highest
  highest_is zero p l e h = absurd (omega arith)
  highest_is (suc n) p l e h = go (lt_or p n) (λ k. highest_is n p k e h)
    where
      go : (p < n) ⊎ (n ≤ p) → (p < n → some p ≡ highest f n) → some p ≡ cond (f n) (some n) (highest f n)
      go (inl k) ih = rw (h n k) (ih k)
      go (inr k) ih = let z : p ≡ n = omega arith in rw (← z, e)

-- ---- some and all

module _ (f : ℕ → Bool) where
  pub any_yes : (n p : ℕ) → p < n → f p ≡ true → any_of f n ≡ true
  unfolding any_of
  any_yes zero p l e = absurd (omega arith)
  any_yes (suc n) p l e = go (lt_or p n) (λ k. any_yes n p k e)
    where
      or-true : (b : Bool) → (b || true) ≡ true
      or-true true = refl
      or-true false = refl

      go : (p < n) ⊎ (n ≤ p) → (p < n → any_of f n ≡ true) → (f n || any_of f n) ≡ true
      go (inl k) ih = rw (ih k) (or-true (f n))
      go (inr k) ih = let z : p ≡ n = omega arith in rw (← z, e)

  pub any_no : (n : ℕ) → ((k : ℕ) → k < n → f k ≡ false) → any_of f n ≡ false
  unfolding any_of
  any_no zero h = refl
  any_no (suc n) h = rw (h n (omega arith)) (any_no n (λ k q. h k (omega arith)))

  all_yes : (n : ℕ) → ((k : ℕ) → k < n → f k ≡ true) → all_of f n ≡ true
  unfolding all_of
  all_yes zero h = refl
  all_yes (suc n) h = rw (h n (omega arith)) (all_yes n (λ k q. h k (omega arith)))

pub any_same : (f g : ℕ → Bool) (n : ℕ) → ((k : ℕ) → f k ≡ g k) → any_of f n ≡ any_of g n
unfolding any_of
any_same f g zero h = refl
any_same f g (suc n) h = ap₂ ◌||◌ (h n) (any_same f g n h)

all_fact : (f : ℕ → Bool) (n : ℕ) → all_of f n ≡ true → (k : ℕ) → k < n → f k ≡ true
unfolding all_of
all_fact f zero e k l = absurd (omega arith)
all_fact f (suc n) e k l = go (eq_or k n) (λ m. all_fact f n (and_snd (f n) (all_of f n) e) k m)
  where
    go : (k ≡ n) ⊎ (k ≡ n → ⊥) → (k < n → f k ≡ true) → f k ≡ true
    go (inl z) ih = rw z (and_fst (f n) (all_of f n) e)
    go (inr z) ih = ih (omega arith)

-- ---- counts

pub count_same : (f g : ℕ → Bool) (n : ℕ) → ((k : ℕ) → k < n → f k ≡ g k) → count f n ≡ count g n
unfolding count
count_same f g zero h = refl
count_same f g (suc n) h = ap₂ (λ (b : Bool) (m : ℕ). cond b 1 0 + m) (h n (omega arith)) (count_same f g n (λ k l. h k (omega arith)))

count_add : (f : ℕ → Bool) (a b : ℕ) → count f (a + b) ≡ count f a + count (λ k. f (a + k)) b
unfolding count
count_add f a zero = let e : a + 0 ≡ a = omega arith in ap (count f) e ∙ omega arith
count_add f a (suc b) = ap (count f) (add-suc a b) ∙ omega (arith, count_add f a b)

tick_le : (a b : Bool) → (a ≡ true → b ≡ true) → cond a 1 0 ≤ cond b 1 0
tick_le true b h = rw (h refl) (omega arith)
tick_le false b h = omega arith

tick_same : (a b : Bool) → ◌≡◌ {A = ℕ} (cond a 1 0) (cond b 1 0) → a ≡ b
tick_same true true e = refl
tick_same true false e = absurd (omega arith)
tick_same false true e = absurd (omega arith)
tick_same false false e = refl

-- a test that passes no more numbers than another, and as many, is the other
module _ (f g : ℕ → Bool) (h : (k : ℕ) → f k ≡ true → g k ≡ true) where
  count_le : (n : ℕ) → count f n ≤ count g n
  unfolding count
  count_le zero = omega arith
  count_le (suc n) = omega (arith, tick_le (f n) (g n) (h n), count_le n)

  count_all : (n : ℕ) → count f n ≡ count g n → (k : ℕ) → k < n → f k ≡ g k
  unfolding count
  count_all zero e k l = absurd (omega arith)
  count_all (suc n) e k l = go (eq_or k n) (λ d m. count_all n d k m)
    where
      go : (k ≡ n) ⊎ (k ≡ n → ⊥) → (count f n ≡ count g n → k < n → f k ≡ g k) → f k ≡ g k
      go (inl z) ih = rw z (tick_same (f n) (g n) (omega (arith, tick_le (f n) (g n) (h n), count_le n)))
      go (inr z) ih = ih (omega (arith, tick_le (f n) (g n) (h n), count_le n)) (omega arith)

-- the numbers from a to b
count_within : (a b : ℕ) → a ≤ b → (n : ℕ) → count (within a b) n ≡ min n (b + 1) - a
unfolding count
count_within a b h zero = omega arith
count_within a b h (suc n) = go (count_within a b h n) (lt_or n a) (lt_or b n)
  where
    go : count (within a b) n ≡ min n (b + 1) - a → (n < a) ⊎ (a ≤ n) → (b < n) ⊎ (n ≤ b) → cond (within a b n) 1 0 + count (within a b) n ≡ min (suc n) (b + 1) - a
    go e (inl l) y = rw (lt-leb a n l) (omega arith)
    go e (inr l) (inl m) = rw (le-leb a n l, lt-leb n b m) (omega arith)
    go e (inr l) (inr m) = rw (le-leb a n l, le-leb n b m) (omega arith)

count_zero : (f : ℕ → Bool) → count f 0 ≡ 0
unfolding count
count_zero f = refl

tick_digit : (d : ℕ) → (d ≡ 0) ⊎ (d ≡ 1) → cond (eqb d 1) 1 0 ≡ d
tick_digit d (inl e) = rw e
tick_digit d (inr e) = rw e

ones_zero : ones 0 ≡ 0
unfolding ones
ones_zero = refl

-- the set bits of a number of w bits are counted one by one
ones_count : (w m : ℕ) → m < 2 ^ w → ones m ≡ count (bit m) w
unfolding count
ones_count zero m h = let e : m ≡ 0 = omega arith in ap ones e ∙ ones_zero
ones_count (suc w) m h =
    let half : m / 2 < 2 ^ w = omega (arith, pow-suc 2 w) in
    let low : cond (bit m 0) 1 0 ≡ m % 2 = ap (λ (b : Bool). cond b 1 0) (bit_zero m) ∙ tick_digit (m % 2) (digit m) in
    let high : count (λ k. bit m (1 + k)) w ≡ count (bit (m / 2)) w = count_same _ _ w (λ k l. ap (bit m) (let e : 1 + k ≡ suc k = omega arith in e) ∙ bit_suc m k) in
    let e : 1 + w ≡ suc w = omega arith in
    ones_step m ∙ sym (sym (ap (count (bit m)) e) ∙ count_add (bit m) 1 w ∙ omega (arith, low, high, ones_count w (m / 2) half))

-- ---- sums

sum_to : (ℕ → ℕ) → ℕ → ℕ
sum_to g zero = 0
sum_to g (suc n) = g n + sum_to g n

sum_same : (f g : ℕ → ℕ) (n : ℕ) → ((k : ℕ) → k < n → f k ≡ g k) → sum_to f n ≡ sum_to g n
unfolding sum_to
sum_same f g zero h = refl
sum_same f g (suc n) h = ap₂ ◌+◌ (h n (omega arith)) (sum_same f g n (λ k l. h k (omega arith)))

sum_zero_window : (f : ℕ → ℕ) (n : ℕ) → ((k : ℕ) → f k ≡ 0) → sum_to f n ≡ 0
unfolding sum_to
sum_zero_window f zero h = refl
sum_zero_window f (suc n) h = omega (arith, h n, sum_zero_window f n h)

-- two sums that differ at one place
sum_one : (f g : ℕ → ℕ) (j c n : ℕ) → f j ≡ c + g j → ((k : ℕ) → (j ≡ k → ⊥) → f k ≡ g k) → j < n → sum_to f n ≡ c + sum_to g n
unfolding sum_to
sum_one f g j c zero e h l = absurd (omega arith)
sum_one f g j c (suc n) e h l = go (eq_or j n) (λ k. sum_one f g j c n e h k)
  where
    go : (j ≡ n) ⊎ (j ≡ n → ⊥) → (j < n → sum_to f n ≡ c + sum_to g n) → f n + sum_to f n ≡ c + (g n + sum_to g n)
    go (inl p) ih = omega (arith, ap f p, ap g p, sum_same f g n (λ k q. h k (λ z. omega arith)))
    go (inr p) ih = omega (arith, h n p, ih (omega arith))

-- the pages of the windows below q
by_windows : (m : ℕ → ℕ) → ((q : ℕ) → m q < 2 ^ 64) → (n : ℕ) → count (λ p. bit (m (p / 64)) (p % 64)) (n * 64) ≡ sum_to (λ q. ones (m q)) n
unfolding sum_to
by_windows m h zero = count_zero _
by_windows m h (suc n) =
    let e : suc n * 64 ≡ n * 64 + 64 = omega arith in
    let f : ℕ → Bool = λ p. bit (m (p / 64)) (p % 64) in
    let top : count (λ k. f (n * 64 + k)) 64 ≡ count (bit (m n)) 64 = count_same _ _ 64 (λ k l.
    let d : (n * 64 + k) / 64 ≡ n = omega arith in
    let r : (n * 64 + k) % 64 ≡ k = omega arith in
    ap₂ (λ (x y : ℕ). bit (m x) y) d r) in
    ap (count f) e ∙ count_add f (n * 64) 64 ∙ omega (arith, by_windows m h n, top, ones_count 64 (m n) (h n))

-- ---- the ones of a list of windows

pub total : List Window → ℕ
total [] = 0
total (w ∷ ws) = ones w.mask + total ws

total_nil : total [] ≡ 0
unfolding total
total_nil = refl

total_cons : (w : Window) (ws : List Window) → total (w ∷ ws) ≡ ones w.mask + total ws
unfolding total
total_cons w ws = refl

all_windows : (lo : ℕ) (xs : List Window) → Rises lo xs → sum_to (λ q. ones (mask_at xs q)) 67108864 ≡ total xs
unfolding total Rises
all_windows lo [] r = sum_zero_window _ 67108864 (λ k. ap ones (mask_nil k) ∙ ones_zero)
all_windows lo (w ∷ ws) r =
    let z : ones (mask_at ws w.index) ≡ 0 = ap ones (mask_below (w.index + 1) ws w.index r.4 (omega arith)) ∙ ones_zero in
    let j : ones (mask_at (w ∷ ws) w.index) ≡ ones w.mask + ones (mask_at ws w.index) = ap ones (mask_same w ws w.index refl) ∙ omega (arith, z) in
    sum_one (λ q. ones (mask_at (w ∷ ws) q)) (λ q. ones (mask_at ws q)) w.index (ones w.mask) 67108864 j (λ k n. ap ones (mask_other w ws k n)) r.1
    ∙ ap (λ (x : ℕ). ones w.mask + x) (all_windows (w.index + 1) ws r.4)

pub members_counted : (s : PageSet) → Normal s → total (shown s) ≡ count (member s) (2 ^ 32)
unfolding holds
members_counted s t =
    sym (by_windows (mask_at (shown s)) (λ q. mask_lt 0 (shown s) q t.rising) 67108864 ∙ all_windows 0 (shown s) t.rising)

-- ---- the walk that adds them up

module _ (xs : List Window) (i sum : ℕ) (w : sum + total (drop i xs) ≡ total xs) where
  pub tally_step : i < length xs → sum + ones (get_or xs i zero_window).mask + total (drop (i + 1) xs) ≡ total xs
  tally_step h =
      let e = ap total (next_of xs i h) ∙ total_cons (get_or xs i zero_window) (drop (i + 1) xs) in
      omega (arith, e)

  pub tally_end : length xs ≤ i → sum ≡ total xs
  tally_end h =
      let e = ap total (drop_of_length-le xs {i = i} h) ∙ total_nil in
      omega (arith, e)

-- ---- all pages of a range: as many as there are

module _ (f : ℕ → Bool) (a b n : ℕ) (h : a ≤ b) (l : b < n) where
  both : (x y : Bool) → (x && y) ≡ true → y ≡ true
  both x y e = and_snd x y e

  same_tests : (x y : Bool) → (not y || x) ≡ true → (x && y) ≡ y
  same_tests true true e = refl
  same_tests true false e = refl
  same_tests false true e = clash false e refl
  same_tests false false e = refl

  other_tests : (x y : Bool) → (x && y) ≡ y → (not y || x) ≡ true
  other_tests true true e = refl
  other_tests true false e = refl
  other_tests false true e = e
  other_tests false false e = refl

  range_count : count (within a b) n ≡ b - a + 1
  range_count = count_within a b h n ∙ omega arith

  pub counted_all : eqb (count (λ p. f p && within a b p) n) (b - a + 1) ≡ all_of (λ p. not (within a b p) || f p) n
  counted_all = go (all_of (λ p. not (within a b p) || f p) n) refl
    where
      go : (t : Bool) → all_of (λ p. not (within a b p) || f p) n ≡ t → eqb (count (λ p. f p && within a b p) n) (b - a + 1) ≡ t
      go true e = eq-eqb _ _ (count_same (λ p. f p && within a b p) (within a b) n (λ k m. same_tests (f k) (within a b k) (all_fact (λ p. not (within a b p) || f p) n e k m)) ∙ range_count)
      go false e =
          ne_eqb _ _ (λ z. clash (all_of (λ p. not (within a b p) || f p) n)
          (all_yes (λ p. not (within a b p) || f p) n (λ k m. other_tests (f k) (within a b k)
          (count_all (λ p. f p && within a b p) (within a b) (λ j. both (f j) (within a b j)) n (z ∙ sym range_count) k m))) e)
