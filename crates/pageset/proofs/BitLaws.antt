-- The bits of a number, over any width: what the operations on masks do to each bit, that the bits determine the number, and its lowest and
-- highest set bit. Assumes nothing.
use Rattle.std.proofs.Common.{◌≡◌, ℕ, zero, suc, ◌+◌, ◌-◌, ◌*◌, ◌/◌, ◌%◌, ◌^◌, ◌<◌, ◌≤◌, min, max, Bool, true, false, not, ◌&&◌, ◌||◌, eqb, ltb, ◌⊎◌, sym, refl, ap, ◌∙◌, ap₂, inl, inr, lt_of_lt_of_le, mod-lt, mod-eq_of_lt, add_comm, one-mul, pow-suc, div-one, add-one, arith, pow_pos, pow_mono, shr-shr, le-ltb, lt-ltb}
use mathlib.Core.Bool.{and-true, and-false}
use native.Mathlib.Nat.{mod-one, zero-div, div-eq_of_lt}
use lib.Dec.{leb-suc-suc}
use lib.Arith.{digits_div}
use lib.Pow.{pow-lt, field, mod-mod-pow}
use lib.Bits.{bit_and, bit_or, and_step, or_step, and_shr, or_shr, and_mask}
use lib.Count.{count_trailing_zeros, count_leading_zeros, leading_top, under}
use Rattle.pageset.specs.Sets.{bit}

-- a digit is 0 or 1
pub digit : (n : ℕ) → (n % 2 ≡ 0) ⊎ (n % 2 ≡ 1)
digit n = go (n % 2) (mod-lt n (omega arith))
  where
    go : (d : ℕ) → d < 2 → (d ≡ 0) ⊎ (d ≡ 1)
    go zero h = inl refl
    go (suc zero) h = inr refl
    go (suc (suc d)) h = absurd (omega arith)

half_pow : (n k : ℕ) → n / 2 ^ suc k ≡ n / 2 / 2 ^ k
half_pow n k = ap (λ (x : ℕ). n / 2 ^ x) (sym (add-one k) ∙ add_comm k 1) ∙ sym (shr-shr n 1 k)

half_lt : (a k : ℕ) → a < 2 ^ suc k → a / 2 < 2 ^ k
half_lt a k h = omega (arith, pow-suc 2 k)

-- the lowest bit, and the bits above it
pub bit_zero : (m : ℕ) → bit m 0 ≡ eqb (m % 2) 1
unfolding bit
bit_zero m = ap (λ (x : ℕ). eqb (x % 2) 1) (div-one m)

pub bit_suc : (m k : ℕ) → bit m (suc k) ≡ bit (m / 2) k
unfolding bit
bit_suc m k = rw half_pow

-- ---- the operations

pub and_odd : (a b : ℕ) → bit_and a b % 2 ≡ min (a % 2) (b % 2)
and_odd a b = omega (arith, and_step a b)

or_odd : (a b : ℕ) → bit_or a b % 2 ≡ max (a % 2) (b % 2)
or_odd a b = omega (arith, or_step a b)

eqb_min : (x y : ℕ) → (x ≡ 0) ⊎ (x ≡ 1) → (y ≡ 0) ⊎ (y ≡ 1) → eqb (min x y) 1 ≡ (eqb x 1 && eqb y 1)
eqb_min x y (inl p) (inl q) = rw (p, q)
eqb_min x y (inl p) (inr q) = rw (p, q)
eqb_min x y (inr p) (inl q) = rw (p, q)
eqb_min x y (inr p) (inr q) = rw (p, q)

eqb_max : (x y : ℕ) → (x ≡ 0) ⊎ (x ≡ 1) → (y ≡ 0) ⊎ (y ≡ 1) → eqb (max x y) 1 ≡ (eqb x 1 || eqb y 1)
eqb_max x y (inl p) (inl q) = rw (p, q)
eqb_max x y (inl p) (inr q) = rw (p, q)
eqb_max x y (inr p) (inl q) = rw (p, q)
eqb_max x y (inr p) (inr q) = rw (p, q)

pub bit_and_lem : (a b k : ℕ) → bit (bit_and a b) k ≡ (bit a k && bit b k)
unfolding bit
bit_and_lem a b k = ap (λ (x : ℕ). eqb (x % 2) 1) (and_shr a b k) ∙ ap (λ (x : ℕ). eqb x 1) (and_odd (a / 2 ^ k) (b / 2 ^ k)) ∙ eqb_min _ _ (digit (a / 2 ^ k)) (digit (b / 2 ^ k))

pub bit_or_lem : (a b k : ℕ) → bit (bit_or a b) k ≡ (bit a k || bit b k)
unfolding bit
bit_or_lem a b k = ap (λ (x : ℕ). eqb (x % 2) 1) (or_shr a b k) ∙ ap (λ (x : ℕ). eqb x 1) (or_odd (a / 2 ^ k) (b / 2 ^ k)) ∙ eqb_max _ _ (digit (a / 2 ^ k)) (digit (b / 2 ^ k))

eqb_flip : (x y : ℕ) → (y ≡ 0) ⊎ (y ≡ 1) → x ≡ 1 - y → eqb x 1 ≡ not (eqb y 1)
eqb_flip x y (inl p) e = rw (e, p)
eqb_flip x y (inr p) e = rw (e, p)

-- `!a`, of w bits
pub bit_not : (w k a : ℕ) → k < w → a < 2 ^ w → bit ((2 ^ w - 1) - a) k ≡ not (bit a k)
bit_not zero k a h l = absurd (omega arith)
bit_not (suc w) zero a h l =
    let e : ((2 ^ suc w - 1) - a) % 2 ≡ 1 - a % 2 = omega (arith, pow-suc 2 w) in
    bit_zero _ ∙ eqb_flip _ _ (digit a) e ∙ ap not (sym (bit_zero a))
bit_not (suc w) (suc k) a h l =
    let e : ((2 ^ suc w - 1) - a) / 2 ≡ (2 ^ w - 1) - a / 2 = omega (arith, pow-suc 2 w) in
    bit_suc _ k ∙ ap (λ (x : ℕ). bit x k) e ∙ bit_not w k (a / 2) (omega arith) (half_lt a w l) ∙ ap not (sym (bit_suc a k))

-- ---- where no bit is set

pub bit_none : (k : ℕ) → bit 0 k ≡ false
unfolding bit
bit_none k = ap (λ (x : ℕ). eqb (x % 2) 1) (zero-div (2 ^ k))

bit_above : (m k : ℕ) → m < 2 ^ k → bit m k ≡ false
unfolding bit
bit_above m k h = ap (λ (x : ℕ). eqb (x % 2) 1) (div-eq_of_lt h)

bit_past : (m w k : ℕ) → m < 2 ^ w → w ≤ k → bit m k ≡ false
bit_past m w k h l = bit_above m k (lt_of_lt_of_le h (pow_mono l))

-- ---- the bits below k

pub bit_mod : (m k j : ℕ) → bit (m % 2 ^ k) j ≡ (bit m j && ltb j k)
bit_mod m zero j = ap (λ (x : ℕ). bit x j) (mod-one m) ∙ bit_none j ∙ sym (ap (λ (b : Bool). bit m j && b) (le-ltb j 0 (omega arith)) ∙ and-false (bit m j))
bit_mod m (suc k) zero =
    let e : m % 2 ^ suc k % 2 ≡ m % 2 = ap (λ (x : ℕ). m % 2 ^ x % 2) (sym (add-one k)) ∙ mod-mod-pow m k 1 in
    bit_zero _ ∙ ap (λ (x : ℕ). eqb x 1) e ∙ sym (bit_zero m) ∙ sym (ap (λ (b : Bool). bit m 0 && b) (lt-ltb 0 (suc k) (omega arith)) ∙ and-true (bit m 0))
bit_mod m (suc k) (suc j) =
    let e : m % 2 ^ suc k / 2 ≡ m / 2 % 2 ^ k = ap (λ (x : ℕ). m % 2 ^ x / 2) (sym (add-one k)) ∙ field m k 1 in
    bit_suc _ j ∙ ap (λ (x : ℕ). bit x j) e ∙ bit_mod (m / 2) k j ∙ ap₂ ◌&&◌ (sym (bit_suc m j)) (sym (leb-suc-suc (suc j) k))

-- the number of k set bits
pub bit_ones : (k j : ℕ) → bit (2 ^ k - 1) j ≡ ltb j k
bit_ones zero j = bit_none j ∙ sym (le-ltb j 0 (omega arith))
bit_ones (suc k) zero =
    let e : (2 ^ suc k - 1) % 2 ≡ 1 = omega (arith, pow-suc 2 k, pow_pos k) in
    bit_zero _ ∙ ap (λ (x : ℕ). eqb x 1) e ∙ sym (lt-ltb 0 (suc k) (omega arith))
bit_ones (suc k) (suc j) =
    let e : (2 ^ suc k - 1) / 2 ≡ 2 ^ k - 1 = omega (arith, pow-suc 2 k, pow_pos k) in
    bit_suc _ j ∙ ap (λ (x : ℕ). bit x j) e ∙ bit_ones k j ∙ sym (leb-suc-suc (suc j) k)

-- ---- two numbers are equal by their bits

eqb_digit : (x y : ℕ) → (x ≡ 0) ⊎ (x ≡ 1) → (y ≡ 0) ⊎ (y ≡ 1) → eqb x 1 ≡ eqb y 1 → x ≡ y
eqb_digit x y (inl p) (inl q) e = cc
eqb_digit x y (inl p) (inr q) e = absurd (false_true (rw (p, q) at e))
  where
    false_true : false ≡ true → ⊥
    false_true h = let z : ◌≡◌ {A = ℕ} 0 1 = cc in omega arith
eqb_digit x y (inr p) (inl q) e = absurd (false_true (rw (p, q) at e))
  where
    false_true : true ≡ false → ⊥
    false_true h = let z : ◌≡◌ {A = ℕ} 0 1 = cc in omega arith
eqb_digit x y (inr p) (inr q) e = cc

pub bit_ext : (w a b : ℕ) → a < 2 ^ w → b < 2 ^ w → ((k : ℕ) → k < w → bit a k ≡ bit b k) → a ≡ b
bit_ext zero a b p q h = omega arith
bit_ext (suc w) a b p q h =
    let top : a / 2 ≡ b / 2 = bit_ext w (a / 2) (b / 2) (half_lt a w p) (half_lt b w q) (λ k l. sym (bit_suc a k) ∙ h (suc k) (omega arith) ∙ bit_suc b k) in
    let low : a % 2 ≡ b % 2 = eqb_digit _ _ (digit a) (digit b) (sym (bit_zero a) ∙ h 0 (omega arith) ∙ bit_zero b) in
    omega arith

-- ---- the lowest and the highest set bit

pub record Lowest (w m t : ℕ) : Type 0 where
  pub within : t < w
  pub set : bit m t ≡ true
  pub clear : (j : ℕ) → j < t → bit m j ≡ false

pub trailing_lowest : (w m : ℕ) → 0 < m → m < 2 ^ w → Lowest w m (count_trailing_zeros w m)
unfolding count_trailing_zeros
trailing_lowest zero m p h = absurd (omega arith)
trailing_lowest (suc w) m p h = go (digit m) (λ q. trailing_lowest w (m / 2) q (half_lt m w h))
  where
    shift : (t : ℕ) → m % 2 ≡ 0 → Lowest w (m / 2) t → (j : ℕ) → j < suc t → bit m j ≡ false
    shift t e r zero l = bit_zero m ∙ ap (λ (x : ℕ). eqb x 1) e
    shift t e r (suc j) l = bit_suc m j ∙ r.clear j (omega arith)

    go : (m % 2 ≡ 0) ⊎ (m % 2 ≡ 1) → (0 < m / 2 → Lowest w (m / 2) (count_trailing_zeros w (m / 2))) → Lowest (suc w) m (under (m % 2) (count_trailing_zeros w (m / 2)))
    go (inl e) ih =
        let r = ih (omega arith) in
        rw e (record { within = omega (arith, r.within); set = bit_suc m _ ∙ r.set; clear = shift _ e r })
    go (inr e) ih =
        rw e (record { within = omega arith; set = bit_zero m ∙ ap (λ (x : ℕ). eqb x 1) e; clear = λ j l. absurd (omega arith) })

pub record Highest (m t : ℕ) : Type 0 where
  pub set : bit m t ≡ true
  pub clear : (j : ℕ) → t < j → bit m j ≡ false

pub leading_highest : (w m : ℕ) → 0 < m → m < 2 ^ w → (t : ℕ) × (count_leading_zeros w m + t + 1 ≡ w) × Highest m t
unfolding bit
leading_highest w m p h =
    let r = leading_top w m p h in
    let low : m - 2 ^ r.0 < 2 ^ r.0 = omega (arith, r.2, r.3, pow-suc 2 r.0) in
    let whole : m ≡ 1 * 2 ^ r.0 + (m - 2 ^ r.0) = omega (arith, r.2) in
    let one : m / 2 ^ r.0 ≡ 1 = ap (λ (x : ℕ). x / 2 ^ r.0) whole ∙ digits_div 1 low in
    (r.0, omega (arith, r.1), record { set = ap (λ (x : ℕ). eqb (x % 2) 1) one; clear = λ j l. bit_past m (suc r.0) j r.3 l })

-- ---- what the code writes

-- `1 << k`, of w bits
pub shl_one : (w k : ℕ) → k < w → 1 * 2 ^ k % 2 ^ w ≡ 2 ^ k
shl_one w k h = ap (λ (x : ℕ). x % 2 ^ w) (one-mul (2 ^ k)) ∙ mod-eq_of_lt (pow-lt h)

-- `m >> b & 1 == 1`
pub shifted_bit : (m b : ℕ) → eqb (bit_and (m / 2 ^ b) 1) 1 ≡ bit m b
unfolding bit
shifted_bit m b = ap (λ (x : ℕ). eqb x 1) (and_mask (m / 2 ^ b) 1)
