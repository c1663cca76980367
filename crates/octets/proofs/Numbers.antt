-- The laws of `be`, `bytes_of` and `down`. Everything follows from `be` of two runs joined, and from `bytes_of` cut in two.
use mathlib.Core.Path.{◌≡◌, refl, sym, ap, ap₂, ◌∙◌}
use mathlib.Core.List.{List, [], ◌∷◌, ◌++◌}
use Prim.Native.Nat.{ℕ, zero, suc, ◌+◌, ◌-◌, ◌*◌, ◌/◌, ◌%◌, ◌^◌, ◌<◌}
use native.Mathlib.Nat.{pow-suc, pow-succ', add-mul, mul_assoc, add_assoc, zero-mul, zero-add, suc-add, mod-one, mod-lt, mod-eq_of_lt, mul-add-div_right, mul-add-mod_self_right, div-div-eq-div-mul, div-add-mod', mul_comm, div-one}
use native.Mathlib.Omega.{arith}
use lib.ListN.{length, length-append}
use lib.Pow.{pow-add}
use lib.Arith.{digits_lt, digits_div, mod-mul}
use lib.Dec.{lit<}
use Rattle.std.specs.Int.{bytes_high_first}
use Rattle.octets.specs.Bytes.{be, bytes_of, down, AreBytes}

-- ---- the number that bytes spell

pow_some : (k : ℕ) → 0 < 256 ^ k
pow_some zero = lit< tt
pow_some (suc k) = rw pow-suc (omega (arith, pow_some k))

-- two runs, one after the other
pub be_append : (xs ys : List ℕ) → be (xs ++ ys) ≡ be xs * 256 ^ length ys + be ys
unfolding be
be_append [] ys = rw (zero-mul, zero-add)
be_append (x ∷ xs) ys =
    rw (length-append xs ys, pow-add 256 (length xs) (length ys), be_append xs ys, add-mul, mul_assoc, add_assoc)

pub be_one : (x : ℕ) → be (x ∷ []) ≡ x
unfolding be
be_one x = omega arith

-- one byte more at the end
pub be_snoc : (xs : List ℕ) (x : ℕ) → be (xs ++ (x ∷ [])) ≡ be xs * 256 + x
be_snoc xs x = be_append xs (x ∷ []) ∙ ap (λ (n : ℕ). be xs * 256 + n) (be_one x)

-- k bytes spell a number below 256 ^ k
pub be_lt : (xs : List ℕ) → AreBytes xs → be xs < 256 ^ length xs
unfolding be
be_lt [] b = lit< tt
be_lt (x ∷ xs) b = rw (pow-succ' 256 (length xs)) (digits_lt (b 0) (be_lt xs (λ i. b (suc i))))

-- ---- the bytes of a number

pub length_bytes_of : (k v : ℕ) → length (bytes_of k v) ≡ k
unfolding bytes_of
length_bytes_of zero v = refl
length_bytes_of (suc k) v = ap suc (length_bytes_of k v)

pub bytes_bytes_of : (k v : ℕ) → AreBytes (bytes_of k v)
unfolding bytes_of
bytes_bytes_of zero v i = lit< tt
bytes_bytes_of (suc k) v zero = mod-lt (v / 256 ^ k) (lit< tt)
bytes_bytes_of (suc k) v (suc i) = bytes_bytes_of k v i

-- the k low bytes spell what is left of v by 256 ^ k
be_bytes_of_mod : (k v : ℕ) → be (bytes_of k v) ≡ v % 256 ^ k
unfolding be bytes_of
be_bytes_of_mod zero v = sym (mod-one v)
be_bytes_of_mod (suc k) v =
    rw (length_bytes_of k v, be_bytes_of_mod k v, pow-succ' 256 k) (sym (mod-mul v (lit< tt) (pow_some k)))

-- a number is what its bytes spell
pub be_bytes_of : (k v : ℕ) → v < 256 ^ k → be (bytes_of k v) ≡ v
be_bytes_of k v h = be_bytes_of_mod k v ∙ mod-eq_of_lt h

-- what stands above the k low bytes does not show in them
bytes_of_above : (k q v : ℕ) → bytes_of k (q * 256 ^ k + v) ≡ bytes_of k v
unfolding bytes_of
bytes_of_above zero q v = refl
bytes_of_above (suc k) q v =
    let e : q * 256 ^ suc k + v ≡ q * 256 * 256 ^ k + v = rw (pow-succ' 256 k) (ap (λ (n : ℕ). n + v) (sym (mul_assoc q 256 (256 ^ k)))) in
    let h : (q * 256 * 256 ^ k + v) / 256 ^ k % 256 ≡ v / 256 ^ k % 256 = ap (λ (n : ℕ). n % 256) (mul-add-div_right (pow_some k) (q * 256) v) ∙ mul-add-mod_self_right q 256 (v / 256 ^ k) in
    rw e (ap₂ {C = List ℕ} (λ a l. a ∷ l) h (bytes_of_above k (q * 256) v))

pub bytes_of_mod : (k v : ℕ) → bytes_of k (v % 256 ^ k) ≡ bytes_of k v
bytes_of_mod k v = sym (bytes_of_above k (v / 256 ^ k) (v % 256 ^ k)) ∙ ap (bytes_of k) (div-add-mod' v (256 ^ k))

-- the high bytes and the low ones
pub bytes_of_two : (j k v : ℕ) → bytes_of (j + k) v ≡ bytes_of j (v / 256 ^ k) ++ bytes_of k v
unfolding bytes_of
bytes_of_two zero k v = ap (λ (n : ℕ). bytes_of n v) (zero-add k)
bytes_of_two (suc j) k v =
    let h : v / 256 ^ (j + k) % 256 ≡ v / 256 ^ k / 256 ^ j % 256 =
    ap (λ (n : ℕ). n % 256) (ap (λ (n : ℕ). v / n) (pow-add 256 j k ∙ mul_comm (256 ^ j) (256 ^ k)) ∙ sym (div-div-eq-div-mul v (256 ^ k) (256 ^ j))) in
    ap (λ (n : ℕ). bytes_of n v) (suc-add j k) ∙ ap₂ {C = List ℕ} (λ a l. a ∷ l) h (bytes_of_two j k v)

-- bytes are what spells their number
pub bytes_of_be : (xs : List ℕ) → AreBytes xs → bytes_of (length xs) (be xs) ≡ xs
unfolding bytes_of be
bytes_of_be [] b = refl
bytes_of_be (x ∷ xs) b =
    let l : be xs < 256 ^ length xs = be_lt xs (λ i. b (suc i)) in
    let h : (x * 256 ^ length xs + be xs) / 256 ^ length xs % 256 ≡ x = ap (λ (n : ℕ). n % 256) (digits_div x l) ∙ mod-eq_of_lt (b 0) in
    ap₂ {C = List ℕ} (λ a r. a ∷ r) h (bytes_of_above (length xs) x (be xs) ∙ bytes_of_be xs (λ i. b (suc i)))

-- ---- numbers in falling order

-- a number below m and its complement
complement_lt : (m v : ℕ) → 0 < m → m - 1 - v < m
complement_lt m v h = omega arith

pub complement_twice : (m v : ℕ) → v < m → m - 1 - (m - 1 - v) ≡ v
complement_twice m v h = omega arith

pub length_down : (k v : ℕ) → length (down k v) ≡ k
unfolding down
length_down k v = length_bytes_of k (256 ^ k - 1 - v)

pub bytes_down : (k v : ℕ) → AreBytes (down k v)
unfolding down
bytes_down k v = bytes_bytes_of k (256 ^ k - 1 - v)

pub be_down : (k v : ℕ) → be (down k v) ≡ 256 ^ k - 1 - v
unfolding down
be_down k v = be_bytes_of k (256 ^ k - 1 - v) (complement_lt (256 ^ k) v (pow_some k))

-- the bytes at a place that stand for the number that they complement
pub down_be : (xs : List ℕ) → AreBytes xs → down (length xs) (256 ^ length xs - 1 - be xs) ≡ xs
unfolding down
down_be xs b =
    ap (bytes_of (length xs)) (complement_twice (256 ^ length xs) (be xs) (be_lt xs b)) ∙ bytes_of_be xs b

-- ---- the library's words for numbers as bytes

-- the bytes of a number are those of `to_be_bytes`
pub bytes_high : (k v : ℕ) → bytes_high_first k v ≡ bytes_of k v
unfolding bytes_of
bytes_high zero v = refl
bytes_high (suc zero) v = ap (λ (n : ℕ). n % 256 ∷ []) (sym (div-one v))
bytes_high (suc (suc k)) v = ap (λ (l : List ℕ). v / 256 ^ suc k % 256 ∷ l) (bytes_high (suc k) v)

-- so a number with these bytes is what they spell
pub spelled : (k v : ℕ) (xs : List ℕ) → v < 256 ^ k → bytes_high_first k v ≡ xs → v ≡ be xs
spelled k v xs h e = sym (be_bytes_of k v h) ∙ ap be (sym (bytes_high k v) ∙ e)
