-- The laws of `order` and `lex`: `lex` is a lawful order of keys; fields decide one after the other; of bytes of one length it is the order of
-- the numbers that they spell, and turned where numbers stand in falling order.
use mathlib.Core.Path.{◌≡◌, refl, sym, ap, ap₂, ◌∙◌, subst}
use mathlib.Core.Bool.{true, false}
use mathlib.Core.List.{List, [], ◌∷◌, ◌++◌}
use Prim.Native.Nat.compare
use Prim.Native.Nat.{Ordering}
use Prim.Native.Nat.{ℕ, zero, suc, ◌+◌, ◌-◌, ◌*◌, ◌^◌, ◌≤◌, ◌<◌, compare}
use native.Mathlib.Nat.{le_of_lt, le_of_eq, mul-le-mul_right, suc-mul}
use native.Mathlib.Omega.{arith}
use native.Mathlib.Decide.{dec_lt}
use lib.ListN.{length}
use lib.Dec.{eqb}
use borrow.Author.Tests.{lt-ltb, le-ltb, eq-eqb, ne_eqb}
use Rattle.octets.specs.Bytes.{be, bytes_of, down, part, AreBytes}
use Rattle.octets.specs.Order.{order, then_by, lex, turned, ordering, is_less, is_equal}
use Rattle.std.proofs.Common.{Ordering as Order, Less, Equal, Greater}
use Rattle.octets.proofs.Numbers as N
use Rattle.octets.proofs.Places as P

-- ---- numbers

pub order_less : (m n : ℕ) → m < n → order m n ≡ Less
unfolding order
order_less m n h = simp (lt-ltb m n h)

pub order_equal : (m n : ℕ) → m ≡ n → order m n ≡ Equal
unfolding order
order_equal m n h = simp (le-ltb m n (le_of_eq (sym h)), le-ltb n m (le_of_eq h))

pub order_greater : (m n : ℕ) → n < m → order m n ≡ Greater
unfolding order
order_greater m n h = simp (le-ltb m n (le_of_lt h), lt-ltb n m h)

-- three cases, each with what it shows
pub orders : {P : Type 0} (m n : ℕ) → (m < n → order m n ≡ Less → P) → (m ≡ n → order m n ≡ Equal → P) → (n < m → order m n ≡ Greater → P) → P
orders {P} m n less equal greater = go (dec_lt m n) (dec_lt n m)
  where
    go : Dec (m < n) → Dec (n < m) → P
    go (yes h) d = less h (order_less m n h)
    go (no h) (yes k) = greater k (order_greater m n k)
    go (no h) (no k) = let e : m ≡ n = omega arith in equal e (order_equal m n e)

pub less_order : (m n : ℕ) → order m n ≡ Less → m < n
less_order m n p =
    orders m n (λ h e. h) (λ h e. let z : ◌≡◌ {A = ℕ} 0 1 = cc in absurd (omega arith)) (λ h e. let z : ◌≡◌ {A = ℕ} 0 1 = cc in absurd (omega arith))

pub equal_order : (m n : ℕ) → order m n ≡ Equal → m ≡ n
equal_order m n p = orders m n (λ h e. cc) (λ h e. h) (λ h e. cc)

pub greater_order : (m n : ℕ) → order m n ≡ Greater → n < m
greater_order m n p =
    orders m n (λ h e. let z : ◌≡◌ {A = ℕ} 0 1 = cc in absurd (omega arith)) (λ h e. let z : ◌≡◌ {A = ℕ} 0 1 = cc in absurd (omega arith)) (λ h e. h)

pub order_differs : (m n : ℕ) → (m ≡ n → ⊥) → is_equal (order m n) ≡ false
order_differs m n d = orders m n (λ h e. rw e) (λ h e. absurd (d h)) (λ h e. rw e)

pub order_eqb : (m n : ℕ) → is_equal (order m n) ≡ eqb m n
order_eqb m n =
    orders m n
    (λ h e. rw e (sym (ne_eqb m n (λ d. omega arith))))
    (λ h e. rw e (sym (eq-eqb m n h)))
    (λ h e. rw e (sym (ne_eqb m n (λ d. omega arith))))

pub order_turned : (m n : ℕ) → order n m ≡ turned (order m n)
unfolding turned
order_turned m n =
    orders m n (λ h e. rw e (order_greater n m h)) (λ h e. rw e (order_equal n m (sym h))) (λ h e. rw e (order_less n m h))

-- the library's comparison
compare_less : (m n : ℕ) → m < n → compare m n ≡ Ordering.lt
compare_less zero zero h = absurd (omega arith)
compare_less zero (suc n) h = compare.zero-suc n
compare_less (suc m) zero h = absurd (omega arith)
compare_less (suc m) (suc n) h = compare.suc-suc m n ∙ compare_less m n (omega arith)

compare_self : (n : ℕ) → compare n n ≡ Ordering.eq
compare_self zero = compare.zero-zero
compare_self (suc n) = compare.suc-suc n n ∙ compare_self n

compare_greater : (m n : ℕ) → n < m → compare m n ≡ Ordering.gt
compare_greater zero n h = absurd (omega arith)
compare_greater (suc m) zero h = compare.suc-zero m
compare_greater (suc m) (suc n) h = compare.suc-suc m n ∙ compare_greater m n (omega arith)

pub ordering_order : (m n : ℕ) → ordering (order m n) ≡ compare m n
ordering_order m n =
    orders m n
    (λ h e. rw e (sym (compare_less m n h)))
    (λ h e. rw e (sym (rw h (compare_self n))))
    (λ h e. rw e (sym (compare_greater m n h)))

-- the complements of two numbers stand the other way round
order_complement : (p m n : ℕ) → m < p → n < p → order (p - 1 - m) (p - 1 - n) ≡ order n m
order_complement p m n hm hn =
    orders n m
    (λ h e. order_less (p - 1 - m) (p - 1 - n) (omega arith) ∙ sym e)
    (λ h e. order_equal (p - 1 - m) (p - 1 - n) (omega arith) ∙ sym e)
    (λ h e. order_greater (p - 1 - m) (p - 1 - n) (omega arith) ∙ sym e)

-- two digits: the high one decides, and then the low one
more : (p x y m n : ℕ) → x < y → m < p → x * p + m < y * p + n
more p x y m n h k =
    let q : suc x * p ≤ y * p = mul-le-mul_right p h in
    omega (arith, suc-mul x p)

order_digits : (p x y m n : ℕ) → m < p → n < p → order (x * p + m) (y * p + n) ≡ then_by (order x y) (order m n)
unfolding then_by
order_digits p x y m n hm hn =
    orders x y
    (λ h e. rw e (order_less _ _ (more p x y m n h hm)))
    (λ h e. let q : x * p ≡ y * p = ap (λ (k : ℕ). k * p) h in rw e (level (x * p) (y * p) m n q))
    (λ h e. rw e (order_greater _ _ (more p y x n m h hn)))
  where
    level : (a b m n : ℕ) → a ≡ b → order (a + m) (b + n) ≡ order m n
    level a b m n q =
        orders m n
        (λ h e. order_less (a + m) (b + n) (omega arith) ∙ sym e)
        (λ h e. order_equal (a + m) (b + n) (omega arith) ∙ sym e)
        (λ h e. order_greater (a + m) (b + n) (omega arith) ∙ sym e)

-- ---- one answer after the other

pub then_assoc : (o p q : Order) → then_by (then_by o p) q ≡ then_by o (then_by p q)
unfolding then_by
then_assoc Less p q = refl
then_assoc Equal p q = refl
then_assoc Greater p q = refl

pub then_equal : (o : Order) → then_by o Equal ≡ o
unfolding then_by
then_equal Less = refl
then_equal Equal = refl
then_equal Greater = refl

-- an answer that decides
pub then_decided : (o p : Order) → is_equal o ≡ false → then_by o p ≡ o
unfolding then_by
then_decided Less p h = refl
then_decided Equal p h = cc
then_decided Greater p h = refl

pub is_equal_true : (o : Order) → is_equal o ≡ true → o ≡ Equal
is_equal_true Less h = cc
is_equal_true Equal h = refl
is_equal_true Greater h = cc

pub is_less_true : (o : Order) → is_less o ≡ true → o ≡ Less
is_less_true Less h = refl
is_less_true Equal h = cc
is_less_true Greater h = cc

-- ---- a lawful order of byte strings

pub lex_self : (a : List ℕ) → lex a a ≡ Equal
unfolding lex then_by
lex_self [] = refl
lex_self (x ∷ a) = rw (order_equal x x refl) (lex_self a)

-- only the same strings are Equal
pub lex_same : (a b : List ℕ) → lex a b ≡ Equal → a ≡ b
unfolding lex then_by
lex_same [] [] h = refl
lex_same [] (y ∷ b) h = cc
lex_same (x ∷ a) [] h = cc
lex_same (x ∷ a) (y ∷ b) h =
    orders x y (λ l e. cc (rw e at h)) (λ l e. let t : a ≡ b = lex_same a b (rw e at h) in cc) (λ l e. cc (rw e at h))

pub same_lex : (a b : List ℕ) → a ≡ b → lex a b ≡ Equal
same_lex a b e = rw e (lex_self b)

-- what a test for the same strings says
pub same_true : (a b : List ℕ) → is_equal (lex a b) ≡ true → a ≡ b
same_true a b h = lex_same a b (is_equal_true (lex a b) h)

pub lex_turned : (a b : List ℕ) → lex b a ≡ turned (lex a b)
unfolding lex then_by turned
lex_turned [] [] = refl
lex_turned [] (y ∷ b) = refl
lex_turned (x ∷ a) [] = refl
lex_turned (x ∷ a) (y ∷ b) =
    orders x y
    (λ h e. rw (e, order_greater y x h))
    (λ h e. rw (e, order_equal y x (sym h)) (lex_turned a b))
    (λ h e. rw (e, order_less y x h))

pub lex_less_turned : (a b : List ℕ) → lex a b ≡ Less → lex b a ≡ Greater
unfolding turned
lex_less_turned a b h = lex_turned a b ∙ ap turned h

pub lex_greater_turned : (a b : List ℕ) → lex a b ≡ Greater → lex b a ≡ Less
unfolding turned
lex_greater_turned a b h = lex_turned a b ∙ ap turned h

pub lex_trans : (a b c : List ℕ) → lex a b ≡ Less → lex b c ≡ Less → lex a c ≡ Less
unfolding lex then_by
lex_trans [] [] c p q = cc
lex_trans [] (y ∷ b) [] p q = cc
lex_trans [] (y ∷ b) (z ∷ c) p q = refl
lex_trans (x ∷ a) [] c p q = cc
lex_trans (x ∷ a) (y ∷ b) [] p q = cc
lex_trans (x ∷ a) (y ∷ b) (z ∷ c) p q =
    orders x y
    (λ h e. orders y z (λ k f. rw (order_less x z (omega arith))) (λ k f. rw (order_less x z (omega arith))) (λ k f. cc (rw f at q)))
    (λ h e. orders y z (λ k f. rw (order_less x z (omega arith))) (λ k f. rw (order_equal x z (h ∙ k)) (lex_trans a b c (rw e at p) (rw f at q))) (λ k f. cc (rw f at q)))
    (λ h e. cc (rw e at p))

-- ---- fields, one after the other

pub lex_append : (a b c d : List ℕ) → length a ≡ length c → lex (a ++ b) (c ++ d) ≡ then_by (lex a c) (lex b d)
unfolding lex then_by
lex_append [] b [] d e = refl
lex_append [] b (z ∷ c) d e = absurd (omega arith)
lex_append (x ∷ a) b [] d e = absurd (omega arith)
lex_append (x ∷ a) b (z ∷ c) d e = ap (then_by (order x z)) (lex_append a b c d (omega arith)) ∙ sym (then_assoc (order x z) (lex a c) (lex b d))

-- a field that both have in front changes nothing
pub lex_front : (a b d : List ℕ) → lex (a ++ b) (a ++ d) ≡ lex b d
unfolding then_by
lex_front a b d = lex_append a b a d refl ∙ rw (lex_self a)

-- two fields at places
pub lex_two : (a b : List ℕ) (at bt j k : ℕ) → at + (j + k) ≤ length a → bt + (j + k) ≤ length b
    → lex (part at (j + k) a) (part bt (j + k) b) ≡ then_by (lex (part at j a) (part bt j b)) (lex (part (at + j) k a) (part (bt + j) k b))
lex_two a b at bt j k ha hb =
    ap₂ lex (P.part_add at j k a) (P.part_add bt j k b)
    ∙ lex_append (part at j a) (part (at + j) k a) (part bt j b) (part (bt + j) k b) (P.length_part at j a (omega arith) ∙ sym (P.length_part bt j b (omega arith)))

-- ---- bytes and the numbers that they spell

lex_be : (xs ys : List ℕ) → length xs ≡ length ys → AreBytes xs → AreBytes ys → lex xs ys ≡ order (be xs) (be ys)
unfolding lex be
lex_be [] [] e p q = sym (order_equal 0 0 refl)
lex_be [] (y ∷ ys) e p q = absurd (omega arith)
lex_be (x ∷ xs) [] e p q = absurd (omega arith)
lex_be (x ∷ xs) (y ∷ ys) e p q =
    let l : length ys ≡ length xs = omega arith in
    let by' : be ys < 256 ^ length xs = subst (λ (n : ℕ). be ys < 256 ^ n) l (N.be_lt ys (λ i. q (suc i))) in
    ap (then_by (order x y)) (lex_be xs ys (sym l) (λ i. p (suc i)) (λ i. q (suc i)))
    ∙ sym (order_digits (256 ^ length xs) x y (be xs) (be ys) (N.be_lt xs (λ i. p (suc i))) by')
    ∙ ap (λ (n : ℕ). order (x * 256 ^ length xs + be xs) (y * 256 ^ n + be ys)) (sym l)

-- the same of two places
pub lex_be_at : (a b : List ℕ) (at bt k : ℕ) → AreBytes a → AreBytes b → at + k ≤ length a → bt + k ≤ length b
    → lex (part at k a) (part bt k b) ≡ order (be (part at k a)) (be (part bt k b))
lex_be_at a b at bt k p q ha hb =
    lex_be (part at k a) (part bt k b) (P.length_part at k a ha ∙ sym (P.length_part bt k b hb)) (P.bytes_part at k a p) (P.bytes_part bt k b q)

-- numbers in rising order
pub lex_bytes_of : (k m n : ℕ) → m < 256 ^ k → n < 256 ^ k → lex (bytes_of k m) (bytes_of k n) ≡ order m n
lex_bytes_of k m n p q =
    lex_be (bytes_of k m) (bytes_of k n) (N.length_bytes_of k m ∙ sym (N.length_bytes_of k n)) (N.bytes_bytes_of k m) (N.bytes_bytes_of k n)
    ∙ ap₂ order (N.be_bytes_of k m p) (N.be_bytes_of k n q)

-- numbers in falling order
pub lex_down : (k m n : ℕ) → m < 256 ^ k → n < 256 ^ k → lex (down k m) (down k n) ≡ order n m
lex_down k m n p q =
    lex_be (down k m) (down k n) (N.length_down k m ∙ sym (N.length_down k n)) (N.bytes_down k m) (N.bytes_down k n)
    ∙ ap₂ order (N.be_down k m) (N.be_down k n)
    ∙ order_complement (256 ^ k) m n p q
