-- The laws of `cmp` and `rises`: the order of keys is lawful, and in rising records each key is below every later one.
use mathlib.Core.Path.{◌≡◌, refl, ap, ◌∙◌}
use mathlib.Core.Bool.{Bool, true, false, ◌&&◌}
use mathlib.Core.List.{List, [], ◌∷◌, ◌++◌}
use Prim.Native.Nat.{ℕ, zero, suc, ◌<◌}
use native.Mathlib.Nat.{le_of_suc-le-suc, not-suc-le-zero}
use native.Mathlib.Omega.{arith}
use native.Mathlib.Decide.{dec_lt}
use lib.ListN.{length, take, drop, get_or, take-append-drop}
use Rattle.octets.specs.Bytes.{part}
use Rattle.octets.specs.Order.{lex, turned, is_less}
use Rattle.std.proofs.Common.{Ordering, Less, Equal, Greater}
use Rattle.octets.proofs.Orders as O
use Rattle.table.specs.Records.{cmp, rises}

-- ---- two keys

module _ (k : ℕ) (a b : List ℕ) where
  pub cmp_self : cmp k a a ≡ Equal
  cmp_self = O.lex_self (part 0 k a)

  pub less_turned : cmp k a b ≡ Less → cmp k b a ≡ Greater
  less_turned h = O.lex_less_turned (part 0 k a) (part 0 k b) h

  pub greater_turned : cmp k a b ≡ Greater → cmp k b a ≡ Less
  greater_turned h = O.lex_greater_turned (part 0 k a) (part 0 k b) h

  pub equal_turned : cmp k a b ≡ Equal → cmp k b a ≡ Equal
  unfolding turned
  equal_turned h = O.lex_turned (part 0 k a) (part 0 k b) ∙ ap turned h

  -- a key that stands for another
  pub cmp_left : cmp k a b ≡ Equal → (c : List ℕ) → cmp k a c ≡ cmp k b c
  cmp_left h c = ap (λ (l : List ℕ). lex l (part 0 k c)) (O.lex_same (part 0 k a) (part 0 k b) h)

  pub cmp_right : cmp k a b ≡ Equal → (c : List ℕ) → cmp k c a ≡ cmp k c b
  cmp_right h c = ap (λ (l : List ℕ). lex (part 0 k c) l) (O.lex_same (part 0 k a) (part 0 k b) h)

  pub cmp_trans : (c : List ℕ) → cmp k a b ≡ Less → cmp k b c ≡ Less → cmp k a c ≡ Less
  cmp_trans c p q = O.lex_trans (part 0 k a) (part 0 k b) (part 0 k c) p q

-- an answer that is Equal, or is not
pub equal? : {P : Type 0} (o : Ordering) → (o ≡ Equal → P) → ((o ≡ Equal → ⊥) → P) → P
equal? Less f g = g (λ e. let z : ◌≡◌ {A = ℕ} 0 1 = cc in omega arith)
equal? Equal f g = f refl
equal? Greater f g = g (λ e. let z : ◌≡◌ {A = ℕ} 0 1 = cc in omega arith)

pub less_not_equal : (o : Ordering) → o ≡ Less → o ≡ Equal → ⊥
less_not_equal o p q = let z : ◌≡◌ {A = ℕ} 0 1 = cc in omega arith

-- ---- two tests

pub both_true : (a b : Bool) → (a && b) ≡ true → (a ≡ true) × (b ≡ true)
both_true true b h = (refl, h)
both_true false b h = (h, cc)

-- ---- records that rise

pub rises_head : (k : ℕ) (x y : List ℕ) (rs : List (List ℕ)) → rises k (x ∷ y ∷ rs) ≡ true → cmp k x y ≡ Less
rises_head k x y rs h = O.is_less_true (cmp k x y) (both_true (is_less (cmp k x y)) (rises k (y ∷ rs)) h).0

pub rises_tail : (k : ℕ) (x : List ℕ) (rs : List (List ℕ)) → rises k (x ∷ rs) ≡ true → rises k rs ≡ true
rises_tail k x [] h = refl
rises_tail k x (y ∷ rs) h = (both_true (is_less (cmp k x y)) (rises k (y ∷ rs)) h).1

pub rises_cons : (k : ℕ) (x y : List ℕ) (rs : List (List ℕ)) → cmp k x y ≡ Less → rises k (y ∷ rs) ≡ true → rises k (x ∷ y ∷ rs) ≡ true
rises_cons k x y rs l h = rw (l, h)

-- with the second record left out
pub rises_skip : (k : ℕ) (x y : List ℕ) (rs : List (List ℕ)) → rises k (x ∷ y ∷ rs) ≡ true → rises k (x ∷ rs) ≡ true
rises_skip k x y [] h = refl
rises_skip k x y (z ∷ rs) h =
    let g = rises_tail k x (y ∷ z ∷ rs) h in
    rises_cons k x z rs (cmp_trans k x y z (rises_head k x y (z ∷ rs) h) (rises_head k y z rs g)) (rises_tail k y (z ∷ rs) g)

-- with another record of the same key in front
pub rises_like : (k : ℕ) (r x : List ℕ) (rs : List (List ℕ)) → cmp k r x ≡ Equal → rises k (x ∷ rs) ≡ true → rises k (r ∷ rs) ≡ true
rises_like k r x [] e h = refl
rises_like k r x (z ∷ rs) e h = rises_cons k r z rs (cmp_left k r x e z ∙ rises_head k x z rs h) (rises_tail k x (z ∷ rs) h)

-- the first key is below every later one
pub head_below : (k : ℕ) (x : List ℕ) (rs : List (List ℕ)) (j : ℕ) → rises k (x ∷ rs) ≡ true → j < length rs → cmp k x (get_or rs j []) ≡ Less
head_below k x [] j h l = absurd (not-suc-le-zero l)
head_below k x (y ∷ rs) zero h l = rises_head k x y rs h
head_below k x (y ∷ rs) (suc j) h l = head_below k x rs j (rises_skip k x y rs h) (le_of_suc-le-suc l)

-- each key is below every later one
pub rises_at : (k : ℕ) (rs : List (List ℕ)) (i j : ℕ) → rises k rs ≡ true → i < j → j < length rs → cmp k (get_or rs i []) (get_or rs j []) ≡ Less
rises_at k [] i j h l m = absurd (not-suc-le-zero m)
rises_at k (x ∷ rs) i zero h l m = absurd (not-suc-le-zero l)
rises_at k (x ∷ rs) zero (suc j) h l m = head_below k x rs j h (le_of_suc-le-suc m)
rises_at k (x ∷ rs) (suc i) (suc j) h l m = rises_at k rs i j (rises_tail k x rs h) (le_of_suc-le-suc l) (le_of_suc-le-suc m)

-- a key is unique
pub unique : (k : ℕ) (rs : List (List ℕ)) (i j : ℕ) → rises k rs ≡ true → i < length rs → j < length rs → cmp k (get_or rs i []) (get_or rs j []) ≡ Equal → i ≡ j
unique k rs i j h li lj e = go (dec_lt i j) (dec_lt j i)
  where
    go : Dec (i < j) → Dec (j < i) → i ≡ j
    go (yes l) d = cc (rises_at k rs i j h l lj)
    go (no l) (yes m) = cc (rises_at k rs j i h m li, equal_turned k (get_or rs i []) (get_or rs j []) e)
    go (no l) (no m) = omega arith

-- the front of records that rise
pub rises_front : (k : ℕ) (a l : List (List ℕ)) → rises k (a ++ l) ≡ true → rises k a ≡ true
rises_front k [] l h = refl
rises_front k (x ∷ []) l h = refl
rises_front k (x ∷ y ∷ a) l h = rises_cons k x y a (rises_head k x y (a ++ l) h) (rises_front k (y ∷ a) l (rises_tail k x (y ∷ a ++ l) h))

pub rises_take : (k i : ℕ) (l : List (List ℕ)) → rises k l ≡ true → rises k (take i l) ≡ true
rises_take k i l h = rises_front k (take i l) (drop i l) (rw (take-append-drop i l) h)
