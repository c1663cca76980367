-- The law of room, for any lawful key order: the records after a store are those held plus the distinct new keys. One record adds its key where it is
-- not held; several are counted one after the other, each against what is held and what is still to come, and the order of counting does not matter.
use Rattle.std.proofs.Common.{◌≡◌, ℕ, ◌+◌, min, Bool, true, false, cond, ◌||◌, leb, List, [], ◌∷◌, ◌++◌, length, sym, refl, ap, ◌∙◌, arith}
use mathlib.Core.Option.{some}
use Prim.Native.Nat.{Ordering}
use lib.Dec.{compare_is_eq}
use Rattle.basics.specs.Orders.{is_lt}
use Rattle.rules.specs.Lists.{all, any, is_some}
use Rattle.rules.specs.Tables.{Table, fits, get, put, placed, put_all, in_order, store, store_all}
use Rattle.rules.specs.Room.{held, lacks, news, has_room}
use Rattle.basics.proofs.OrderLaws.{Lawful}
use Rattle.rules.proofs.TableLaws.{and_fst, and_snd, lt_of, eq_of, any_append, first_any, in_order_put}

-- two keys added, in either order: same says whether they are one key
swap : (same a b : Bool) → (same ≡ true → a ≡ b) → cond (same || b) 0 1 + cond a 0 1 ≡ cond b 0 1 + cond (same || a) 0 1
swap true a b h = rw (h refl) (omega arith)
swap false a b h = refl

module _ {R K : Type 0} (key : R → K) (order : K → K → Ordering) where
  held_cons : (k : K) (x : R) (l : List R) → held key order k (x ∷ l) ≡ (compare_is_eq (order k (key x)) || held key order k l)
  unfolding held any
  held_cons k x l = refl

  pub held_nil : (k : K) → held key order k [] ≡ false
  unfolding held any
  held_nil k = refl

  pub held_append : (k : K) (a l : List R) → held key order k (a ++ l) ≡ (held key order k a || held key order k l)
  unfolding held
  held_append k a l = any_append (λ r. compare_is_eq (order k (key r))) a l

  module _ (O : Lawful order) where
    or_swap : (a b c : Bool) → (a || (b || c)) ≡ (b || (a || c))
    or_swap true true c = refl
    or_swap true false c = refl
    or_swap false true c = refl
    or_swap false false c = refl

    -- a put adds its key
    held_put : (k : K) (r : R) (l : List R) → held key order k (put key order r l) ≡ held key order k (r ∷ l)
    unfolding put
    held_put k r [] = refl
    held_put k r (x ∷ l) = go (order (key r) (key x)) refl (held_put k r l)
      where
        like : order (key r) (key x) ≡ Ordering.eq → compare_is_eq (order k (key r)) ≡ compare_is_eq (order k (key x))
        like e = ap (λ (c : K). compare_is_eq (order k c)) (O.same (key r) (key x) e)

        twice : (a b : Bool) → (a || b) ≡ (a || (a || b))
        twice true b = refl
        twice false b = refl

        go : (o : Ordering) → order (key r) (key x) ≡ o → held key order k (put key order r l) ≡ held key order k (r ∷ l) → held key order k (placed o r x l (put key order r l)) ≡ held key order k (r ∷ x ∷ l)
        go Ordering.lt e ih = refl
        go Ordering.eq e ih = held_cons k r l ∙ twice (compare_is_eq (order k (key r))) (held key order k l) ∙ rw (held_cons k r (x ∷ l), held_cons k x l, like e)
        go Ordering.gt e ih = held_cons k x (put key order r l) ∙ rw (ih, held_cons k r l, held_cons k r (x ∷ l), held_cons k x l) (or_swap (compare_is_eq (order k (key x))) (compare_is_eq (order k (key r))) (held key order k l))

    -- a key below the first record's is not held
    none_below : (k : K) (x : R) (l : List R) → order k (key x) ≡ Ordering.lt → all (λ y. is_lt (order (key x) (key y))) l ≡ true → held key order k l ≡ false
    unfolding all
    none_below k x [] e h = held_nil k
    none_below k x (y ∷ l) e h =
        let a : order (key x) (key y) ≡ Ordering.lt = lt_of (order (key x) (key y)) (and_fst (is_lt (order (key x) (key y))) (all (λ z. is_lt (order (key x) (key z))) l) h) in
        let b : order k (key y) ≡ Ordering.lt = O.trans k (key x) (key y) e a in
        held_cons k y l ∙ rw b (none_below k x l e (and_snd (is_lt (order (key x) (key y))) (all (λ z. is_lt (order (key x) (key z))) l) h))

    length_put : (r : R) (l : List R) → in_order key order l ≡ true → length (put key order r l) ≡ length l + lacks key order (key r) l
    unfolding put in_order
    length_put r [] h = rw (held_nil (key r))
    length_put r (x ∷ l) h =
        let below = and_fst (all (λ y. is_lt (order (key x) (key y))) l) (in_order key order l) h in
        go (order (key r) (key x)) refl below (length_put r l (and_snd (all (λ y. is_lt (order (key x) (key y))) l) (in_order key order l) h))
      where
        go : (o : Ordering) → order (key r) (key x) ≡ o → all (λ y. is_lt (order (key x) (key y))) l ≡ true → length (put key order r l) ≡ length l + lacks key order (key r) l
            → length (placed o r x l (put key order r l)) ≡ length (x ∷ l) + lacks key order (key r) (x ∷ l)
        go Ordering.lt e b ih = rw (held_cons (key r) x l, e, none_below (key r) x l e b) (omega arith)
        go Ordering.eq e b ih = rw (held_cons (key r) x l, e) (omega arith)
        go Ordering.gt e b ih = rw (held_cons (key r) x l, e) (omega arith)

    held_like : (k c : K) (l : List R) → order k c ≡ Ordering.eq → held key order k l ≡ held key order c l
    held_like k c l e = ap (λ (d : K). held key order d l) (O.same k c e)

    turned : (a b : K) → compare_is_eq (order a b) ≡ compare_is_eq (order b a)
    turned a b = go (order a b) refl (order b a) refl
      where
        go : (o : Ordering) → order a b ≡ o → (q : Ordering) → order b a ≡ q → compare_is_eq o ≡ compare_is_eq q
        go Ordering.eq e Ordering.eq f = refl
        go Ordering.eq e Ordering.lt f = sym (ap compare_is_eq (sym f ∙ ap (λ (c : K). order c a) (sym (O.same a b e)) ∙ O.self a))
        go Ordering.eq e Ordering.gt f = sym (ap compare_is_eq (sym f ∙ ap (λ (c : K). order c a) (sym (O.same a b e)) ∙ O.self a))
        go Ordering.lt e Ordering.eq f = ap compare_is_eq (sym e ∙ ap (λ (c : K). order a c) (O.same b a f) ∙ O.self a)
        go Ordering.gt e Ordering.eq f = ap compare_is_eq (sym e ∙ ap (λ (c : K). order a c) (O.same b a f) ∙ O.self a)
        go Ordering.lt e Ordering.lt f = refl
        go Ordering.lt e Ordering.gt f = refl
        go Ordering.gt e Ordering.lt f = refl
        go Ordering.gt e Ordering.gt f = refl

    exchange : (r s : R) (l : List R) → lacks key order (key s) (r ∷ l) + lacks key order (key r) l ≡ lacks key order (key s) l + lacks key order (key r) (s ∷ l)
    exchange r s l =
        rw (held_cons (key s) r l, held_cons (key r) s l, turned (key s) (key r))
        (swap (compare_is_eq (order (key r) (key s))) (held key order (key r) l) (held key order (key s) l) (λ e. held_like (key r) (key s) l (eq_of (order (key r) (key s)) e)))

    held_mid : (k : K) (r : R) (a l : List R) → held key order k (a ++ r ∷ l) ≡ held key order k (r ∷ (a ++ l))
    held_mid k r a l =
        held_append k a (r ∷ l) ∙ rw (held_cons k r l, held_cons k r (a ++ l), held_append k a l) (or_swap (held key order k a) (compare_is_eq (order k (key r))) (held key order k l))

    news_same : (rs l m : List R) → ((k : K) → held key order k l ≡ held key order k m) → news key order rs l ≡ news key order rs m
    unfolding news
    news_same [] l m h = refl
    news_same (r ∷ rs) l m h = rw (held_append (key r) rs l, held_append (key r) rs m, h (key r), news_same rs l m h)

    news_first : (r : R) (rs l : List R) → lacks key order (key r) l + news key order rs (r ∷ l) ≡ news key order (r ∷ rs) l
    unfolding news
    news_first r [] l = refl
    news_first r (s ∷ rs) l =
        let m : lacks key order (key s) (rs ++ r ∷ l) ≡ lacks key order (key s) (r ∷ (rs ++ l)) = rw (held_mid (key s) r rs l) in
        omega (arith, news_first r rs l, exchange r s (rs ++ l))

    -- the law of room
    pub length_put_all : (rs l : List R) → in_order key order l ≡ true → length (put_all key order rs l) ≡ length l + news key order rs l
    unfolding put_all news
    length_put_all [] l h = omega arith
    length_put_all (r ∷ rs) l h =
        omega (arith, length_put_all rs (put key order r l) (in_order_put key order O r l h), length_put r l h, news_same rs (put key order r l) (r ∷ l) (λ k. held_put k r l), news_first r rs l)

    -- the tables afterwards fit exactly if records held plus new keys do not exceed capacity
    pub fits_store_all : (rs : List R) (t : Table R) → in_order key order t.rows ≡ true → fits (store_all key order rs t) ≡ has_room key order t rs
    unfolding fits has_room
    fits_store_all rs t h = ap (λ (n : ℕ). leb n (min t.room 65535)) (length_put_all rs t.rows h)

    pub fits_store : (r : R) (t : Table R) → in_order key order t.rows ≡ true → fits (store key order r t) ≡ has_room key order t (r ∷ [])
    unfolding put_all
    fits_store r t h = fits_store_all (r ∷ []) t h

    held_get : (k : K) (l : List R) → held key order k l ≡ is_some (get key order k l)
    unfolding held get
    held_get k l = first_any (λ r. compare_is_eq (order k (key r))) l

    -- a record in place of one of its key needs no room
    pub fits_replace : (r x : R) (t : Table R) → in_order key order t.rows ≡ true → get key order (key r) t.rows ≡ some x → fits t ≡ true → fits (store key order r t) ≡ true
    unfolding fits
    fits_replace r x t h e f =
        let n : length (put key order r t.rows) ≡ length t.rows = length_put r t.rows h ∙ rw (held_get (key r) t.rows, e) (omega arith) in
        ap (λ (k : ℕ). leb k (min t.room 65535)) n ∙ f
