-- The laws of an order of keys, and that document 01's orders have them. Numbers and bytes have them since the orders of the crate octets do, which
-- they agree with; a pair has them where its parts do, since the second part counts only where the first parts are equal. Assumes nothing.
use Rattle.std.specs.Prelude.{◌≡◌, ℕ, zero, suc, ◌<◌, min, ◌⊎◌, List, [], ◌∷◌, length, take}
use Prim.Native.Nat.compare
use Prim.Native.Nat.{compare, Ordering}
use mathlib.Core.Path.{refl, sym, ap, ap₂, ◌∙◌}
use mathlib.Core.Logic.{inl, inr, ⊎_elim}
use native.Mathlib.Omega.{arith}
use lib.ListN.{length-take}
use lib.Seq.{take-take}
use Rattle.octets.specs.Bytes.{part}
use Rattle.octets.specs.Order.{order, then_by, lex, ordering}
use Rattle.std.specs.Ordering as std
use Rattle.std.proofs.Common.{Ordering as Order, Less, Equal, Greater, nat_cmp, rules}
use Rattle.octets.proofs.Orders.{ordering_order, order_less, order_equal, less_order, equal_order, greater_order, lex_self, lex_same, lex_greater_turned, lex_trans}
use Rattle.octets.proofs.Places.{part_front}
use Rattle.basics.specs.Orders.{next, up, down, bytes, both, log_lsn, log_page_lsn, sid_page}

-- what a table asks of the order of its keys
pub record Lawful {K : Type 0} (order : K → K → Ordering) : Type 0 where
  pub same : (a b : K) → order a b ≡ Ordering.eq → a ≡ b
  pub self : (a : K) → order a a ≡ Ordering.eq
  pub turn : (a b : K) → order a b ≡ Ordering.gt → order b a ≡ Ordering.lt
  pub trans : (a b c : K) → order a b ≡ Ordering.lt → order b c ≡ Ordering.lt → order a c ≡ Ordering.lt

-- ---- three answers

pub lt≢eq : Ordering.lt ≡ Ordering.eq → ⊥
lt≢eq e = let z : ◌≡◌ {A = ℕ} 0 1 = cc in omega arith

pub gt≢eq : Ordering.gt ≡ Ordering.eq → ⊥
gt≢eq e = let z : ◌≡◌ {A = ℕ} 0 1 = cc in omega arith

pub gt≢lt : Ordering.gt ≡ Ordering.lt → ⊥
gt≢lt e = let z : ◌≡◌ {A = ℕ} 0 1 = cc in omega arith

-- the answers of the code and of the library determine each other, so a contract on `ordering r` determines r
pub ordering_same : (o p : Order) → ordering o ≡ ordering p → o ≡ p
ordering_same Less Less e = refl
ordering_same Less Equal e = absurd (lt≢eq e)
ordering_same Less Greater e = absurd (gt≢lt (sym e))
ordering_same Equal Less e = absurd (lt≢eq (sym e))
ordering_same Equal Equal e = refl
ordering_same Equal Greater e = absurd (gt≢eq (sym e))
ordering_same Greater Less e = absurd (gt≢lt e)
ordering_same Greater Equal e = absurd (gt≢eq e)
ordering_same Greater Greater e = refl

-- one field after the other
pub ordering_then : (o p : Order) → ordering (then_by o p) ≡ next (ordering o) (ordering p)
unfolding then_by
ordering_then Less p = refl
ordering_then Equal p = refl
ordering_then Greater p = refl

next_assoc : (o p q : Ordering) → next (next o p) q ≡ next o (next p q)
next_assoc Ordering.lt p q = refl
next_assoc Ordering.eq p q = refl
next_assoc Ordering.gt p q = refl

-- ---- numbers and bytes, by the orders of the crate octets

-- an order that agrees with one of the code
module _ {K : Type 0} (f : K → K → Order) (g : K → K → Ordering) (agree : (a b : K) → ordering (f a b) ≡ g a b) where
  told : (a b : K) (o : Order) → g a b ≡ ordering o → f a b ≡ o
  told a b o e = ordering_same (f a b) o (agree a b ∙ e)

  tell : (a b : K) (o : Order) → f a b ≡ o → g a b ≡ ordering o
  tell a b o e = sym (agree a b) ∙ ap ordering e

  lawful : ((a b : K) → f a b ≡ Equal → a ≡ b) → ((a : K) → f a a ≡ Equal) → ((a b : K) → f a b ≡ Greater → f b a ≡ Less)
      → ((a b c : K) → f a b ≡ Less → f b c ≡ Less → f a c ≡ Less) → Lawful g
  lawful same self turn trans = record {
    same = λ a b e. same a b (told a b Equal e);
    self = λ a. tell a a Equal (self a);
    turn = λ a b e. tell b a Less (turn a b (told a b Greater e));
    trans = λ a b c p q. tell a c Less (trans a b c (told a b Less p) (told b c Less q));
  }

pub up_lt : (a b : ℕ) → a < b → up a b ≡ Ordering.lt
up_lt a b h = tell order up ordering_order a b Less (order_less a b h)

pub lt_up : (a b : ℕ) → up a b ≡ Ordering.lt → a < b
lt_up a b e = less_order a b (told order up ordering_order a b Less e)

pub up_lawful : Lawful up
up_lawful =
    lawful
    order
    up
    ordering_order
    equal_order
    (λ a. order_equal a a refl)
    (λ a b e. order_less b a (greater_order a b e))
    (λ a b c p q. let h : a < b = less_order a b p in let k : b < c = less_order b c q in order_less a c (omega arith))

-- byte strings stand as octets' `lex` says
pub ordering_lex : (a b : List ℕ) → ordering (lex a b) ≡ bytes a b
unfolding lex bytes
ordering_lex [] [] = refl
ordering_lex [] (y ∷ ys) = refl
ordering_lex (x ∷ xs) [] = refl
ordering_lex (x ∷ xs) (y ∷ ys) = ordering_then (order x y) (lex xs ys) ∙ ap₂ next (ordering_order x y) (ordering_lex xs ys)

pub bytes_lawful : Lawful bytes
bytes_lawful = lawful lex bytes ordering_lex lex_same lex_self lex_greater_turned lex_trans

-- ---- down, and by a first field and then a second

down_lawful : Lawful down
down_lawful = record {
  same = λ a b e. sym (up_lawful.same b a e);
  self = up_lawful.self;
  turn = λ a b e. up_lawful.turn b a e;
  trans = λ a b c p q. up_lawful.trans c b a q p;
}

-- what the parts of a joined comparison say
next_eq : (o q : Ordering) → next o q ≡ Ordering.eq → (o ≡ Ordering.eq) × (q ≡ Ordering.eq)
next_eq Ordering.lt q e = absurd (lt≢eq e)
next_eq Ordering.eq q e = (refl, e)
next_eq Ordering.gt q e = absurd (gt≢eq e)

next_lt : (o q : Ordering) → next o q ≡ Ordering.lt → (o ≡ Ordering.lt) ⊎ ((o ≡ Ordering.eq) × (q ≡ Ordering.lt))
next_lt Ordering.lt q e = inl e
next_lt Ordering.eq q e = inr (refl, e)
next_lt Ordering.gt q e = absurd (gt≢lt e)

next_gt : (o q : Ordering) → next o q ≡ Ordering.gt → (o ≡ Ordering.gt) ⊎ ((o ≡ Ordering.eq) × (q ≡ Ordering.gt))
next_gt Ordering.lt q e = absurd (gt≢lt (sym e))
next_gt Ordering.eq q e = inr (refl, e)
next_gt Ordering.gt q e = inl e

decides : {o : Ordering} (q : Ordering) → o ≡ Ordering.lt → next o q ≡ Ordering.lt
decides q e = rw e

ties : {o q r : Ordering} → o ≡ Ordering.eq → q ≡ r → next o q ≡ r
ties e h = rw e h

pub equal : {K : Type 0} {order : K → K → Ordering} → Lawful order → {a b : K} → a ≡ b → order a b ≡ Ordering.eq
equal F {a} {b} e = rw e (F.self b)

-- a first field that is lawful, and what follows it
module _ {A : Type 0} (f : A → A → Ordering) (F : Lawful f) where
  turn_next : (a b : A) (q r : Ordering) → (q ≡ Ordering.gt → r ≡ Ordering.lt) → next (f a b) q ≡ Ordering.gt → next (f b a) r ≡ Ordering.lt
  turn_next a b q r step e =
      ⊎_elim (λ h. decides r (F.turn a b h)) (λ h. ties (equal F (sym (F.same a b h.0))) (step h.1)) (next_gt (f a b) q e)

  trans_next : (a b c : A) (q r s : Ordering) → (q ≡ Ordering.lt → r ≡ Ordering.lt → s ≡ Ordering.lt)
      → next (f a b) q ≡ Ordering.lt → next (f b c) r ≡ Ordering.lt → next (f a c) s ≡ Ordering.lt
  trans_next a b c q r s step u v = go (next_lt (f a b) q u) (next_lt (f b c) r v)
    where
      go : (f a b ≡ Ordering.lt) ⊎ ((f a b ≡ Ordering.eq) × (q ≡ Ordering.lt)) → (f b c ≡ Ordering.lt) ⊎ ((f b c ≡ Ordering.eq) × (r ≡ Ordering.lt)) → next (f a c) s ≡ Ordering.lt
      go (inl x) (inl y) = decides s (F.trans a b c x y)
      go (inl x) (inr y) = decides s (rw (F.same b c y.0) at x)
      go (inr x) (inl y) = decides {o = f a c} s (rw (F.same a b x.0) y)
      go (inr x) (inr y) = ties (equal F (F.same a b x.0 ∙ F.same b c y.0)) (step x.1 y.1)

both_lawful : {A B : Type 0} {f : A → A → Ordering} {g : B → B → Ordering} → Lawful f → Lawful g → Lawful (both f g)
both_lawful {f} {g} F G = record {
  same = λ a b e. let h = next_eq (f a.0 b.0) (g a.1 b.1) e in λ i. (F.same a.0 b.0 h.0 i, G.same a.1 b.1 h.1 i);
  self = λ a. ties (F.self a.0) (G.self a.1);
  turn = λ a b. turn_next f F a.0 b.0 (g a.1 b.1) (g b.1 a.1) (G.turn a.1 b.1);
  trans = λ a b c. trans_next f F a.0 b.0 c.0 (g a.1 b.1) (g b.1 c.1) (g a.1 c.1) (G.trans a.1 b.1 c.1);
}

-- ---- document 01's orders

pub log_lsn_lawful : Lawful log_lsn
log_lsn_lawful = both_lawful bytes_lawful down_lawful

pub log_page_lsn_lawful : Lawful log_page_lsn
log_page_lsn_lawful = both_lawful bytes_lawful (both_lawful up_lawful down_lawful)

pub sid_page_lawful : Lawful sid_page
sid_page_lawful = both_lawful bytes_lawful down_lawful

-- ---- byte strings and their fronts

-- as many bytes as both have decide, and then the lengths
bytes_cut : (xs ys : List ℕ) (k : ℕ) → k ≡ min (length xs) (length ys) → next (bytes (take k xs) (take k ys)) (up (length xs) (length ys)) ≡ bytes xs ys
unfolding bytes
bytes_cut [] [] zero e = compare.zero-zero
bytes_cut [] (y ∷ ys) zero e = compare.zero-suc (length ys)
bytes_cut (x ∷ xs) [] zero e = compare.suc-zero (length xs)
bytes_cut (x ∷ xs) (y ∷ ys) zero e = absurd (omega arith)
bytes_cut [] ys (suc k) e = absurd (omega arith)
bytes_cut (x ∷ xs) [] (suc k) e = absurd (omega arith)
bytes_cut (x ∷ xs) (y ∷ ys) (suc k) e =
    next_assoc (compare x y) (bytes (take k xs) (take k ys)) (compare (suc (length xs)) (suc (length ys)))
    ∙ ap (next (compare x y)) (ap (next (bytes (take k xs) (take k ys))) (compare.suc-suc (length xs) (length ys)) ∙ bytes_cut xs ys k (omega arith))

-- the same of the fronts of two arrays of l bytes
pub fronts : (xs ys : List ℕ) (l i j m n k : ℕ) → length xs ≡ l → length ys ≡ l → m ≡ min i l → n ≡ min j l → k ≡ min m n
    → next (bytes (part 0 k xs) (part 0 k ys)) (up m n) ≡ bytes (take i xs) (take j ys)
fronts xs ys l i j m n k p q f g e =
    let u : length (take i xs) ≡ m = omega (arith, length-take i xs) in
    let v : length (take j ys) ≡ n = omega (arith, length-take j ys) in
    let a : part 0 k xs ≡ take k (take i xs) = part_front k xs ∙ sym (take-take k i xs (omega arith)) in
    let b : part 0 k ys ≡ take k (take j ys) = part_front k ys ∙ sym (take-take k j ys (omega arith)) in
    rw (a, b, ← u, ← v) (bytes_cut (take i xs) (take j ys) k (omega arith))

-- std's comparison of numbers says what the library's does
pub ordering_nat_cmp : (m n : ℕ) → ordering (nat_cmp m n) ≡ up m n
ordering_nat_cmp m n = search rules

-- and its first answer decides as the first field does
pub ordering_of_then : (o p : Order) → ordering (std.ordering_then o p) ≡ next (ordering o) (ordering p)
ordering_of_then Less p = refl
ordering_of_then Equal p = refl
ordering_of_then Greater p = refl
