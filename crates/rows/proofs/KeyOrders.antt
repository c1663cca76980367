-- The order of a key's bytes is the order of the key, part by part: a field's bytes all have one length, so the first field decides, and the second where
-- the first are equal. A name that is padded with zeros stands as its bytes do, since its length decides where the zeros do not. A key in front of a
-- record's bytes decides how two records stand, and so gives the record's layout.
use Rattle.std.proofs.Common.{◌≡◌, ℕ, zero, suc, ◌+◌, ◌-◌, ◌^◌, ◌<◌, ◌≤◌, Bool, true, List, [], ◌∷◌, ◌++◌, length, replicate, sym, refl, ap, ◌∙◌, ap₂, append-nil, arith, length-append, take_at}
use Prim.Native.Nat.{Ordering}
use lib.ListN.{length-replicate}
use Rattle.octets.specs.Bytes.{bytes_of, down, part}
use Rattle.octets.specs.Order.{order, then_by, lex, turned, ordering}
use Rattle.std.proofs.Common.{Ordering as Order, Less, Equal, Greater}
use Rattle.octets.proofs.Numbers.{length_bytes_of, length_down}
use Rattle.octets.proofs.Orders as O
use Rattle.octets.proofs.Places.{part_front, part_whole}
use Rattle.basics.specs.Orders.{bytes, both, up, next}
use Rattle.basics.specs.Orders as C
use Rattle.basics.proofs.OrderLaws.{Lawful, ordering_then, ordering_lex}
use Rattle.table.specs.Records.{cmp}
use Rattle.layout.specs.Codecs.{Codec, number, complement, raw, padded, reserved, pair, viewed, Holds}
use Rattle.rows.proofs.Rows.{Layout}

-- the bytes of keys that are ok have one length and stand as the keys do
pub record KeyOrder {K : Type 0} (c : Codec K) (ok : K → Type 0) (order : K → K → Ordering) : Type 0 where
  pub long : (x : K) → ok x → length (c.spell x) ≡ c.size
  pub stand : (x y : K) → ok x → ok y → ordering (lex (c.spell x) (c.spell y)) ≡ order x y

-- ---- the parts of a key

-- n bytes, up
pub raw_order : (n : ℕ) → KeyOrder (raw n) (λ x. length x ≡ n) bytes
raw_order n = record { long = λ x h. h; stand = λ x y h g. ordering_lex x y }

-- a number of k bytes, up
pub number_order : (k : ℕ) → KeyOrder (number k) (λ x. x < 256 ^ k) up
number_order k = record { long = λ x h. length_bytes_of k x; stand = λ x y h g. ap ordering (O.lex_bytes_of k x y h g) ∙ O.ordering_order x y }

-- its complement, down
pub complement_order : (k : ℕ) → KeyOrder (complement k) (λ x. x < 256 ^ k) C.down
complement_order k = record { long = λ x h. length_down k x; stand = λ x y h g. ap ordering (O.lex_down k x y h g) ∙ O.ordering_order y x }

-- a reserved byte changes nothing
module _ {K : Type 0} {c : Codec K} {ok : K → Type 0} {order : K → K → Ordering} (A : KeyOrder c ok order) where
  pub reserved_order : KeyOrder (reserved c) ok order
  reserved_order = record {
    long = λ x h. ap suc (A.long x h) ∙ omega arith;
    stand = λ x y h g. ap ordering (O.lex_front (0 ∷ []) (c.spell x) (c.spell y)) ∙ A.stand x y h g;
  }

  -- one field after the other
  pub pair_order : {J : Type 0} {d : Codec J} {good : J → Type 0} {later : J → J → Ordering} → KeyOrder d good later → KeyOrder (pair c d) (λ x. ok x.0 × good x.1) (both order later)
  pair_order {d} B = record {
    long = λ x h. length-append (c.spell x.0) (d.spell x.1) ∙ ap₂ (λ (m n : ℕ). m + n) (A.long x.0 h.0) (B.long x.1 h.1);
    stand = λ x y h g.
        ap ordering (O.lex_append (c.spell x.0) (d.spell x.1) (c.spell y.0) (d.spell y.1) (A.long x.0 h.0 ∙ sym (A.long y.0 g.0)))
        ∙ ordering_then (lex (c.spell x.0) (c.spell y.0)) (lex (d.spell x.1) (d.spell y.1))
        ∙ ap₂ next (A.stand x.0 y.0 h.0 g.0) (B.stand x.1 y.1 h.1 g.1);
  }

-- ---- a padded name

-- zeros are never above bytes of their number
zeros_low : (n : ℕ) (ys : List ℕ) → length ys ≡ n → then_by (lex (replicate n 0) ys) Less ≡ Less
unfolding lex then_by
zeros_low zero [] e = refl
zeros_low zero (y ∷ ys) e = absurd (omega arith)
zeros_low (suc n) [] e = absurd (omega arith)
zeros_low (suc n) (y ∷ ys) e =
    O.orders 0 y (λ h o. rw o) (λ h o. rw o (zeros_low n ys (omega arith))) (λ h o. absurd (omega arith))

then_turned : (o p : Order) → then_by (turned o) (turned p) ≡ turned (then_by o p)
unfolding then_by turned
then_turned Less p = refl
then_turned Equal p = refl
then_turned Greater p = refl

order_suc : (m n : ℕ) → order (suc m) (suc n) ≡ order m n
order_suc m n =
    O.orders m n
    (λ h e. O.order_less (suc m) (suc n) (omega arith) ∙ sym e)
    (λ h e. O.order_equal (suc m) (suc n) (omega arith) ∙ sym e)
    (λ h e. O.order_greater (suc m) (suc n) (omega arith) ∙ sym e)

-- no bytes, filled, are below bytes that there are
below : (ys : List ℕ) (a b : ℕ) → 0 < length ys → a ≡ length ys + b → then_by (lex (replicate a 0) (ys ++ replicate b 0)) (order 0 (length ys)) ≡ Less
below ys a b h e =
    ap (then_by (lex (replicate a 0) (ys ++ replicate b 0))) (O.order_less 0 (length ys) h)
    ∙ zeros_low a (ys ++ replicate b 0) (length-append ys (replicate b 0) ∙ omega (arith, length-replicate {A = ℕ} b 0))

-- names that are filled up to one length, and then their lengths
filled : (x y : List ℕ) (a b : ℕ) → length x + a ≡ length y + b → then_by (lex (x ++ replicate a 0) (y ++ replicate b 0)) (order (length x) (length y)) ≡ lex x y
unfolding lex turned
filled [] [] a b e =
    let q : a ≡ b = omega arith in
    ap₂ then_by (O.same_lex (replicate a 0) (replicate b 0) (ap (λ (n : ℕ). replicate n 0) q)) (O.order_equal 0 0 refl) ∙ O.then_equal Equal
filled [] (y ∷ ys) a b e = below (y ∷ ys) a b (omega arith) (omega arith)
filled (x ∷ xs) [] a b e =
    ap₂ then_by (O.lex_turned (replicate b 0) ((x ∷ xs) ++ replicate a 0)) (O.order_turned 0 (length (x ∷ xs)))
    ∙ then_turned (lex (replicate b 0) ((x ∷ xs) ++ replicate a 0)) (order 0 (length (x ∷ xs)))
    ∙ ap turned (below (x ∷ xs) b a (omega arith) (omega arith))
filled (x ∷ xs) (y ∷ ys) a b e =
    O.then_assoc (order x y) (lex (xs ++ replicate a 0) (ys ++ replicate b 0)) (order (suc (length xs)) (suc (length ys)))
    ∙ ap (then_by (order x y)) (ap (then_by (lex (xs ++ replicate a 0) (ys ++ replicate b 0))) (order_suc (length xs) (length ys)) ∙ filled xs ys a b (omega arith))

-- at most n bytes, padded with zeros to n
pub padded_order : (n : ℕ) → n < 256 → KeyOrder (padded n) (λ x. length x ≤ n) bytes
padded_order n small = record {
  long = λ x h. length-append (x ++ replicate (n - length x) 0) (bytes_of 1 (length x)) ∙ ap₂ (λ (i j : ℕ). i + j) (wide x h) (length_bytes_of 1 (length x));
  stand = λ x y h g.
      ap ordering
      (O.lex_append (x ++ replicate (n - length x) 0) (bytes_of 1 (length x)) (y ++ replicate (n - length y) 0) (bytes_of 1 (length y)) (wide x h ∙ sym (wide y g))
      ∙ ap (then_by (lex (x ++ replicate (n - length x) 0) (y ++ replicate (n - length y) 0))) (O.lex_bytes_of 1 (length x) (length y) (omega arith) (omega arith))
      ∙ filled x y (n - length x) (n - length y) (omega arith))
      ∙ ordering_lex x y;
}
  where
    wide : (x : List ℕ) → length x ≤ n → length (x ++ replicate (n - length x) 0) ≡ n
    wide x h = length-append x (replicate (n - length x) 0) ∙ omega (arith, length-replicate {A = ℕ} (n - length x) 0)

-- ---- a key in front of a record's bytes

-- a record's bytes are those of its key and then others, and the key of a record in form is ok
pub record Fronted {R K : Type 0} (c : Codec R) (d : Codec K) (form : R → Bool) (key : R → K) (ok : K → Type 0) : Type 0 where
  pub rest : R → List ℕ
  pub spells : (r : R) → c.spell r ≡ d.spell (key r) ++ rest r
  pub okay : (r : R) → form r ≡ true → ok (key r)

-- a form whose first part is the key, and one that is the key and no more
module _ {R K : Type 0} (d : Codec K) (form : R → Bool) (ok : K → Type 0) where
  pub pair_front : {B : Type 0} (e : Codec B) (to : K × B → R) (parts : R → K × B) → ((r : R) → form r ≡ true → ok (parts r).0) → Fronted (viewed (pair d e) to parts) d form (λ r. (parts r).0) ok
  pair_front e to parts h = record { rest = λ r. e.spell (parts r).1; spells = λ r. refl; okay = h }

  pub whole_front : (to : K → R) (parts : R → K) → ((r : R) → form r ≡ true → ok (parts r)) → Fronted (viewed d to parts) d form parts ok
  whole_front to parts h = record { rest = λ r. []; spells = λ r. sym (append-nil (d.spell (parts r))); okay = h }

module _ {R K : Type 0} {c : Codec R} {d : Codec K} {form : R → Bool} {key : R → K} {ok : K → Type 0} {order : K → K → Ordering}
    (F : Fronted c d form key ok) (A : KeyOrder d ok order) where
  front_key : (r : R) → form r ≡ true → part 0 d.size (c.spell r) ≡ d.spell (key r)
  front_key r f = ap (part 0 d.size) (F.spells r) ∙ part_front d.size (d.spell (key r) ++ F.rest r) ∙ take_at (d.spell (key r)) (F.rest r) d.size (A.long (key r) (F.okay r f))

  -- the key's bytes in front of others name it
  front_names : (kb : List ℕ) (x : K) → ok x → part 0 d.size kb ≡ d.spell x → (r : R) → form r ≡ true → ordering (cmp d.size kb (c.spell r)) ≡ order x (key r)
  front_names kb x h e r f = ap₂ (λ (a b : List ℕ). ordering (lex a b)) e (front_key r f) ∙ A.stand x (key r) h (F.okay r f)

  -- and so do its bytes alone
  pub own_names : (x : K) → ok x → (r : R) → form r ≡ true → ordering (cmp d.size (d.spell x) (c.spell r)) ≡ order x (key r)
  own_names x h = front_names (d.spell x) x h (part_whole d.size (d.spell x) (A.long x h))

  -- the layout of a record with that key
  pub front_layout : Lawful order → (s : ℕ) → c.size ≡ s → 0 < s → d.size ≤ s → ((r : R) → form r ≡ true → Holds c r) → Layout c s d.size form key order
  front_layout O s e p l h = record {
    lawful = O;
    wide = e;
    sized = p;
    short = l;
    holds = h;
    ordered = λ a b f g. front_names (c.spell a) (key a) (F.okay a f) (front_key a f) b g;
  }
