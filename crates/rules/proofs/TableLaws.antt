-- The laws of a table: of `first`, `those`, `get`, `put` on a list of records whose keys rise.
use Rattle.std.proofs.Common.{◌≡◌, ℕ, ◌≤◌, min, Bool, true, false, cond, not, ◌&&◌, ◌||◌, eqb, ◌⊎◌, List, [], ◌∷◌, ◌++◌, map, length, sym, refl, ap, ◌∙◌, inl, inr, ⊎_elim, arith, eq-eqb, ne_eqb, eqb-true, le-leb, leb-true}
use Prim.Native.Nat.{Ordering}
use mathlib.Core.List.Memᴰ
use mathlib.Core.List.{Memᴰ}
use mathlib.Core.Bool.{or-true, and-false, and-or_distrib_left, or_assoc, and_assoc}
use mathlib.Core.Option.{Option, none, some}
use lib.Dec.{compare_is_eq}
use borrow.Author.Tests.{eqb-false}
use Rattle.basics.specs.Orders.{is_lt}
use Rattle.pageset.proofs.FormLaws as Form
pub use mathlib.Core.List.{map-append}
pub use Rattle.pageset.proofs.FormLaws.{and_fst, and_snd}
use Rattle.rules.specs.Lists.{first, those, all, any, is_some, is_none}
use Rattle.rules.specs.Tables.{in_order, get, put, put_all, Table, over, fits, formed, store, store_all, remove}
use Rattle.basics.proofs.OrderLaws.{Lawful, equal, lt≢eq, gt≢eq}

-- a test is true or false, with the equation
pub cases : {P : Type 0} (b : Bool) → (b ≡ true → P) → (b ≡ false → P) → P
cases true f g = f refl
cases false f g = g refl

pub orders : {P : Type 0} (o : Ordering) → (o ≡ Ordering.lt → P) → (o ≡ Ordering.eq → P) → (o ≡ Ordering.gt → P) → P
orders Ordering.lt f g h = f refl
orders Ordering.eq f g h = g refl
orders Ordering.gt f g h = h refl

pub options : {A P : Type 0} (o : Option A) → (o ≡ none → P) → ((x : A) → o ≡ some x → P) → P
options none f g = f refl
options (some x) f g = g x refl

pub clash : {b : Bool} → b ≡ true → b ≡ false → ⊥
clash p q = let z : ◌≡◌ {A = ℕ} 0 1 = cc in omega arith

pub missing : {A : Type 0} {o : Option A} {x : A} → o ≡ none → o ≡ some x → ⊥
missing p q = let z : ◌≡◌ {A = ℕ} 0 1 = cc in omega arith

pub none_of : {A : Type 0} (o : Option A) → is_none o ≡ true → o ≡ none
none_of none q = refl
none_of (some x) q = absurd (clash refl (sym q))

pub option_same : {A : Type 0} {a b : A} → ◌≡◌ {A = Option A} (some a) (some b) → a ≡ b
option_same e = cc

pub and_both : {a b : Bool} → a ≡ true → b ≡ true → a && b ≡ true
and_both {a} {b} p q = Form.and_both a b p q

-- the order of two numbers in a test of equality does not matter
pub eqb_turn : (a b : ℕ) → eqb a b ≡ eqb b a
eqb_turn a b = cases (eqb a b) (λ q. q ∙ sym (eq-eqb b a (sym (eqb-true a b q)))) (λ q. q ∙ sym (ne_eqb b a (λ z. eqb-false a b q (sym z))))

pub lt_of : (o : Ordering) → is_lt o ≡ true → o ≡ Ordering.lt
lt_of Ordering.lt e = refl
lt_of Ordering.eq e = absurd (clash e refl)
lt_of Ordering.gt e = absurd (clash e refl)

pub eq_of : (o : Ordering) → compare_is_eq o ≡ true → o ≡ Ordering.eq
eq_of Ordering.lt e = absurd (clash e refl)
eq_of Ordering.eq e = refl
eq_of Ordering.gt e = absurd (clash e refl)

abbrev pub or_else : {A : Type 0} → Option A → Option A → Option A
or_else none o = o
or_else (some x) o = some x

module _ {A : Type 0} where
  pub first_some : (f : A → Bool) (l : List A) {x : A} → first f l ≡ some x → Memᴰ x l × (f x ≡ true)
  unfolding first
  first_some f [] e = absurd (missing refl e)
  first_some f (y ∷ ys) {x} e =
      cases (f y) (λ q. let h : y ≡ x = cc in (Memᴰ.head (sym h), rw h at q))
      (λ q. let r = first_some f ys (rw q at e) in (Memᴰ.tail r.0, r.1))

  pub first_none : (f : A → Bool) (l : List A) {x : A} → first f l ≡ none → Memᴰ x l → f x ≡ false
  unfolding first
  first_none f [] e m = absurd (Memᴰ.not-nil m)
  first_none f (y ∷ ys) e m =
      cases (f y) (λ q. absurd (missing (rw q at e) refl))
      (λ q. ⊎_elim (λ h. rw h q) (λ h. first_none f ys (rw q at e) h) (Memᴰ.cases_cons m))

  pub all_at : (f : A → Bool) (l : List A) {x : A} → all f l ≡ true → Memᴰ x l → f x ≡ true
  unfolding all
  all_at f [] e m = absurd (Memᴰ.not-nil m)
  all_at f (y ∷ ys) e m = ⊎_elim (λ h. rw h (and_fst (f y) (all f ys) e)) (λ h. all_at f ys (and_snd (f y) (all f ys) e) h) (Memᴰ.cases_cons m)

  pub all_weaken : (f g : A → Bool) (l : List A) → ((y : A) → f y ≡ true → g y ≡ true) → all f l ≡ true → all g l ≡ true
  unfolding all
  all_weaken f g [] h e = refl
  all_weaken f g (y ∷ ys) h e = and_both (h y (and_fst (f y) (all f ys) e)) (all_weaken f g ys h (and_snd (f y) (all f ys) e))

  pub first_those : (f g : A → Bool) (l : List A) → first f (those g l) ≡ first (λ x. g x && f x) l
  unfolding first those
  first_those f g [] = refl
  first_those f g (y ∷ ys) = cases (g y) (λ q. rw (q, first_those f g ys)) (λ q. rw (q, first_those f g ys))

  pub first_append : (f : A → Bool) (l m : List A) → first f (l ++ m) ≡ or_else (first f l) (first f m)
  unfolding first
  first_append f [] m = refl
  first_append f (y ∷ ys) m = cases (f y) (λ q. rw q) (λ q. rw q (first_append f ys m))

  pub those_append : (f : A → Bool) (l m : List A) → those f (l ++ m) ≡ those f l ++ those f m
  unfolding those
  those_append f [] m = refl
  those_append f (y ∷ ys) m = cases (f y) (λ q. rw (q, those_append f ys m)) (λ q. rw q (those_append f ys m))

  pub all_map : {B : Type 0} (f : B → Bool) (g : A → B) (l : List A) → all f (map g l) ≡ all (λ x. f (g x)) l
  unfolding all
  all_map f g [] = refl
  all_map f g (y ∷ ys) = rw (all_map f g ys)

  pub any_append : (f : A → Bool) (l m : List A) → any f (l ++ m) ≡ any f l || any f m
  unfolding any
  any_append f [] m = refl
  any_append f (y ∷ ys) m = rw (any_append f ys m) (sym (or_assoc (f y) (any f ys) (any f m)))

  pub all_append : (f : A → Bool) (l m : List A) → all f (l ++ m) ≡ all f l && all f m
  unfolding all
  all_append f [] m = refl
  all_append f (y ∷ ys) m = rw (all_append f ys m) (sym (and_assoc (f y) (all f ys) (all f m)))

  pub any_map : {B : Type 0} (f : B → Bool) (g : A → B) (l : List A) → any f (map g l) ≡ any (λ x. f (g x)) l
  unfolding any
  any_map f g [] = refl
  any_map f g (y ∷ ys) = rw (any_map f g ys)

  pub any_and : (k : Bool) (f g : A → Bool) (l : List A) → ((x : A) → g x ≡ k && f x) → any g l ≡ k && any f l
  unfolding any
  any_and k f g [] h = sym (and-false k)
  any_and k f g (y ∷ ys) h = rw (h y, any_and k f g ys h) (sym (and-or_distrib_left k (f y) (any f ys)))

  pub first_any : (f : A → Bool) (l : List A) → any f l ≡ is_some (first f l)
  unfolding first any
  first_any f [] = refl
  first_any f (y ∷ ys) = cases (f y) (λ q. rw q) (λ q. rw q (first_any f ys))

  pub all_those : (f g : A → Bool) (l : List A) → all f l ≡ true → all f (those g l) ≡ true
  unfolding all those
  all_those f g [] e = refl
  all_those f g (y ∷ ys) e =
      let t = all_those f g ys (and_snd (f y) (all f ys) e) in cases (g y) (λ q. rw q (and_both (and_fst (f y) (all f ys) e) t)) (λ q. rw q t)

  pub length_those : (f : A → Bool) (l : List A) → length (those f l) ≤ length l
  unfolding those
  length_those f [] = omega arith
  length_those f (y ∷ ys) = let t = length_those f ys in cases (f y) (λ q. rw q (omega arith)) (λ q. rw q (omega arith))

pub or_none : (a b : Bool) → a || b ≡ false → (a ≡ false) × (b ≡ false)
or_none true b e = absurd (clash refl e)
or_none false b e = (refl, e)

fits_fewer : {R : Type 0} (t : Table R) (l : List R) → length l ≤ length t.rows → fits t ≡ true → fits (over t l) ≡ true
unfolding fits
fits_fewer t l h e = le-leb (length l) (min t.room 65535) (omega (arith, leb-true (length t.rows) (min t.room 65535) e))

module _ {R K : Type 0} (key : R → K) (order : K → K → Ordering) (O : Lawful order) where
  -- on a table whose keys rise, the first record that passes a test has the lowest key of those that pass
  pub first_least : (f : R → Bool) (l : List R) {x y : R} → in_order key order l ≡ true → first f l ≡ some x → Memᴰ y l → f y ≡ true
      → (order (key x) (key y) ≡ Ordering.lt) ⊎ (x ≡ y)
  unfolding first in_order
  first_least f [] up e m h = absurd (missing refl e)
  first_least f (z ∷ zs) {x} {y} up e m h =
      cases (f z)
      (λ q. let s : z ≡ x = cc in ⊎_elim (λ t. inr (sym s ∙ sym t)) (λ t. inl (rw (← s) (lt_of (order (key z) (key y)) (all_at (λ w. is_lt (order (key z) (key w))) zs (and_fst (all (λ w. is_lt (order (key z) (key w))) zs) (in_order key order zs) up) t)))) (Memᴰ.cases_cons m))
      (λ q. ⊎_elim (λ t. absurd (clash (rw t at h) q)) (λ t. first_least f zs (and_snd (all (λ w. is_lt (order (key z) (key w))) zs) (in_order key order zs) up) (rw q at e) t h) (Memᴰ.cases_cons m))

  pub get_some : (k : K) (l : List R) {r : R} → get key order k l ≡ some r → Memᴰ r l × (k ≡ key r)
  unfolding get
  get_some k l {r} e =
      let h = first_some (λ r. compare_is_eq (order k (key r))) l e in (h.0, O.same k (key r) (eq_of (order k (key r)) h.1))

  pub mem_get : (l : List R) {r : R} → in_order key order l ≡ true → Memᴰ r l → get key order (key r) l ≡ some r
  unfolding get
  mem_get l {r} up m =
      options (first (λ x. compare_is_eq (order (key r) (key x))) l)
      (λ e. absurd (clash (ap compare_is_eq (O.self (key r))) (first_none (λ x. compare_is_eq (order (key r) (key x))) l e m)))
      (λ x e.
      let k : key r ≡ key x = O.same (key r) (key x) (eq_of (order (key r) (key x)) (first_some (λ y. compare_is_eq (order (key r) (key y))) l e).1) in
      ⊎_elim (λ h. absurd (lt≢eq (sym h ∙ equal O (sym k)))) (λ h. e ∙ ap {B = Option R} some h)
      (first_least (λ y. compare_is_eq (order (key r) (key y))) l up e m (ap compare_is_eq (O.self (key r)))))

  -- after a record is put in, its key has it, and every other key has what it had
  pub get_put : (k : K) (r : R) (l : List R) → get key order k (put key order r l) ≡ cond (compare_is_eq (order k (key r))) (some r) (get key order k l)
  unfolding get put first
  get_put k r [] = refl
  get_put k r (x ∷ xs) =
      orders (order (key r) (key x)) (λ q. rw q)
      (λ q. let s : key r ≡ key x = O.same (key r) (key x) q in
      cases (compare_is_eq (order k (key r))) (λ p. rw (q, p)) (λ p. rw (q, ← s, p)))
      (λ q. cases (compare_is_eq (order k (key x)))
      (λ p. cases (compare_is_eq (order k (key r)))
      (λ u. absurd (gt≢eq (sym q ∙ equal O (sym (O.same k (key r) (eq_of (order k (key r)) u)) ∙ O.same k (key x) (eq_of (order k (key x)) p)))))
      (λ u. rw (q, p, u)))
      (λ p. rw (q, p) (get_put k r xs)))

  all_put : (f : R → Bool) (r : R) (l : List R) → f r ≡ true → all f l ≡ true → all f (put key order r l) ≡ true
  unfolding all put
  all_put f r [] h e = and_both h e
  all_put f r (x ∷ xs) h e =
      orders (order (key r) (key x)) (λ q. rw q (and_both h e)) (λ q. rw q (and_both h (and_snd (f x) (all f xs) e)))
      (λ q. rw q (and_both (and_fst (f x) (all f xs) e) (all_put f r xs h (and_snd (f x) (all f xs) e))))

  pub in_order_put : (r : R) (l : List R) → in_order key order l ≡ true → in_order key order (put key order r l) ≡ true
  unfolding in_order put all
  in_order_put r [] e = refl
  in_order_put r (x ∷ xs) e =
      let above : R → R → Bool = λ a b. is_lt (order (key a) (key b)) in
      let tops = and_fst (all (above x) xs) (in_order key order xs) e in
      let rest = and_snd (all (above x) xs) (in_order key order xs) e in
      orders (order (key r) (key x))
      (λ q. rw q (and_both (and_both (ap is_lt q) (all_weaken (above x) (above r) xs (λ y h. ap is_lt (O.trans (key r) (key x) (key y) q (lt_of (order (key x) (key y)) h))) tops)) e))
      (λ q. rw (q, O.same (key r) (key x) q) e)
      (λ q. rw q (and_both (all_put (above x) r xs (ap is_lt (O.turn (key r) (key x) q)) tops) (in_order_put r xs rest)))

  pub in_order_put_all : (rs l : List R) → in_order key order l ≡ true → in_order key order (put_all key order rs l) ≡ true
  unfolding put_all
  in_order_put_all [] l e = e
  in_order_put_all (r ∷ rs) l e = in_order_put_all rs (put key order r l) (in_order_put r l e)

  -- after several are put in, a key has a record exactly if it is one of theirs or had one
  pub some_put_all : (k : K) (rs l : List R)
      → is_some (get key order k (put_all key order rs l)) ≡ any (λ r. compare_is_eq (order k (key r))) rs || is_some (get key order k l)
  unfolding put_all any
  some_put_all k [] l = refl
  some_put_all k (r ∷ rs) l =
      some_put_all k rs (put key order r l)
      ∙ cases (compare_is_eq (order k (key r))) (λ q. rw (get_put k r l, q, or-true)) (λ q. rw (get_put k r l, q))

  pub put_mem : (r : R) (l : List R) → Memᴰ r (put key order r l)
  unfolding put
  put_mem r [] = Memᴰ.head refl
  put_mem r (x ∷ xs) =
      orders (order (key r) (key x)) (λ q. rw q (Memᴰ.head refl)) (λ q. rw q (Memᴰ.head refl)) (λ q. rw q (Memᴰ.tail (put_mem r xs)))

  pub mem_put : (r : R) (l : List R) {x : R} → Memᴰ x (put key order r l) → (x ≡ r) ⊎ Memᴰ x l
  unfolding put
  mem_put r [] m = Memᴰ.cases_cons m
  mem_put r (y ∷ ys) m =
      orders (order (key r) (key y)) (λ q. Memᴰ.cases_cons (rw q at m))
      (λ q. ⊎_elim (λ h. inl h) (λ h. inr (Memᴰ.tail h)) (Memᴰ.cases_cons (rw q at m)))
      (λ q. ⊎_elim (λ h. inr (Memᴰ.head h)) (λ h. ⊎_elim (λ k. inl k) (λ k. inr (Memᴰ.tail k)) (mem_put r ys h)) (Memᴰ.cases_cons (rw q at m)))

  all_put_all : (f : R → Bool) (rs l : List R) → all f rs ≡ true → all f l ≡ true → all f (put_all key order rs l) ≡ true
  unfolding all put_all
  all_put_all f [] l h e = e
  all_put_all f (r ∷ rs) l h e = all_put_all f rs (put key order r l) (and_snd (f r) (all f rs) h) (all_put f r l (and_fst (f r) (all f rs) h) e)

  -- what 20 leaves of a table
  pub record Formed (form : R → Bool) (t : Table R) : Type 0 where
    pub fit : fits t ≡ true
    pub up : in_order key order t.rows ≡ true
    pub forms : all form t.rows ≡ true

  pub formed_parts : (form : R → Bool) (t : Table R) → formed key order form t ≡ true → Formed form t
  unfolding formed
  formed_parts form t e = record { fit = search (and_fst, and_snd); up = search (and_fst, and_snd); forms = search (and_fst, and_snd) }

  parts_formed : (form : R → Bool) (t : Table R) → Formed form t → formed key order form t ≡ true
  unfolding formed
  parts_formed form t h = and_both (and_both h.fit h.up) h.forms

  -- rows in key order, each of the right form, stay so
  pub record Rows (form : R → Bool) (l : List R) : Type 0 where
    pub up : in_order key order l ≡ true
    pub forms : all form l ≡ true

  pub rows_put_lem : (form : R → Bool) (r : R) (l : List R) → form r ≡ true → Rows form l → Rows form (put key order r l)
  rows_put_lem form r l h k = record { up = in_order_put r l k.up; forms = all_put form r l h k.forms }

  pub rows_put_all : (form : R → Bool) (rs l : List R) → all form rs ≡ true → Rows form l → Rows form (put_all key order rs l)
  rows_put_all form rs l h k = record { up = in_order_put_all rs l k.up; forms = all_put_all form rs l h k.forms }

  pub formed_rows : (form : R → Bool) (t : Table R) → formed key order form t ≡ true → Rows form t.rows
  formed_rows form t e = let k = formed_parts form t e in record { up = k.up; forms = k.forms }

  pub rows_formed : (form : R → Bool) (t : Table R) → fits t ≡ true → Rows form t.rows → formed key order form t ≡ true
  rows_formed form t f k = parts_formed form t (record { fit = f; up = k.up; forms = k.forms })

  -- a well formed table stays so where a record of the right form is stored and there is room, and where records are removed
  pub formed_store : (form : R → Bool) (r : R) (t : Table R) → form r ≡ true → formed key order form t ≡ true → fits (store key order r t) ≡ true
      → formed key order form (store key order r t) ≡ true
  formed_store form r t h e f =
      let k = formed_parts form t e in
      parts_formed form (store key order r t) (record { fit = f; up = in_order_put r t.rows k.up; forms = all_put form r t.rows h k.forms })

  pub formed_store_all : (form : R → Bool) (rs : List R) (t : Table R) → all form rs ≡ true → formed key order form t ≡ true → fits (store_all key order rs t) ≡ true
      → formed key order form (store_all key order rs t) ≡ true
  formed_store_all form rs t h e f =
      let k = formed_parts form t e in
      parts_formed form (store_all key order rs t) (record { fit = f; up = in_order_put_all rs t.rows k.up; forms = all_put_all form rs t.rows h k.forms })

  in_order_those : (f : R → Bool) (l : List R) → in_order key order l ≡ true → in_order key order (those f l) ≡ true
  unfolding in_order those
  in_order_those f [] e = refl
  in_order_those f (x ∷ xs) e =
      let tops = and_fst (all (λ y. is_lt (order (key x) (key y))) xs) (in_order key order xs) e in
      let rest = in_order_those f xs (and_snd (all (λ y. is_lt (order (key x) (key y))) xs) (in_order key order xs) e) in
      cases (f x) (λ q. rw q (and_both (all_those (λ y. is_lt (order (key x) (key y))) f xs tops) rest)) (λ q. rw q rest)

  pub formed_remove : (form f : R → Bool) (t : Table R) → formed key order form t ≡ true → formed key order form (remove f t) ≡ true
  formed_remove form f t e =
      let k = formed_parts form t e in
      parts_formed form (remove f t) (record { fit = fits_fewer t (those (λ r. not (f r)) t.rows) (length_those (λ r. not (f r)) t.rows) k.fit; up = in_order_those (λ r. not (f r)) t.rows k.up; forms = all_those form (λ r. not (f r)) t.rows k.forms })

  -- a key that is held stays held
  pub held_put_all : (k : K) (rs l : List R) → is_some (get key order k l) ≡ true → is_some (get key order k (put_all key order rs l)) ≡ true
  held_put_all k rs l h = some_put_all k rs l ∙ rw h (or-true (any (λ r. compare_is_eq (order k (key r))) rs))

  -- a key that none of several names has what it had
  pub get_put_all : (k : K) (rs l : List R) → any (λ r. compare_is_eq (order k (key r))) rs ≡ false → get key order k (put_all key order rs l) ≡ get key order k l
  unfolding put_all any
  get_put_all k [] l h = refl
  get_put_all k (r ∷ rs) l h =
      let n = or_none (compare_is_eq (order k (key r))) (any (λ r. compare_is_eq (order k (key r))) rs) h in
      get_put_all k rs (put key order r l) n.1 ∙ get_put k r l ∙ rw n.0

  -- a removal by keys takes what it names, and every other key has what it had
  pub get_remove : (f : R → Bool) (h : K → Bool) → ((r : R) → f r ≡ h (key r)) → (k : K) (l : List R)
      → get key order k (those (λ r. not (f r)) l) ≡ cond (h k) none (get key order k l)
  unfolding get first those
  get_remove f h s k [] = cases (h k) (λ q. rw q) (λ q. rw q)
  get_remove f h s k (x ∷ xs) =
      cases (compare_is_eq (order k (key x)))
      (λ p. let e : k ≡ key x = O.same k (key x) (eq_of (order k (key x)) p) in
      cases (h k) (λ q. let fx : f x ≡ true = s x ∙ (rw e at q) in rw (fx, p, q) (get_remove f h s k xs ∙ rw q)) (λ q. let fx : f x ≡ false = s x ∙ (rw e at q) in rw (fx, p, q)))
      (λ p. cases (f x) (λ q. rw (q, p) (get_remove f h s k xs)) (λ q. rw (q, p) (get_remove f h s k xs)))
