-- What a kind of record must have for tables of it to be the rules' tables, and that formed bytes and the rules' table determine each other.
-- A row in form is the bytes of the record that it spells, so the rows of a formed table are `map c.spell l` for the list l of its records; each law is
-- shown on those lists, by induction on l, and carried to bytes by `rows_are`.
use Rattle.std.proofs.Common.{◌≡◌, ℕ, ◌+◌, ◌-◌, ◌*◌, ◌/◌, ◌<◌, ◌≤◌, min, Bool, true, false, ◌&&◌, leb, List, [], ◌∷◌, ◌++◌, map, length, sym, refl, ap, ◌∙◌, ap₂, arith, le-leb}
use Prim.Native.Nat.{Ordering}
use mathlib.Core.Bool.{and-false}
use lib.ListN.{length-map}
use Rattle.octets.specs.Bytes.{bytes_of, part, AreBytes}
use Rattle.octets.specs.Order.{ordering, is_less}
use Rattle.std.proofs.Common.{Ordering as Order, Less, Equal, Greater}
use Rattle.octets.proofs.Places as P
use Rattle.basics.specs.Orders.{is_lt}
use Rattle.basics.proofs.OrderLaws.{Lawful}
use Rattle.rules.specs.Lists.{all}
use Rattle.rules.specs.Tables.{Table, in_order, capacity, fits, over, formed}
use Rattle.rules.proofs.TableLaws.{cases, and_fst, and_snd, and_both, formed_parts}
use Rattle.rules.proofs.Loops.{stepwise, stepwise_is}
use Rattle.table.specs.Records.{cmp, rises}
use Rattle.table.specs.Table.{join, Each, count_of, cap_of, recs, laid, well_ordered, holds}
use Rattle.table.specs.Table as T
use Rattle.table.proofs.Rows as TR
use Rattle.table.proofs.Checks.{well_two, well_room}
use Rattle.table.proofs.Ends as TE
use Rattle.layout.specs.Codecs.{Codec, spelled, in_form, Holds}
use Rattle.layout.specs.Tables.{formed_in, table_in, laid_over}
use Rattle.layout.proofs.HoldLaws.{spelled_is, held_form}

-- the records of a table: c has their bytes, s of them, the first k of which are the key; form is what document 01 asks of each
pub record Layout {R K : Type 0} (c : Codec R) (s k : ℕ) (form : R → Bool) (key : R → K) (order : K → K → Ordering) : Type 0 where
  pub lawful : Lawful order
  pub wide : c.size ≡ s
  pub sized : 0 < s
  pub short : k ≤ s
  pub holds : (x : R) → form x ≡ true → Holds c x
  pub ordered : (a b : R) → form a ≡ true → form b ≡ true → ordering (cmp k (c.spell a) (c.spell b)) ≡ order (key a) (key b)

-- ---- rows that are spelled

module _ {R : Type 0} (c : Codec R) where
  -- rows that pass the test
  spelled_rows : (rs : List (List ℕ)) → all (spelled c) rs ≡ true → map c.spell (map c.read rs) ≡ rs
  unfolding all
  spelled_rows [] e = refl
  spelled_rows (b ∷ rs) e =
      ap₂ (λ (x : List ℕ) (l : List (List ℕ)). x ∷ l) (spelled_is c b (and_fst (spelled c b) (all (spelled c) rs) e)) (spelled_rows rs (and_snd (spelled c b) (all (spelled c) rs) e))

  -- the test of a row is that of its bytes and that of its record
  in_form_rows : (form : R → Bool) (rs : List (List ℕ)) → all (in_form c form) rs ≡ (all (spelled c) rs && all form (map c.read rs))
  unfolding all in_form
  in_form_rows form [] = refl
  in_form_rows form (b ∷ rs) = ap (λ (x : Bool). (spelled c b && form (c.read b)) && x) (in_form_rows form rs) ∙ mixed (spelled c b) (form (c.read b)) (all (spelled c) rs) (all form (map c.read rs))
    where
      mixed : (p q r s : Bool) → ((p && q) && (r && s)) ≡ ((p && r) && (q && s))
      mixed true true r s = refl
      mixed true false r s = sym (and-false r)
      mixed false q r s = refl

-- ---- two facts on bytes

-- the count and the rows of a table
front_is : (s : ℕ) (t : List ℕ) → AreBytes t → 2 + count_of t * s ≤ length t → part 0 (2 + count_of t * s) t ≡ bytes_of 2 (count_of t) ++ join (recs s t)
unfolding count_of recs
front_is s t b h =
    P.part_add 0 2 (count_of t * s) t
    ∙ ap₂ (λ (x y : List ℕ). x ++ y) (sym (P.bytes_at 0 2 t b (omega arith))) (sym (TR.join_runs s (count_of t) 2 t))

less_lt : (o : Order) → is_less o ≡ is_lt (ordering o)
less_lt Less = refl
less_lt Equal = refl
less_lt Greater = refl

module _ {R K : Type 0} {c : Codec R} {s k : ℕ} {form : R → Bool} {key : R → K} {order : K → K → Ordering} (L : Layout c s k form key order) where
  -- ---- the table in bytes, its records s bytes each

  -- what the rules' table is
  pub rows_read : (t : List ℕ) → (table_in c t).rows ≡ map c.read (recs s t)
  unfolding table_in
  rows_read t = ap (λ (n : ℕ). map c.read (recs n t)) L.wide

  room_is : (t : List ℕ) → (table_in c t).room ≡ (length t - 2) / s
  unfolding table_in
  room_is t = ap (λ (n : ℕ). (length t - 2) / n) L.wide

  -- and when it is one
  pub formed_tests : (t : List ℕ) → formed_in c k form t ≡ (well_ordered s k t && all (in_form c form) (recs s t))
  unfolding formed_in
  formed_tests t = ap (λ (n : ℕ). well_ordered n k t && all (in_form c form) (recs n t)) L.wide

  pub length_rows : (t : List ℕ) → length (table_in c t).rows ≡ count_of t
  length_rows t = ap length (rows_read t) ∙ length-map (recs s t) c.read ∙ TR.length_recs s t

  cap_is : (t : List ℕ) → cap_of s t ≡ capacity (table_in c t)
  unfolding cap_of
  cap_is t = ap (λ (n : ℕ). min n 65535) (sym (room_is t))

  -- bytes can hold n records where n is within the capacity of their table
  pub holds_is : (n : ℕ) (t : List ℕ) → holds s n t ≡ leb n (capacity (table_in c t))
  unfolding holds
  holds_is n t = ap (leb n) (cap_is t)

  -- bytes can hold the rows of records where those fit in their table
  pub fits_is : (l : List R) (t : List ℕ) → T.fits s (map c.spell l) t ≡ fits (over (table_in c t) l)
  unfolding fits
  fits_is l t = holds_is (length (map c.spell l)) t ∙ ap (λ (n : ℕ). leb n (capacity (table_in c t))) (length-map l c.spell)

  -- ---- the bytes of records in form

  pub long_is : (x : R) → form x ≡ true → length (c.spell x) ≡ s
  long_is x e = (L.holds x e).long ∙ L.wide

  -- what a batch of them must have
  each_spelled : (l : List R) → all form l ≡ true → Each s (map c.spell l)
  unfolding all
  each_spelled [] e = tt
  each_spelled (x ∷ l) e = (long_is x (and_fst (form x) (all form l) e), each_spelled l (and_snd (form x) (all form l) e))

  pub read_spelled : (l : List R) → all form l ≡ true → map c.read (map c.spell l) ≡ l
  unfolding all
  read_spelled [] e = refl
  read_spelled (x ∷ l) e = ap₂ (λ (y : R) (m : List R). y ∷ m) (L.holds x (and_fst (form x) (all form l) e)).back (read_spelled l (and_snd (form x) (all form l) e))

  in_form_spelled : (l : List R) → all form l ≡ true → all (in_form c form) (map c.spell l) ≡ true
  unfolding all
  in_form_spelled [] e = refl
  in_form_spelled (x ∷ l) e =
      let f = and_fst (form x) (all form l) e in
      and_both (held_form c form (L.holds x f) f) (in_form_spelled l (and_snd (form x) (all form l) e))

  rises_stepwise : (l : List R) → all form l ≡ true → rises k (map c.spell l) ≡ stepwise key order l
  unfolding all
  rises_stepwise [] e = refl
  rises_stepwise (x ∷ []) e = refl
  rises_stepwise (x ∷ y ∷ l) e =
      let f = and_snd (form x) (all form (y ∷ l)) e in
      ap₂ (λ (p q : Bool). p && q)
      (less_lt (cmp k (c.spell x) (c.spell y)) ∙ ap is_lt (L.ordered x y (and_fst (form x) (all form (y ∷ l)) e) (and_fst (form y) (all form l) f)))
      (rises_stepwise (y ∷ l) f)

  -- the keys rise as bytes just where they do as the rules have them
  rises_spelled : (l : List R) → all form l ≡ true → rises k (map c.spell l) ≡ in_order key order l
  rises_spelled l e = rises_stepwise l e ∙ stepwise_is key order L.lawful l

  -- ---- a formed table

  module _ (t : List ℕ) (e : formed_in c k form t ≡ true) where
    pub formed_well : well_ordered s k t ≡ true
    formed_well = and_fst (well_ordered s k t) (all (in_form c form) (recs s t)) (sym (formed_tests t) ∙ e)

    pub formed_tested : all (in_form c form) (recs s t) ≡ true
    formed_tested = and_snd (well_ordered s k t) (all (in_form c form) (recs s t)) (sym (formed_tests t) ∙ e)

    formed_both : all (spelled c) (recs s t) && all form (map c.read (recs s t)) ≡ true
    formed_both = sym (in_form_rows c form (recs s t)) ∙ formed_tested

    formed_spelled : all (spelled c) (recs s t) ≡ true
    formed_spelled = and_fst (all (spelled c) (recs s t)) (all form (map c.read (recs s t))) formed_both

    -- its records are in form
    pub formed_forms : all form (table_in c t).rows ≡ true
    formed_forms = ap (all form) (rows_read t) ∙ and_snd (all (spelled c) (recs s t)) (all form (map c.read (recs s t))) formed_both

    -- its rows are their bytes
    pub rows_are : recs s t ≡ map c.spell (table_in c t).rows
    rows_are = sym (ap (map c.spell) (rows_read t) ∙ spelled_rows c (recs s t) formed_spelled)

    pub formed_two : 2 ≤ length t
    formed_two = well_two s k t formed_well

  -- ---- formed bytes and the rules' table

  fits_count : (t : List ℕ) → fits (table_in c t) ≡ leb (count_of t) (cap_of s t)
  unfolding fits
  fits_count t = ap₂ leb (length_rows t) (sym (cap_is t))

  -- where each row is spelled, bytes of a table are formed just where the rules' table is
  pub formed_is : (t : List ℕ) → all (spelled c) (recs s t) ≡ true → 2 ≤ length t → formed_in c k form t ≡ formed key order form (table_in c t)
  unfolding formed well_ordered
  formed_is t p h =
      let rs : List (List ℕ) = recs s t in
      let l : List R = map c.read rs in
      cases (all form l)
      (λ f. rw (formed_tests t, fits_count t, rows_read t, le-leb 2 (length t) h, in_form_rows c form rs, p, f, ← rises_spelled l f, spelled_rows c rs p))
      (λ f. rw (formed_tests t, fits_count t, rows_read t, in_form_rows c form rs, p, f, and-false (well_ordered s k t)) (sym (and-false (leb (count_of t) (cap_of s t) && in_order key order l))))

  -- formed bytes hold a table that the rules take
  pub formed_rules : (t : List ℕ) → formed_in c k form t ≡ true → formed key order form (table_in c t) ≡ true
  formed_rules t e = sym (formed_is t (formed_spelled t e) (formed_two t e)) ∙ e

  pub formed_up : (t : List ℕ) → formed_in c k form t ≡ true → in_order key order (table_in c t).rows ≡ true
  formed_up t e = (formed_parts key order L.lawful form (table_in c t) (formed_rules t e)).up

  -- a table laid over the bytes that hold it
  pub laid_same : (t : List ℕ) → AreBytes t → formed_in c k form t ≡ true → laid_over c (table_in c t) t ≡ t
  unfolding laid_over
  laid_same t b e = ap (λ (rs : List (List ℕ)). laid rs t) (sym (rows_are t e)) ∙ TR.laid_self s t b (well_room s k t L.sized (formed_well t e))

  -- ---- a table of the rules laid over bytes

  -- u is t after w was laid over it: formed bytes that hold w
  pub record Laid (w : Table R) (t u : List ℕ) : Type 0 where
    pub again : formed_in c k form u ≡ true
    pub table : table_in c u ≡ w
    pub size : length u ≡ length t

  room_laid : (w : Table R) (t : List ℕ) → w.room ≡ (table_in c t).room → fits w ≡ true → T.fits s (map c.spell w.rows) t ≡ true
  room_laid w t r f = fits_is w.rows t ∙ ap (λ (m : ℕ). fits (record { room = m; rows = w.rows })) (sym r) ∙ f

  -- a table that the rules take, laid over bytes with its room
  pub laid_holds : (w : Table R) (t : List ℕ) → formed key order form w ≡ true → w.room ≡ (table_in c t).room → 2 ≤ length t → Laid w t (laid_over c w t)
  unfolding laid_over
  laid_holds w t f r two =
      let q = formed_parts key order L.lawful form w f in
      let rs : List (List ℕ) = map c.spell w.rows in
      let h = TE.laid_holds s k rs t L.sized two (each_spelled w.rows q.forms) (room_laid w t r q.fit) (rises_spelled w.rows q.forms ∙ q.up) in
      record {
        again = formed_tests (laid rs t) ∙ and_both h.well (ap (all (in_form c form)) h.rows ∙ in_form_spelled w.rows q.forms);
        table =
            ap₂ (λ (m : ℕ) (l : List R). record { room = m; rows = l })
            (room_is (laid rs t) ∙ ap (λ (m : ℕ). (m - 2) / s) h.size ∙ sym (room_is t) ∙ sym r)
            (rows_read (laid rs t) ∙ ap (map c.read) h.rows ∙ read_spelled w.rows q.forms);
        size = h.size;
      }

  -- over a table with no more records: what that left is gone
  pub laid_after : (v w : Table R) (t : List ℕ) → formed key order form v ≡ true → formed key order form w ≡ true → w.room ≡ (table_in c t).room → 2 ≤ length t → length v.rows ≤ length w.rows
      → laid_over c w (laid_over c v t) ≡ laid_over c w t
  unfolding laid_over
  laid_after v w t fv fw r two le =
      let p = formed_parts key order L.lawful form v fv in
      let q = formed_parts key order L.lawful form w fw in
      let nv : length (map c.spell v.rows) ≡ length v.rows = length-map v.rows c.spell in
      let nw : length (map c.spell w.rows) ≡ length w.rows = length-map w.rows c.spell in
      TR.laid_laid s (map c.spell v.rows) (map c.spell w.rows) t (each_spelled v.rows p.forms) (each_spelled w.rows q.forms) (omega arith)
      (TR.cap_room s (length (map c.spell w.rows)) t L.sized two (TR.fits_cap s (length (map c.spell w.rows)) t (room_laid w t r q.fit)))

  -- two that hold the same records are equal on the count and the rows
  pub fronts_same : (t u : List ℕ) → AreBytes t → AreBytes u → formed_in c k form t ≡ true → formed_in c k form u ≡ true → (table_in c t).rows ≡ (table_in c u).rows
      → part 0 (2 + count_of t * s) t ≡ part 0 (2 + count_of t * s) u
  fronts_same t u bt bu e f g =
      let n : count_of t ≡ count_of u = sym (length_rows t) ∙ ap length g ∙ length_rows u in
      let rs : recs s t ≡ recs s u = rows_are t e ∙ ap (map c.spell) g ∙ sym (rows_are u f) in
      front_is s t bt (well_room s k t L.sized (formed_well t e))
      ∙ ap₂ (λ (m : ℕ) (l : List (List ℕ)). bytes_of 2 m ++ join l) n rs
      ∙ sym (front_is s u bu (well_room s k u L.sized (formed_well u f)))
      ∙ ap (λ (m : ℕ). part 0 (2 + m * s) u) (sym n)
