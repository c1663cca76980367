-- The pass over a table: what is left to ask once the record before is known to be in form. A turn asks the form of the next record and that the one before is below it.
use Rattle.std.proofs.Common.{◌≡◌, ℕ, zero, suc, ◌+◌, ◌-◌, ◌*◌, ◌<◌, ◌≤◌, Bool, true, false, not, ◌&&◌, leb, List, ◌∷◌, length, sym, refl, ap, ◌∙◌, ap₂, arith, suc-mul, le-leb, leb-true}
use borrow.Author.Tests.{lt-leb, not-true, not-false}
use Rattle.octets.specs.Bytes.{part, AreBytes}
use Rattle.octets.specs.Order.{is_less}
use Rattle.octets.proofs.Places as P
use Rattle.table.specs.Records.{cmp, rises}
use Rattle.table.specs.Table.{runs, recs, count_of, cap_of, well_ordered}
use Rattle.table.proofs.Rows.{recs_are, cap_room, rows_lt}
use Rattle.rules.specs.Lists.{all}
use Rattle.rules.proofs.TableLaws.{and_fst, and_snd}
use Rattle.layout.specs.Records.{log_lsn_bytes, log_page_lsn_bytes, sid_page_bytes, checkpoint_bytes, entry_bytes, present_bytes}
use Rattle.layout.specs.Tables.{formed_in}
use Rattle.entries.specs.declared.Row.{Row}
use Rattle.entries.specs.Keys.{Keyed, Checkpoints, Index, Presence, size_of, row_form, table_ok, rows_ok, row_of, row_order}
use Rattle.entries.proofs.RowOrders.{row_order_lem}

-- ---- records and a test of each

module _ (s : ℕ) (f : List ℕ → Bool) (t : List ℕ) where
  -- from the record at a place on, which passes the test: the keys rise, and each later record passes it
  unfoldable pub later : ℕ → ℕ → Bool
  later m at = rises s (runs (suc m) s at t) && all f (runs m s (at + s) t)

  -- the first record
  from_first : (n : ℕ) → 0 < n → (rises s (runs n s 2 t) && all f (runs n s 2 t)) ≡ (f (part 2 s t) && later (n - 1) 2)
  unfolding later runs all
  from_first zero h = absurd (omega arith)
  from_first (suc n) h =
      let e : suc n - 1 ≡ n = omega arith in
      rw e (turn (rises s (part 2 s t ∷ runs n s (2 + s) t)) (f (part 2 s t)) (all f (runs n s (2 + s) t)))
    where
      turn : (p q r : Bool) → (p && (q && r)) ≡ (q && (p && r))
      turn true q r = refl
      turn false true r = refl
      turn false false r = refl

  -- the next record
  later_next : (m at : ℕ) → later (suc m) at ≡ (f (part (at + s) s t) && (is_less (cmp s (part at s t) (part (at + s) s t)) && later m (at + s)))
  unfolding later runs all
  later_next m at =
      turn (is_less (cmp s (part at s t) (part (at + s) s t))) (rises s (part (at + s) s t ∷ runs m s (at + s + s) t)) (f (part (at + s) s t)) (all f (runs m s (at + s + s) t))
    where
      turn : (p q r u : Bool) → ((p && q) && (r && u)) ≡ (r && (p && (q && u)))
      turn p q false u = lost (p && q)
        where
          lost : (b : Bool) → (b && false) ≡ false
          lost true = refl
          lost false = refl
      turn true q true u = refl
      turn false q true u = refl

  later_end : (m at : ℕ) → m ≡ 0 → later m at ≡ true
  unfolding later runs all
  later_end m at e = rw e

-- ---- the rows of one of the three tables

-- a record has its reserved byte and its identifier at least
size_some : (k : Keyed) → 17 ≤ size_of k
size_some Checkpoints = omega arith
size_some Index = omega arith
size_some Presence = omega arith

module _ (k : Keyed) (t : List ℕ) where
  abbrev s : ℕ
  s = size_of k

  -- no record
  pub rows_none : (n : ℕ) → n ≡ 0 → true ≡ rows_ok k n t
  unfolding rows_ok runs all
  rows_none n e = rw e

  -- the first record
  module _ (n : ℕ) (some : 0 < n) (x : Row) (ex : x ≡ row_of k (part 2 s t)) where
    first_is : rows_ok k n t ≡ (x.formed && later s (row_form k) t (n - 1) 2)
    unfolding rows_ok
    first_is = from_first s (row_form k) t n some ∙ ap (λ b. b && later s (row_form k) t (n - 1) 2) (sym (ap (λ (r : Row). r.formed) ex))

    pub first_not : not x.formed ≡ true → false ≡ rows_ok k n t
    first_not h = sym (first_is ∙ ap (λ b. b && later s (row_form k) t (n - 1) 2) (not-true x.formed h))

    pub first_yes : not x.formed ≡ false → rows_ok k n t ≡ later s (row_form k) t (n - 1) 2
    first_yes h = first_is ∙ ap (λ b. b && later s (row_form k) t (n - 1) 2) (not-false x.formed h)

  -- record i, which stands behind the record at a place
  module _ (n i at : ℕ) (l : i < n) (e : rows_ok k n t ≡ later s (row_form k) t (n - i) at) (y : Row) (ey : y ≡ row_of k (part (at + s) s t)) where
    next_form : row_form k (part (at + s) s t) ≡ y.formed
    next_form = sym (ap (λ (r : Row). r.formed) ey)

    next_is : rows_ok k n t ≡ (y.formed && (is_less (cmp s (part at s t) (part (at + s) s t)) && later s (row_form k) t (n - (i + 1)) (at + s)))
    next_is =
        let f : n - i ≡ suc (n - (i + 1)) = omega arith in
        e
        ∙ ap (λ m. later s (row_form k) t m at) f
        ∙ later_next s (row_form k) t (n - (i + 1)) at
        ∙ ap (λ b. b && (is_less (cmp s (part at s t) (part (at + s) s t)) && later s (row_form k) t (n - (i + 1)) (at + s))) next_form

    pub next_not : not y.formed ≡ true → false ≡ rows_ok k n t
    next_not h = sym (next_is ∙ ap (λ b. b && (is_less (cmp s (part at s t) (part (at + s) s t)) && later s (row_form k) t (n - (i + 1)) (at + s))) (not-true y.formed h))

    -- both are in form: their numbers decide
    module _ (by : AreBytes t) (h : not y.formed ≡ false) (x : Row) (ex : x ≡ row_of k (part at s t)) (fx : x.formed ≡ true) (room : at + s + s ≤ length t) (b : Bool) (eb : b ≡ is_less (row_order x y)) where
      below_is : is_less (cmp s (part at s t) (part (at + s) s t)) ≡ b
      below_is =
          ap is_less
          (row_order_lem (part at s t) (part (at + s) s t) (P.bytes_part at s t by) (P.bytes_part (at + s) s t by) k (P.length_part at s t (omega arith)) (P.length_part (at + s) s t room)
          (sym (ap (λ (r : Row). r.formed) ex) ∙ fx) (next_form ∙ not-false y.formed h)
          ∙ ap₂ row_order (sym ex) (sym ey))
          ∙ sym eb

      both : rows_ok k n t ≡ (b && later s (row_form k) t (n - (i + 1)) (at + s))
      both = next_is ∙ ap₂ (λ p q. p && (q && later s (row_form k) t (n - (i + 1)) (at + s))) (not-false y.formed h) below_is

      pub below_not : not b ≡ true → false ≡ rows_ok k n t
      below_not g = sym (both ∙ ap (λ q. q && later s (row_form k) t (n - (i + 1)) (at + s)) (not-true b g))

      pub next_yes : not b ≡ false → rows_ok k n t ≡ later s (row_form k) t (n - (i + 1)) (at + s)
      next_yes g = both ∙ ap (λ q. q && later s (row_form k) t (n - (i + 1)) (at + s)) (not-false b g)

  -- the loop before record i: the record before it is in form and x has its numbers, and what is left of the question is asked of those from it on
  pub record Turn (n i : ℕ) (x : Row) : Type 0 where
    pub is : x ≡ row_of k (part (2 + (i - 1) * s) s t)
    pub formed : x.formed ≡ true
    pub rest : rows_ok k n t ≡ later s (row_form k) t (n - i) (2 + (i - 1) * s)

  -- before the second
  pub first_turn : (n : ℕ) → 0 < n → (x : Row) → x ≡ row_of k (part 2 s t) → not x.formed ≡ false → Turn n 1 x
  first_turn n some x ex h =
      let e : 2 + (1 - 1) * s ≡ 2 = omega arith in
      record {
        is = ex ∙ ap (λ p. row_of k (part p s t)) (sym e);
        formed = not-false x.formed h;
        rest = first_yes n some x ex h ∙ ap (later s (row_form k) t (n - 1)) (sym e);
      }

  -- the code's number of bytes of a record
  module _ (w : ℕ) (ew : w ≡ s) (n i : ℕ) (some : 1 ≤ i) (l : i < n) (room : 2 + n * s ≤ length t) where
    -- record i stands behind the one before
    place : 2 + (i - 1) * s + s ≡ 2 + i * w
    place = behind i some ∙ ap (λ m. 2 + i * m) (sym ew)
      where
        behind : (j : ℕ) → 1 ≤ j → 2 + (j - 1) * s + s ≡ 2 + j * s
        behind zero h = absurd (omega arith)
        behind (suc j) h =
            let e : suc j - 1 ≡ j = omega arith in
            ap (λ m. 2 + m * s + s) e ∙ omega (arith, suc-mul j s)

    -- within the bytes
    pub turn_room : 2 + i * w + s ≤ length t
    turn_room = omega (arith, rows_lt s l, ap (λ m. i * m) ew)

    module _ (x y : Row) (turn : Turn n i x) (ey : y ≡ row_of k (part (2 + i * w) s t)) where
      here : y ≡ row_of k (part (2 + (i - 1) * s + s) s t)
      here = ey ∙ ap (λ p. row_of k (part p s t)) (sym place)

      pub turn_not : not y.formed ≡ true → false ≡ rows_ok k n t
      turn_not h = next_not n i (2 + (i - 1) * s) l turn.rest y here h

      module _ (by : AreBytes t) (h : not y.formed ≡ false) (b : Bool) (eb : b ≡ is_less (row_order x y)) where
        fits_lem : 2 + (i - 1) * s + s + s ≤ length t
        fits_lem = omega (arith, place, turn_room)

        pub turn_below : not b ≡ true → false ≡ rows_ok k n t
        turn_below g = below_not n i (2 + (i - 1) * s) l turn.rest y here by h x turn.is turn.formed fits_lem b eb g

        -- before the record after it
        pub next_turn : not b ≡ false → Turn n (i + 1) y
        next_turn g =
            let e : 2 + i * w ≡ 2 + (i + 1 - 1) * s = ap (λ m. 2 + i * m) ew ∙ ap (λ m. 2 + m * s) (omega arith) in
            record {
              is = ey ∙ ap (λ p. row_of k (part p s t)) e;
              formed = not-false y.formed h;
              rest = next_yes n i (2 + (i - 1) * s) l turn.rest y here by h x turn.is turn.formed fits_lem b eb g ∙ ap (later s (row_form k) t (n - (i + 1))) (place ∙ e);
            }

  -- no record is left
  pub turn_end : (n i : ℕ) → n ≤ i → (x : Row) → Turn n i x → true ≡ rows_ok k n t
  turn_end n i h x turn = sym (turn.rest ∙ later_end s (row_form k) t (n - i) (2 + (i - 1) * s) (omega arith))

-- ---- the table

-- the three tables are asked for one thing
table_is : (k : Keyed) (t : List ℕ) → table_ok k t ≡ (well_ordered (size_of k) (size_of k) t && all (row_form k) (recs (size_of k) t))
unfolding formed_in checkpoint_bytes entry_bytes present_bytes log_lsn_bytes log_page_lsn_bytes sid_page_bytes
table_is Checkpoints t = refl
table_is Index t = refl
table_is Presence t = refl

-- the count is asked first, and then the rows
module _ (k : Keyed) (w : ℕ) (ew : w ≡ size_of k) (t : List ℕ) (b : Bool) (ec : b ≡ (leb 2 (length t) && leb (count_of t) (cap_of w t))) where
  eb : b ≡ (leb 2 (length t) && leb (count_of t) (cap_of (size_of k) t))
  eb = ec ∙ ap (λ m. leb 2 (length t) && leb (count_of t) (cap_of m t)) ew

  counted : (p q r u : Bool) → ((p && (q && r)) && u) ≡ ((p && q) && (r && u))
  counted true true r u = refl
  counted true false r u = refl
  counted false q r u = refl

  table_parts : table_ok k t ≡ (b && (rises (size_of k) (recs (size_of k) t) && all (row_form k) (recs (size_of k) t)))
  unfolding well_ordered
  table_parts =
      table_is k t
      ∙ counted (leb 2 (length t)) (leb (count_of t) (cap_of (size_of k) t)) (rises (size_of k) (recs (size_of k) t)) (all (row_form k) (recs (size_of k) t))
      ∙ ap (λ c. c && (rises (size_of k) (recs (size_of k) t) && all (row_form k) (recs (size_of k) t))) (sym eb)

  pub count_not : not b ≡ true → false ≡ table_ok k t
  count_not h = sym (table_parts ∙ ap (λ c. c && (rises (size_of k) (recs (size_of k) t) && all (row_form k) (recs (size_of k) t))) (not-true b h))

  module _ (h : not b ≡ false) where
    test : (leb 2 (length t) && leb (count_of t) (cap_of (size_of k) t)) ≡ true
    test = sym eb ∙ not-false b h

    pub count_two : 2 ≤ length t
    count_two = leb-true 2 (length t) (and_fst (leb 2 (length t)) (leb (count_of t) (cap_of (size_of k) t)) test)

    pub count_room : (n : ℕ) → n ≡ count_of t → 2 + n * size_of k ≤ length t
    count_room n e =
        let l : count_of t ≤ cap_of (size_of k) t = leb-true (count_of t) (cap_of (size_of k) t) (and_snd (leb 2 (length t)) (leb (count_of t) (cap_of (size_of k) t)) test) in
        cap_room (size_of k) n t (omega (arith, size_some k)) count_two (omega arith)

    pub table_rows : (n : ℕ) → n ≡ count_of t → rows_ok k n t ≡ table_ok k t
    unfolding rows_ok
    table_rows n e =
        ap (λ l. rises (size_of k) l && all (row_form k) l) (recs_are (size_of k) n t e)
        ∙ sym (table_parts ∙ ap (λ c. c && (rises (size_of k) (recs (size_of k) t) && all (row_form k) (recs (size_of k) t))) (not-false b h))

-- the test of the count, as the code makes it
module _ (s : ℕ) (t : List ℕ) where
  pub count_short : length t < 2 → false ≡ (leb 2 (length t) && leb (count_of t) (cap_of s t))
  count_short h = sym (ap (λ b. b && leb (count_of t) (cap_of s t)) (lt-leb 2 (length t) h))

  pub count_rest : 2 ≤ length t → leb (count_of t) (cap_of s t) ≡ (leb 2 (length t) && leb (count_of t) (cap_of s t))
  count_rest h = sym (ap (λ b. b && leb (count_of t) (cap_of s t)) (le-leb 2 (length t) h))
