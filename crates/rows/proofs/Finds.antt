-- What a search in a formed table finds, in the rules' words. Key bytes name a key of the rules where they stand to each record's bytes as it does to that
-- record's key; then the spot of the bytes is the place of the key. The record of a key is the one at the spot; the first record that passes a test
-- that holds from a key on is the one at the key's place; the run between two keys is the records whose keys lie between. Each by induction on the records.
use Rattle.std.proofs.Common.{◌≡◌, ℕ, zero, suc, ◌+◌, ◌-◌, ◌*◌, ◌<◌, ◌≤◌, Bool, true, cond, not, ◌&&◌, List, [], ◌∷◌, map, length, get_or, take, drop, sym, refl, ap, ◌∙◌, ap₂, add-one, arith, drop-cons, Result, Ok, Err}
use Prim.Native.Nat.{Ordering}
use mathlib.Core.Option
use mathlib.Core.Option.{Option, none, some}
use lib.Dec.{compare_is_eq, is_le}
use Rattle.octets.specs.Bytes.{part}
use Rattle.octets.specs.Order.{turned, ordering, is_less}
use Rattle.std.proofs.Common.{Ordering as Order, Less, Equal, Greater}
use Rattle.octets.proofs.Orders.{lex_turned}
use Rattle.basics.specs.Orders.{is_lt}
use Rattle.rules.specs.Lists.{first, those, all}
use Rattle.rules.specs.Tables.{in_order, get}
use Rattle.rules.proofs.TableLaws.{cases, options, clash, lt_of, and_fst, and_snd, first_some, all_at, all_those}
use Rattle.table.specs.Records.{cmp, spot_by, spot, place, look_by, look}
use Rattle.table.specs.Table.{count_of, recs}
use Rattle.table.specs.Run.{in_run, run, RunOf}
use Rattle.table.proofs.Rows.{length_recs, recs_at}
use Rattle.table.proofs.Spots.{at_lt, look_at, look_gap}
use Rattle.table.proofs.Checks.{well_rises}
use Rattle.table.proofs.Runs.{run_of}
use Rattle.layout.specs.Codecs.{Codec}
use Rattle.layout.specs.Tables.{formed_in, table_in}
use Rattle.rows.specs.Lookups.{nth, stretch, only_if, from, within}
use Rattle.rows.proofs.Rows.{Layout, rows_read, formed_well, formed_forms, formed_up, rows_are, read_spelled, length_rows}

-- ---- the rules' side: of records in key order the first that passes a test is the first at or after a key, if that passes

module _ {R K : Type 0} (key : R → K) (order : K → K → Ordering) (form f : R → Bool) (x : K) where
  -- no record before the key passes, and of those from it on none passes after one that does not
  pub record FromOn : Type 0 where
    pub after : (r : R) → form r ≡ true → f r ≡ true → is_le (order x (key r)) ≡ true
    pub falling : (p q : R) → form p ≡ true → form q ≡ true → is_le (order x (key p)) ≡ true → order (key p) (key q) ≡ Ordering.lt → f q ≡ true → f p ≡ true

  first_from : FromOn → (l : List R) → in_order key order l ≡ true → all form l ≡ true → first f l ≡ only_if f (from key order x l)
  unfolding first from in_order all
  first_from h [] up e = refl
  first_from h (z ∷ zs) up e =
      let tops = and_fst (all (λ y. is_lt (order (key z) (key y))) zs) (in_order key order zs) up in
      let ez = and_fst (form z) (all form zs) e in
      let ezs = and_snd (form z) (all form zs) e in
      cases (is_le (order x (key z)))
      (λ p. cases (f z) (λ q. rw (p, q))
      (λ q. rw (p, q) (options (first f zs) (λ n. n)
      (λ y n. let s = first_some f zs n in
      absurd (clash (h.falling z y ez (all_at form zs ezs s.0) p (lt_of (order (key z) (key y)) (all_at (λ y. is_lt (order (key z) (key y))) zs tops s.0)) s.1) q)))))
      (λ p. cases (f z) (λ q. absurd (clash (h.after z ez q) p))
      (λ q. rw (p, q) (first_from h zs (and_snd (all (λ y. is_lt (order (key z) (key y))) zs) (in_order key order zs) up) ezs)))

-- ---- the place of a row

module _ {A B : Type 0} (f : A → B) where
  nth_map : (l : List A) (i : ℕ) (d : A) → i < length l → nth i (map f l) ≡ some (f (get_or l i d))
  nth_map [] i d h = absurd (omega arith)
  nth_map (x ∷ l) zero d h = refl
  nth_map (x ∷ l) (suc i) d h = nth_map l i d (omega arith)

  pub map_drop : (n : ℕ) (l : List A) → map f (drop n l) ≡ drop n (map f l)
  map_drop zero l = refl
  map_drop (suc n) [] = refl
  map_drop (suc n) (x ∷ l) = map_drop n l

  pub map_take : (n : ℕ) (l : List A) → map f (take n l) ≡ take n (map f l)
  map_take zero l = refl
  map_take (suc n) [] = refl
  map_take (suc n) (x ∷ l) = ap (λ (m : List B). f x ∷ m) (map_take n l)

nth_end : {A : Type 0} (l : List A) (i : ℕ) → length l ≤ i → nth i l ≡ none
nth_end [] i h = refl
nth_end (x ∷ l) zero h = absurd (omega arith)
nth_end (x ∷ l) (suc i) h = nth_end l i (omega arith)

-- what row i spells, where rows have s bytes
abbrev pub row_at : {R : Type 0} → Codec R → ℕ → List ℕ → ℕ → R
row_at c s t i = c.read (part (2 + i * s) s t)

pub stretch_end : {A : Type 0} (i j : ℕ) (l : List A) → j ≤ i → stretch i j l ≡ []
stretch_end i j l h =
    let e : j - i ≡ 0 = omega arith in
    ap (λ (n : ℕ). take n (drop i l)) e

-- not below, not above: in bytes and as the rules have it
not_below : (o : Order) → not (is_less (turned o)) ≡ is_le (ordering o)
unfolding turned
not_below Less = refl
not_below Equal = refl
not_below Greater = refl

not_above : (o : Order) → not (is_less o) ≡ not (is_lt (ordering o))
not_above Less = refl
not_above Equal = refl
not_above Greater = refl

run_those : (k : ℕ) (a b : List ℕ) (rs : List (List ℕ)) → run k a b rs ≡ those (in_run k a b) rs
unfolding those
run_those k a b [] = refl
run_those k a b (x ∷ rs) = rw (run_those k a b rs)

module _ {R K : Type 0} {c : Codec R} {s k : ℕ} {form : R → Bool} {key : R → K} {order : K → K → Ordering} (L : Layout c s k form key order) where
  row_is : (t : List ℕ) (i : ℕ) → i < count_of t → c.read (get_or (recs s t) i []) ≡ row_at c s t i
  row_is t i h = ap c.read (recs_at s t i h)

  -- record i is what row i spells, if there is one
  pub row_nth : (t : List ℕ) (i : ℕ) → i < count_of t → nth i (table_in c t).rows ≡ some (row_at c s t i)
  row_nth t i h = ap (nth i) (rows_read L t) ∙ nth_map c.read (recs s t) i [] (omega (arith, length_recs s t)) ∙ ap some (row_is t i h)

  pub row_end : (t : List ℕ) (i : ℕ) → count_of t ≤ i → nth i (table_in c t).rows ≡ none
  row_end t i h = nth_end (table_in c t).rows i (omega (arith, length_rows L t))

  -- the records from i on, for a loop that reads row by row
  pub rows_from : (t : List ℕ) (i : ℕ) → i < count_of t → drop i (table_in c t).rows ≡ row_at c s t i ∷ drop (i + 1) (table_in c t).rows
  rows_from t i h =
      let d : (n : ℕ) → map c.read (drop n (recs s t)) ≡ drop n (table_in c t).rows = λ n. map_drop c.read n (recs s t) ∙ ap (drop n) (sym (rows_read L t)) in
      sym (d i)
      ∙ ap (map c.read) (drop-cons (recs s t) i [] (omega (arith, length_recs s t)))
      ∙ ap₂ (λ (r : R) (l : List R). r ∷ l) (row_is t i h) (d (suc i) ∙ ap (λ (n : ℕ). drop n (table_in c t).rows) (sym (add-one i)))

  -- the records from i up to j, likewise
  pub stretch_next : (t : List ℕ) (i j : ℕ) → i < j → j ≤ count_of t → stretch i j (table_in c t).rows ≡ row_at c s t i ∷ stretch (i + 1) j (table_in c t).rows
  stretch_next t i j l h =
      let e : j - i ≡ suc (j - (i + 1)) = omega arith in
      ap (λ (n : ℕ). take n (drop i (table_in c t).rows)) e ∙ ap (take (suc (j - (i + 1)))) (rows_from t i (omega arith))

  -- ---- the bytes of a key

  -- the bytes kb name the key x
  abbrev pub Names : List ℕ → K → Type 0
  Names kb x = (r : R) → form r ≡ true → ordering (cmp k kb (c.spell r)) ≡ order x (key r)

  -- a record's bytes name its key
  pub names_own : (r : R) → form r ≡ true → Names (c.spell r) (key r)
  names_own r e s f = L.ordered r s e f

  get_step : (o : Order) (r : R) (g : Option R) (q : Option (List ℕ)) → c.read (c.spell r) ≡ r → g ≡ Option.map c.read q
      → cond (compare_is_eq (ordering o)) (some r) g ≡ Option.map c.read (look_by o (c.spell r) q)
  get_step Less r g q e h = h
  get_step Equal r g q e h = ap {B = Option R} some (sym e)
  get_step Greater r g q e h = h

  from_step : (o : Order) (q : Result ℕ ℕ) (r : R) (l : List R) (g : Option R) → g ≡ nth (place q) l → cond (is_le (ordering o)) (some r) g ≡ nth (place (spot_by o q)) (r ∷ l)
  from_step Less q r l g e = refl
  from_step Equal q r l g e = refl
  from_step Greater (Ok i) r l g e = e
  from_step Greater (Err i) r l g e = e

  module _ (kb : List ℕ) (x : K) (n : Names kb x) where
    get_look : (l : List R) → all form l ≡ true → get key order x l ≡ Option.map c.read (look k kb (map c.spell l))
    unfolding get first all
    get_look [] e = refl
    get_look (r ∷ l) e =
        let f = and_fst (form r) (all form l) e in
        ap (λ (o : Ordering). cond (compare_is_eq o) (some r) (get key order x l)) (sym (n r f))
        ∙ get_step (cmp k kb (c.spell r)) r (get key order x l) (look k kb (map c.spell l)) (L.holds r f).back (get_look l (and_snd (form r) (all form l) e))

    from_look : (l : List R) → all form l ≡ true → from key order x l ≡ nth (place (spot k kb (map c.spell l))) l
    unfolding from first all
    from_look [] e = refl
    from_look (r ∷ l) e =
        ap (λ (o : Ordering). cond (is_le o) (some r) (from key order x l)) (sym (n r (and_fst (form r) (all form l) e)))
        ∙ from_step (cmp k kb (c.spell r)) (spot k kb (map c.spell l)) r l (from key order x l) (from_look l (and_snd (form r) (all form l) e))

    module _ (t : List ℕ) (e : formed_in c k form t ≡ true) where
      -- the record of a key as bytes have it
      get_rows : get key order x (table_in c t).rows ≡ Option.map c.read (look k kb (recs s t))
      get_rows = get_look (table_in c t).rows (formed_forms L t e) ∙ ap (λ (rs : List (List ℕ)). Option.map c.read (look k kb rs)) (sym (rows_are L t e))

      -- the record of a key is the one at the spot of its bytes
      pub get_at : (i : ℕ) → spot k kb (recs s t) ≡ Ok i → get key order x (table_in c t).rows ≡ some (row_at c s t i)
      get_at i p =
          let l : i < count_of t = omega (arith, at_lt k kb (recs s t) i p, length_recs s t) in
          get_rows ∙ ap (Option.map c.read) (look_at k kb (recs s t) i p) ∙ ap some (row_is t i l)

      -- and where the bytes stand in a gap there is none
      pub get_gap : (i : ℕ) → spot k kb (recs s t) ≡ Err i → get key order x (table_in c t).rows ≡ none
      get_gap i p = get_rows ∙ ap (Option.map c.read) (look_gap k kb (recs s t) i (well_rises s k t (formed_well L t e)) p)

      -- the first record at or after a key stands at the place of its bytes
      from_place : (i : ℕ) → i ≡ place (spot k kb (recs s t)) → from key order x (table_in c t).rows ≡ nth i (table_in c t).rows
      from_place i p =
          from_look (table_in c t).rows (formed_forms L t e)
          ∙ ap (λ (j : ℕ). nth j (table_in c t).rows) (ap (λ (rs : List (List ℕ)). place (spot k kb rs)) (sym (rows_are L t e)) ∙ sym p)

      -- so the first that passes a test that holds from the key on is the record there, if it passes
      pub first_place : (f : R → Bool) → FromOn key order form f x → (i : ℕ) → i ≡ place (spot k kb (recs s t)) → first f (table_in c t).rows ≡ only_if f (nth i (table_in c t).rows)
      first_place f h i p =
          first_from key order form f x h (table_in c t).rows (formed_up L t e) (formed_forms L t e)
          ∙ ap (only_if f) (from_place i p)

  -- ---- the records from a key to another

  -- the rows that pass a test are the bytes of the records that pass it
  pub those_spelled : (g : List ℕ → Bool) (f : R → Bool) → ((r : R) → form r ≡ true → g (c.spell r) ≡ f r) → (l : List R) → all form l ≡ true
      → those g (map c.spell l) ≡ map c.spell (those f l)
  unfolding those all
  those_spelled g f h [] e = refl
  those_spelled g f h (r ∷ l) e =
      let w = h r (and_fst (form r) (all form l) e) in
      let rest = those_spelled g f h l (and_snd (form r) (all form l) e) in
      cases (f r) (λ q. rw (w, q) (ap (λ (m : List (List ℕ)). c.spell r ∷ m) rest)) (λ q. rw (w, q) rest)

  module _ (a b : List ℕ) (x y : K) (na : Names a x) (nb : Names b y) where
    pub in_run_lem : (r : R) → form r ≡ true → in_run k a b (c.spell r) ≡ within key order x y r
    in_run_lem r f =
        ap₂ (λ (p q : Bool). p && q)
        (ap (λ (o : Order). not (is_less o)) (lex_turned (part 0 k a) (part 0 k (c.spell r))) ∙ not_below (cmp k a (c.spell r)) ∙ ap is_le (na r f))
        (not_above (cmp k b (c.spell r)) ∙ ap (λ (o : Ordering). not (is_lt o)) (nb r f))

    -- the run between two keys is the records whose keys lie between them
    pub run_rows : (t : List ℕ) → formed_in c k form t ≡ true → (i j : ℕ) → RunOf s k a b t i j → stretch i j (table_in c t).rows ≡ those (within key order x y) (table_in c t).rows
    run_rows t e i j h =
        let l : List R = (table_in c t).rows in
        let f : all form l ≡ true = formed_forms L t e in
        ap (stretch i j) (rows_read L t)
        ∙ sym (map_take c.read (j - i) (drop i (recs s t)) ∙ ap (take (j - i)) (map_drop c.read i (recs s t)))
        ∙ ap (map c.read) (run_of s k a b t i j (well_rises s k t (formed_well L t e)) h ∙ run_those k a b (recs s t) ∙ ap (those (in_run k a b)) (rows_are L t e) ∙ those_spelled (in_run k a b) (within key order x y) in_run_lem l f)
        ∙ read_spelled L (those (within key order x y) l) (all_those form (within key order x y) l f)
