-- The check of a table by code: that its keys rise, then row by row that each is in form. The invariant of the loop says that the whole test is that of the
-- rows from i on; a row that is not in form, or the end of the rows, ends it. And what a row of a checked table is: the bytes of a record in form.
use Rattle.std.proofs.Common.{◌≡◌, ℕ, zero, suc, ◌+◌, ◌*◌, ◌<◌, ◌≤◌, Bool, true, false, ◌&&◌, List, [], ◌∷◌, length, get_or, drop, sym, ap, ◌∙◌, ap₂, add-one, arith, drop_of_length-le}
use Prim.Native.Nat.{Ordering}
use Rattle.octets.specs.Bytes.{part}
use Rattle.rules.specs.Lists.{all}
use Rattle.rules.proofs.TableLaws.{and_fst, and_snd}
use Rattle.rules.proofs.Loops.{all_step}
use Rattle.table.specs.Table.{count_of, recs, well_ordered}
use Rattle.table.proofs.Rows.{rows_lt, length_recs, recs_at}
use Rattle.table.proofs.Checks.{well_two, well_room}
use Rattle.layout.specs.Codecs.{Codec, in_form}
use Rattle.layout.specs.Tables.{formed_in}
use Rattle.layout.proofs.HoldLaws.{in_form_lem}
use Rattle.rows.proofs.Rows.{Layout, formed_well, formed_tested}
use Rattle.rows.proofs.Finds.{row_at}

-- ---- the loop

-- the whole test is that of the rows from i on: ok is asked of a table whose records are S bytes, and f of each record
abbrev pub Left : (List ℕ → Bool) → (List ℕ → Bool) → ℕ → List ℕ → ℕ → Type 0
Left f ok S t i = ok t ≡ all f (drop i (recs S t))

module _ (f ok : List ℕ → Bool) (S N : ℕ) (tests : (t : List ℕ) → ok t ≡ (well_ordered S N t && all f (recs S t))) (t : List ℕ) where
  -- the code's numbers of bytes, and what it found of the order
  module _ (s k : ℕ) (es : s ≡ S) (ek : k ≡ N) (b : Bool) (e : b ≡ well_ordered s k t) where
    well_is : well_ordered S N t ≡ b
    well_is = ap₂ (λ (x y : ℕ). well_ordered x y t) (sym es) (sym ek) ∙ sym e

    asked : ok t ≡ (b && all f (recs S t))
    asked = tests t ∙ ap (λ (p : Bool). p && all f (recs S t)) well_is

    pub check_no : b ≡ false → false ≡ ok t
    check_no h = sym (asked ∙ rw h)

    pub check_start : b ≡ true → Left f ok S t 0
    check_start h = asked ∙ rw h

    pub check_two : b ≡ true → 2 ≤ length t
    check_two h = well_two S N t (well_is ∙ h)

    -- row i lies within the bytes
    pub check_room : b ≡ true → 0 < S → (w : ℕ) → w ≡ S → (i : ℕ) → i < count_of t → 2 + i * w + S ≤ length t
    check_room h p w ew i l = omega (arith, rows_lt S l, well_room S N t p (well_is ∙ h), ap (λ (m : ℕ). i * m) ew)

  module _ (s : ℕ) (es : s ≡ S) (i : ℕ) (l : i < count_of t) (b : Bool) (e : b ≡ f (part (2 + i * s) S t)) (h : Left f ok S t i) where
    step : all f (drop i (recs S t)) ≡ (b && all f (drop (suc i) (recs S t)))
    step =
        all_step f (recs S t) [] i (omega (arith, length_recs S t))
        ∙ ap (λ (p : Bool). p && all f (drop (suc i) (recs S t))) (ap f (recs_at S t i l ∙ ap (λ (m : ℕ). part (2 + i * m) S t) (sym es)) ∙ sym e)

    pub check_next : b ≡ true → Left f ok S t (i + 1)
    check_next g = h ∙ step ∙ rw (g, add-one)

    pub check_stop : b ≡ false → false ≡ ok t
    check_stop g = sym (h ∙ step ∙ rw g)

  pub check_end : (i : ℕ) → count_of t ≤ i → Left f ok S t i → true ≡ ok t
  unfolding all
  check_end i l h =
      let n : length (recs S t) ≤ i = omega (arith, length_recs S t) in
      sym (h ∙ ap (all f) (drop_of_length-le (recs S t) n))

-- a row lies within the bytes
pub row_room : (s k i : ℕ) (t : List ℕ) → 0 < s → well_ordered s k t ≡ true → i < count_of t → 2 + i * s + s ≤ length t
row_room s k i t p w l = omega (arith, rows_lt s l, well_room s k t p w)

-- ---- a row of a checked table

all_get_d : {A : Type 0} (f : A → Bool) (l : List A) (i : ℕ) (d : A) → all f l ≡ true → i < length l → f (get_or l i d) ≡ true
unfolding all
all_get_d f [] i d e h = absurd (omega arith)
all_get_d f (x ∷ l) zero d e h = and_fst (f x) (all f l) e
all_get_d f (x ∷ l) (suc i) d e h = all_get_d f l i d (and_snd (f x) (all f l) e) (omega arith)

module _ {R K : Type 0} {c : Codec R} {s k : ℕ} {form : R → Bool} {key : R → K} {order : K → K → Ordering} (L : Layout c s k form key order)
    (t : List ℕ) (e : formed_in c k form t ≡ true) (i : ℕ) (l : i < count_of t) where
  pub row_in : 2 + i * s + s ≤ length t
  row_in = row_room s k i t L.sized (formed_well L t e) l

  row_test : in_form c form (part (2 + i * s) s t) ≡ true
  row_test =
      ap (in_form c form) (sym (recs_at s t i l))
      ∙ all_get_d (in_form c form) (recs s t) i [] (formed_tested L t e) (omega (arith, length_recs s t))

  -- the record that it spells is in form
  pub row_form_lem : form (row_at c s t i) ≡ true
  row_form_lem = (in_form_lem c form (part (2 + i * s) s t) row_test).1

  -- and the row is that record's bytes
  pub row_spelled : c.spell (row_at c s t i) ≡ part (2 + i * s) s t
  row_spelled = (in_form_lem c form (part (2 + i * s) s t) row_test).0
