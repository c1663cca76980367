-- Rows of a formed table are entries: the bytes from row i up to row j are those of the records there, one after another, each of its size. By induction on the number of rows. Assumes nothing.
use Rattle.std.proofs.Common.{◌≡◌, ℕ, zero, suc, ◌+◌, ◌-◌, ◌*◌, ◌<◌, ◌≤◌, Bool, true, List, ◌∷◌, ◌++◌, length, take, sym, refl, ap, ◌∙◌, subst, ap₂, zero-mul, arith}
use Prim.Native.Nat.{Ordering}
use lib.Seq.{take-length}
use Rattle.octets.specs.Bytes.{part}
use Rattle.octets.specs.Flat.{flat}
use Rattle.octets.proofs.Places.{part_add, part_none}
use Rattle.table.specs.Table.{count_of}
use Rattle.table.proofs.Rows.{rows_le, rows_sub}
use Rattle.table.proofs.Checks.{well_room}
use Rattle.layout.specs.Codecs.{Codec}
use Rattle.layout.specs.Tables.{formed_in, table_in}
use Rattle.rows.specs.Lookups.{stretch}
use Rattle.rows.proofs.Rows.{Layout, formed_well, length_rows, long_is}
use Rattle.rows.proofs.Finds.{row_at, stretch_end, stretch_next}
use Rattle.rows.proofs.Checks.{row_form_lem, row_spelled}
use Rattle.resultlists.proofs.EntryLaws.{Fill}

module _ {R K : Type 0} {c : Codec R} {s k : ℕ} {form : R → Bool} {key : R → K} {order : K → K → Ordering} (L : Layout c s k form key order) (t : List ℕ) (e : formed_in c k form t ≡ true) where
  abbrev rows : ℕ → ℕ → List R
  rows i j = stretch i j (table_in c t).rows

  -- the entries l are the n rows from row i on
  record Rows (n i : ℕ) (l : List R) : Type 0 where
    pub bytes : flat c.spell l ≡ part (2 + i * s) (n * s) t
    pub fill : Fill c.spell s l
    pub number : length l ≡ n

  one_more : (n i : ℕ) → i < count_of t → (l : List R) → Rows n (i + 1) l → Rows (suc n) i (row_at c s t i ∷ l)
  unfolding flat Fill
  one_more n i h l w =
      let b : c.spell (row_at c s t i) ≡ part (2 + i * s) s t = row_spelled L t e i h in
      let at : 2 + (i + 1) * s ≡ 2 + i * s + s = omega arith in
      let k : s + n * s ≡ suc n * s = omega arith in
      record {
        bytes =
            ap₂ (λ (x y : List ℕ). x ++ y) b (w.bytes ∙ ap (λ (a : ℕ). part a (n * s) t) at)
            ∙ sym (part_add (2 + i * s) s (n * s) t)
            ∙ ap (λ (m : ℕ). part (2 + i * s) m t) k;
        fill = (long_is L (row_at c s t i) (row_form_lem L t e i h), w.fill);
        number = ap suc w.number;
      }

  from_row : (n i : ℕ) → i + n ≤ count_of t → Rows n i (rows i (i + n))
  unfolding flat Fill
  from_row zero i h =
      let none = stretch_end i (i + 0) (table_in c t).rows (omega arith) in
      subst (Rows 0 i) (sym none) (record { bytes = sym (ap (λ (m : ℕ). part (2 + i * s) m t) (zero-mul s) ∙ part_none (2 + i * s) t); fill = tt; number = refl })
  from_row (suc n) i h =
      let next = stretch_next L t i (i + suc n) (omega arith) h in
      let m : i + 1 + n ≡ i + suc n = omega arith in
      subst (Rows (suc n) i) (sym next) (one_more n i (omega arith) (rows (i + 1) (i + suc n)) (subst (λ (j : ℕ). Rows n (i + 1) (rows (i + 1) j)) m (from_row n (i + 1) (omega arith))))

  module _ (i j : ℕ) (below : i ≤ j) (inside : j ≤ count_of t) where
    run_rows : Rows (j - i) i (rows i j)
    run_rows =
        let m : i + (j - i) ≡ j = omega arith in
        subst (λ (n : ℕ). Rows (j - i) i (rows i n)) m (from_row (j - i) i (omega arith))

    -- the bytes of the records from i up to j are the rows' bytes
    pub rows_bytes : flat c.spell (rows i j) ≡ part (2 + i * s) ((j - i) * s) t
    rows_bytes = run_rows.bytes

    -- each record fills its row
    pub rows_fill : Fill c.spell s (rows i j)
    rows_fill = run_rows.fill

    pub rows_number : length (rows i j) ≡ j - i
    rows_number = run_rows.number

    -- they lie within the table's bytes
    pub rows_inside : 2 + i * s + (j - i) * s ≤ length t
    rows_inside = omega (arith, rows_sub s below, rows_le s inside, well_room s k t L.sized (formed_well L t e))

  -- all records are the rows from the first to the last
  pub table_rows : rows 0 (count_of t) ≡ (table_in c t).rows
  table_rows =
      let n : count_of t - 0 ≡ length (table_in c t).rows = omega (arith, length_rows L t) in
      ap (λ (m : ℕ). take m (table_in c t).rows) n ∙ take-length (table_in c t).rows
