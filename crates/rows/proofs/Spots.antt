-- What code does with a key's spot in a formed table, in the rules' words: the record there is the one of the key; a removal where there is none leaves the
-- bytes as they are; and after a removal there is room for any one record, since the rows left are one fewer than the table can hold.
use Rattle.std.proofs.Common.{◌≡◌, ℕ, ◌<◌, Bool, true, List, sym, refl, ap, ◌∙◌, Result, Ok, Err}
use Prim.Native.Nat.{Ordering}
use mathlib.Core.Option.{some}
use lib.Dec.{compare_is_eq}
use Rattle.octets.specs.Bytes.{AreBytes}
use Rattle.rules.specs.Tables.{Table, get, fits, store, remove}
use Rattle.rules.proofs.TableLaws.{missing}
use Rattle.table.specs.Records.{spot, removed}
use Rattle.table.specs.Records as T
use Rattle.table.specs.Table.{count_of, recs, laid, well_ordered}
use Rattle.table.specs.Table as B
use Rattle.table.proofs.Ends as E
use Rattle.layout.specs.Codecs.{Codec}
use Rattle.layout.specs.Tables.{formed_in, table_in, laid_over}
use Rattle.rows.specs.Lookups.{at_spot, FoundAt}
use Rattle.rows.proofs.Rows.{Layout, formed_well, laid_same}
use Rattle.rows.proofs.Finds.{Names, row_nth, get_at, get_gap}
use Rattle.rows.proofs.Stores.{put_fits}
use Rattle.rows.proofs.Removals.{remove_holds, remove_laid, remove_gap}

module _ {R K : Type 0} {c : Codec R} {s k : ℕ} {form : R → Bool} {key : R → K} {order : K → K → Ordering} (L : Layout c s k form key order)
    (t : List ℕ) (e : formed_in c k form t ≡ true) (kb : List ℕ) (x : K) (n : Names L kb x) where
  spot_says : (o : Result ℕ ℕ) → o ≡ spot k kb (recs s t) → at_spot o (table_in c t).rows ≡ get key order x (table_in c t).rows
  spot_says (Ok i) p = row_nth L t i (E.at_in s k t kb i (Ok i) p refl) ∙ sym (get_at L kb x n t e i (sym p))
  spot_says (Err i) p = sym (get_gap L kb x n t e i (sym p))

  -- the record at the spot of a key is the one of the key
  pub spot_found : (o : Result ℕ ℕ) → o ≡ spot k kb (recs s t) → FoundAt key order c s k kb x t o
  spot_found o p = record { place = p; says = spot_says o p }

  -- where there is none, a removal changes nothing
  pub gap_kept : AreBytes t → (i : ℕ) → spot k kb (recs s t) ≡ Err i → t ≡ laid_over c (remove (λ r. compare_is_eq (order x (key r))) (table_in c t)) t
  gap_kept b i p = sym (ap (λ (w : Table R). laid_over c w t) (remove_gap L t e kb x n i p) ∙ laid_same L t b e)

  -- room freed by a removal is used again: the record of a key goes, and then any one record can be stored
  pub freed_room : (g : R) → get key order x (table_in c t).rows ≡ some g → (r : R) → form r ≡ true
      → let u = laid_over c (remove (λ r. compare_is_eq (order x (key r))) (table_in c t)) t in (formed_in c k form u ≡ true) × (fits (store key order r (table_in c u)) ≡ true)
  freed_room g h r f = (again, go (spot k kb (recs s t)) refl)
    where
      u : List ℕ
      u = laid_over c (remove (λ r. compare_is_eq (order x (key r))) (table_in c t)) t

      w : well_ordered s k t ≡ true
      w = formed_well L t e

      again : formed_in c k form u ≡ true
      again = (remove_holds L t e (λ r. compare_is_eq (order x (key r)))).again

      go : (o : Result ℕ ℕ) → spot k kb (recs s t) ≡ o → fits (store key order r (table_in c u)) ≡ true
      go (Err i) p = absurd (missing (get_gap L kb x n t e i p) h)
      go (Ok i) p =
          let l : i < count_of t = E.at_in s k t kb i (Ok i) (sym p) refl in
          let went : laid (removed i (recs s t)) t ≡ u = remove_laid L t e kb x n i p in
          let rows : recs s u ≡ removed i (recs s t) = ap (recs s) (sym went) ∙ (E.after_remove s k t i L.sized w l).rows in
          sym (put_fits L u again r f)
          ∙ ap (λ (rs : List (List ℕ)). B.fits s (T.put k (c.spell r) rs) u) rows
          ∙ ap (B.fits s (T.put k (c.spell r) (removed i (recs s t)))) (sym went)
          ∙ E.room_again s k t i (c.spell r) L.sized w l
