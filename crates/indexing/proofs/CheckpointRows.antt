-- The rows of checkpoints: their bytes; and the loop that stores them one behind the other, whose first i rows are those of the
-- first i LSNs.
use Rattle.std.proofs.Common.{◌≡◌, ℕ, suc, ◌+◌, ◌*◌, ◌<◌, ◌≤◌, List, [], ◌∷◌, ◌++◌, map, length, get_or, take, sym, refl, ap, ◌∙◌, ap₂, add-one, arith, take-suc}
use Rattle.octets.specs.Bytes.{down, part, put}
use Rattle.octets.proofs.Numbers as N
use Rattle.octets.proofs.Places as P
use Rattle.basics.specs.declared.lsn.Lsn.{Lsn}
use Rattle.rules.proofs.TableLaws.{map-append}
use Rattle.table.specs.Table.{runs}
use Rattle.table.proofs.Rows.{runs_last, runs_same}
use Rattle.layout.specs.Records.{log_lsn_bytes, checkpoint_bytes}
use Rattle.indexing.specs.Rows.{checkpoint, checkpoint_row, listed, checkpoint_rows}

-- a checkpoint is its key
key_checkpoint : (log : List ℕ) (n : ℕ) → log_lsn_bytes.spell (log, n) ≡ checkpoint_row log n
unfolding checkpoint_bytes
key_checkpoint log n = refl

checkpoint_row_lem : (log : List ℕ) (n : ℕ) → checkpoint_row log n ≡ 0 ∷ (log ++ down 8 n)
unfolding checkpoint_bytes log_lsn_bytes
checkpoint_row_lem log n = refl

module _ (log : List ℕ) (h : length log ≡ 16) where
  checkpoint_long : (n : ℕ) → length (checkpoint_row log n) ≡ 25
  checkpoint_long n = ap length (checkpoint_row_lem log n) ∙ ap suc (P.length_two 16 8 log (down 8 n) h (N.length_down 8 n)) ∙ omega arith

-- ---- the loop that stores them

-- one row more behind i rows
row_behind : (s i : ℕ) (r t u : List ℕ) → length r ≡ s → i * s + s ≤ length t → u ≡ put (i * s) r t → runs (i + 1) s 0 u ≡ runs i s 0 t ++ r ∷ []
row_behind s i r t u e l g =
    let z : 0 + i * s ≡ i * s = omega arith in
    let lu : length u ≡ length t = ap length g ∙ P.length_put (i * s) r t (omega arith) in
    let front : runs i s 0 u ≡ runs i s 0 t = runs_same s i 0 0 u t (omega arith) (ap (part 0 (i * s)) g ∙ P.part_put_before (i * s) 0 (i * s) r t (omega arith) (omega arith)) in
    let back : part (0 + i * s) s u ≡ r = ap (λ (m : ℕ). part m s u) z ∙ ap (part (i * s) s) g ∙ P.part_put_same (i * s) s r t e (omega arith) in
    runs_last s i 0 u ∙ ap₂ (λ (a : List (List ℕ)) (b : List ℕ). a ++ b ∷ []) front back

-- one LSN more
listed_more : (lsns : List Lsn) (i : ℕ) → i < length lsns → listed lsns (i + 1) ≡ listed lsns i ++ (get_or lsns i (record { 0 = 0 })).0 ∷ []
listed_more lsns i l =
    ap (λ (m : ℕ). listed lsns m) (add-one i) ∙ ap (map (λ (x : Lsn). x.0)) (take-suc lsns i (record { 0 = 0 }) l) ∙ map-append (λ (x : Lsn). x.0) (take i lsns) (get_or lsns i (record { 0 = 0 }) ∷ [])

rows_more : (log xs : List ℕ) (n : ℕ) → checkpoint_rows log (xs ++ n ∷ []) ≡ checkpoint_rows log xs ++ checkpoint_row log n ∷ []
rows_more log xs n = ap (map checkpoint_bytes.spell) (map-append (checkpoint log) xs (n ∷ [])) ∙ map-append checkpoint_bytes.spell (map (checkpoint log) xs) (checkpoint log n ∷ [])

module _ (log : List ℕ) (h : length log ≡ 16) (lsns : List Lsn) where
  pub stored_none : (t : List ℕ) → runs 0 25 0 t ≡ checkpoint_rows log (listed lsns 0)
  unfolding runs
  stored_none t = refl

  pub stored_more : (i : ℕ) (k t u : List ℕ) → i < length lsns → i * 25 + 25 ≤ length t → k ≡ log_lsn_bytes.spell (log, (get_or lsns i (record { 0 = 0 })).0) → u ≡ put (i * 25) k t
      → runs i 25 0 t ≡ checkpoint_rows log (listed lsns i) → runs (i + 1) 25 0 u ≡ checkpoint_rows log (listed lsns (i + 1))
  stored_more i k t u l m e g w =
      let n : ℕ = (get_or lsns i (record { 0 = 0 })).0 in
      let f : k ≡ checkpoint_row log n = e ∙ key_checkpoint log n in
      row_behind 25 i k t u (ap length f ∙ checkpoint_long log h n) m g
      ∙ ap₂ (λ (a : List (List ℕ)) (b : List ℕ). a ++ b ∷ []) w f
      ∙ sym (ap (checkpoint_rows log) (listed_more lsns i l) ∙ rows_more log (listed lsns i) n)
