-- A run of records removed: those behind it come down in one move, and the count falls. It is `laid_parts` with nothing in the place of the run.
use mathlib.Core.Path.{◌≡◌, sym, ap, ap₂, ◌∙◌}
use mathlib.Core.List.{List, [], ◌++◌}
use Prim.Native.Nat.{ℕ, ◌+◌, ◌-◌, ◌*◌, ◌≤◌}
use native.Mathlib.Omega.{arith}
use lib.ListN.{length, take, drop}
use Rattle.octets.specs.Bytes.{bytes_of, part}
use Rattle.octets.specs.Bytes as B
use Rattle.table.specs.Table.{count_of, recs, laid}
use Rattle.table.proofs.Rows.{rows_le, rows_sub, laid_parts, join_none}

module _ (s : ℕ) (t : List ℕ) (i j : ℕ) (ij : i ≤ j) (jn : j ≤ count_of t) (h : 2 + count_of t * s ≤ length t) (n : ℕ) (en : n ≡ count_of t) where
  -- where the move begins, and that it ends within t
  pub run_size : (i * s + (j - i) * s ≡ j * s) × (j * s + (n - j) * s + 2 ≤ length t)
  run_size = (omega (arith, rows_sub s ij), rw en (omega (arith, rows_sub s jn)))

  pub run_done : (t₁ t₂ : List ℕ) → t₁ ≡ B.put (2 + i * s) (part (2 + i * s + (j - i) * s) ((n - j) * s) t) t → t₂ ≡ B.put 0 (bytes_of 2 (n - (j - i))) t₁
      → t₂ ≡ laid (take i (recs s t) ++ drop j (recs s t)) t
  run_done t₁ t₂ e₁ e₂ =
      let at : ℕ = 2 + i * s in
      let m : ℕ = n - (j - i) in
      let w : at + (j - i) * s ≡ 2 + j * s = omega (arith, run_size.0) in
      let k : 2 + m * s ≤ length t = omega (arith, rows_le s {i = m} {n = count_of t} (omega arith)) in
      e₂
      ∙ ap (B.put 0 (bytes_of 2 m)) (e₁ ∙ ap₂ (λ (a b : ℕ). B.put at (part a ((b - j) * s) t) t) w en)
      ∙ ap (λ (y : List ℕ). B.put 0 (bytes_of 2 m) (B.put at (y ++ part (2 + j * s) ((count_of t - j) * s) t) t)) (sym join_none)
      ∙ laid_parts s t i j [] ij jn h tt m (omega arith) k
