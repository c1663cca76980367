-- What the three calls that change one record leave, from what the calls within ensure, one after another: each is a case of `laid_parts`.
use mathlib.Core.Path.{◌≡◌, sym, ap, ap₂, ◌∙◌}
use mathlib.Core.List.{List, [], ◌∷◌, ◌++◌}
use Prim.Native.Nat.{ℕ, suc, ◌+◌, ◌-◌, ◌*◌, ◌≤◌, ◌<◌}
use native.Mathlib.Omega.{arith}
use lib.ListN.{length, set}
use lib.Seq.{set_split}
use Rattle.octets.specs.Bytes.{bytes_of, part, AreBytes}
use Rattle.octets.specs.Bytes as B
use Rattle.octets.proofs.Places as P
use Rattle.table.specs.Records.{inserted, removed}
use Rattle.table.specs.Table.{join, count_of, cap_of, recs, laid}
use Rattle.table.proofs.Rows.{rows_le, rows_lt, rows_sub, cap_two, length_recs, laid_parts, join_one, join_none}

module _ (s : ℕ) (t : List ℕ) (i : ℕ) (p : 0 < s) where
  -- ---- record i overwritten

  -- the places are within t
  pub overwrite_size : i < count_of t → count_of t ≤ cap_of s t → 2 + i * s + s ≤ length t
  overwrite_size l c = omega (arith, rows_lt s l, cap_two s (count_of t) t p (omega arith) c)

  pub overwrite_done : (r u : List ℕ) → AreBytes t → i < count_of t → count_of t ≤ cap_of s t → length r ≡ s → u ≡ B.put (2 + i * s) r t → u ≡ laid (set (recs s t) i r) t
  unfolding count_of
  overwrite_done r u b l c e f =
      let n : ℕ = count_of t in
      let at : ℕ = 2 + i * s in
      let m : ℕ = (n - suc i) * s in
      let h : 2 + n * s ≤ length t = cap_two s n t p (omega arith) c in
      let k : m + suc i * s ≡ n * s = rows_sub s l in
      let w : 2 + suc i * s ≡ at + s = omega arith in
      let rest : List ℕ = part (2 + suc i * s) m t in
      let x : List ℕ = B.put at r t in
      let lx : length x ≡ length t = P.length_put at r t (omega arith) in
      let same : rest ≡ part (at + s) m x =
      ap (λ (q : ℕ). part q m t) w ∙ sym (P.part_put_after at (at + s) m r t (omega arith) (omega arith)) in
      let body : B.put at (r ++ rest) t ≡ x =
      sym (P.put_next at s m r rest t e (P.length_part (2 + suc i * s) m t (omega arith)) (omega arith))
      ∙ ap (λ (y : List ℕ). B.put (at + s) y x) same ∙ P.put_part (at + s) m x (omega arith) in
      let head : bytes_of 2 n ≡ part 0 2 x = P.bytes_at 0 2 t b (omega arith) ∙ sym (P.part_put_before at 0 2 r t (omega arith) (omega arith)) in
      f
      ∙ sym (P.put_part 0 2 x (omega arith))
      ∙ ap₂ (λ (c y : List ℕ). B.put 0 c y) (sym head) (sym body)
      ∙ ap (λ (q : List ℕ). B.put 0 (bytes_of 2 n) (B.put at (q ++ rest) t)) (sym (join_one r))
      ∙ laid_parts s t i (suc i) (r ∷ []) (omega arith) l h (e, tt) n (omega arith) h
      ∙ ap (λ (rs : List (List ℕ)). laid rs t) (sym (set_split (recs s t) i r (omega (arith, length_recs s t))))

  -- ---- r inserted before record i

  pub insert_size : (n : ℕ) → n ≡ count_of t → i ≤ count_of t → count_of t < cap_of s t → 2 + i * s + s + (n - i) * s ≤ length t
  insert_size n en l c = rw en (omega (arith, rows_sub s l, cap_two s (count_of t + 1) t p (omega arith) (omega arith)))

  pub insert_done : (n : ℕ) (r t₁ t₂ t₃ : List ℕ) → n ≡ count_of t → i ≤ count_of t → count_of t < cap_of s t → length r ≡ s
      → t₁ ≡ B.put (2 + i * s + s) (part (2 + i * s) ((n - i) * s) t) t → t₂ ≡ B.put (2 + i * s) r t₁ → t₃ ≡ B.put 0 (bytes_of 2 (n + 1)) t₂ → t₃ ≡ laid (inserted i r (recs s t)) t
  insert_done n r t₁ t₂ t₃ en l c e e₁ e₂ e₃ =
      let at : ℕ = 2 + i * s in
      let m : ℕ = (n - i) * s in
      let h : 2 + (n + 1) * s ≤ length t = cap_two s (n + 1) t p (omega arith) (omega arith) in
      let z = insert_size n en l c in
      let g : 2 + count_of t * s ≤ length t = omega (arith, rows_le s {i = count_of t} {n = n + 1} (omega arith)) in
      let x : List ℕ = part at m t in
      e₃
      ∙ ap (B.put 0 (bytes_of 2 (n + 1))) (e₂ ∙ ap (B.put at r) e₁ ∙ P.put_front at s m r x t e (P.length_part at m t (omega arith)) (omega arith))
      ∙ ap (λ (q : List ℕ). B.put 0 (bytes_of 2 (n + 1)) (B.put at (q ++ x) t)) (sym (join_one r))
      ∙ ap (λ (q : ℕ). B.put 0 (bytes_of 2 (n + 1)) (B.put at (join (r ∷ []) ++ part at ((q - i) * s) t) t)) en
      ∙ laid_parts s t i i (r ∷ []) (omega arith) l g (e, tt) (n + 1) (omega arith) h

  -- ---- record i removed

  pub remove_size : (n : ℕ) → n ≡ count_of t → i < count_of t → count_of t ≤ cap_of s t → 2 + i * s + s + (n - i - 1) * s ≤ length t
  remove_size n en l c =
      let q : count_of t - suc i ≡ count_of t - i - 1 = omega arith in
      rw (en, ← q) (omega (arith, rows_sub s l, cap_two s (count_of t) t p (omega arith) c))

  pub remove_done : (n : ℕ) (t₁ t₂ : List ℕ) → n ≡ count_of t → i < count_of t → count_of t ≤ cap_of s t
      → t₁ ≡ B.put (2 + i * s) (part (2 + i * s + s) ((n - i - 1) * s) t) t → t₂ ≡ B.put 0 (bytes_of 2 (n - 1)) t₁ → t₂ ≡ laid (removed i (recs s t)) t
  remove_done n t₁ t₂ en l c e₁ e₂ =
      let at : ℕ = 2 + i * s in
      let h : 2 + count_of t * s ≤ length t = cap_two s (count_of t) t p (omega arith) c in
      let w : at + s ≡ 2 + suc i * s = omega arith in
      let q : n - i - 1 ≡ count_of t - suc i = omega arith in
      let k : 2 + (n - 1) * s ≤ length t = omega (arith, rows_le s {i = n - 1} {n = count_of t} (omega arith)) in
      e₂
      ∙ ap (B.put 0 (bytes_of 2 (n - 1))) (e₁ ∙ ap₂ (λ (a b : ℕ). B.put at (part a (b * s) t) t) w q)
      ∙ ap (λ (y : List ℕ). B.put 0 (bytes_of 2 (n - 1)) (B.put at (y ++ part (2 + suc i * s) ((count_of t - suc i) * s) t) t)) (sym join_none)
      ∙ laid_parts s t i (suc i) [] (omega arith) l h tt (n - 1) (omega arith) k
