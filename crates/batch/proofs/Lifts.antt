-- One step of a merge from the back: the bytes that `move_records`, `lift` and `merge_next` leave. The record and what moved are one run of bytes.
use Rattle.std.proofs.Common.{Result, Ok, Err}
use mathlib.Core.Path.{◌≡◌, sym, ap, ◌∙◌}
use mathlib.Core.List.{List}
use Prim.Native.Nat.{ℕ, ◌+◌, ◌-◌, ◌*◌, ◌≤◌, ◌<◌}
use native.Mathlib.Nat.{add-mul}
use native.Mathlib.Omega.{arith}
use lib.ListN.{length}
use Rattle.octets.specs.Bytes.{part}
use Rattle.octets.specs.Bytes as B
use Rattle.octets.proofs.Places as P
use Rattle.table.specs.Records.{spot, place, hits, past}
use Rattle.table.specs.Table.{runs}
use Rattle.table.proofs.Rows.{rows_le, rows_sub, length_runs}
use Rattle.table.proofs.Spots.{at_lt, gap_le}
use Rattle.batch.specs.Batch.{lifted, Merged}

-- ---- the places

module _ (s q i d : ℕ) (qi : q ≤ i) where
  -- where the records that move begin and end, before and after
  pub move_rows : (q * s + d * s ≡ (q + d) * s) × ((i - q) * s + (q + d) * s ≡ (i + d) * s)
  move_rows =
      let e : i - q + (q + d) ≡ i + d = omega arith in
      (sym (add-mul q d s), sym (add-mul (i - q) (q + d) s) ∙ ap (λ (m : ℕ). m * s) e)

  -- and the place below them
  pub lift_rows : 1 ≤ q + d → ((q + d - 1) * s + s ≡ (q + d) * s) × ((i - q) * s + (q + d) * s ≡ (i + d) * s)
  lift_rows h =
      let f : q + d - 1 + 1 ≡ q + d = omega arith in
      (omega (arith, sym (add-mul (q + d - 1) 1 s) ∙ ap (λ (m : ℕ). m * s) f), move_rows.1)

-- ---- `move_records`

module _ (s q i d : ℕ) (t : List ℕ) where
  pub moved_none : q ≤ i → 2 + (i + d) * s ≤ length t → d ≡ 0 → t ≡ B.put (2 + (q + d) * s) (part (2 + q * s) ((i - q) * s) t) t
  moved_none qi h z =
      let e : q + d ≡ q = omega arith in
      let f : i + d ≡ i = omega arith in
      let g : 2 + q * s + (i - q) * s ≤ length t = omega (arith, rows_sub s qi, ap (λ (m : ℕ). m * s) f) in
      sym (ap (λ (m : ℕ). B.put (2 + m * s) (part (2 + q * s) ((i - q) * s) t) t) e ∙ P.put_part (2 + q * s) ((i - q) * s) t g)

  pub moved_by : (u : List ℕ) → u ≡ B.put (2 + q * s + d * s) (part (2 + q * s) ((i - q) * s) t) t → u ≡ B.put (2 + (q + d) * s) (part (2 + q * s) ((i - q) * s) t) t
  moved_by u e =
      let f : 2 + q * s + d * s ≡ 2 + (q + d) * s = omega (arith, add-mul q d s) in
      e ∙ ap (λ (m : ℕ). B.put m (part (2 + q * s) ((i - q) * s) t) t) f

-- ---- `lift`: t after the move is u, after the store v

pub lift_done : (s q i d : ℕ) (r t u v : List ℕ) → q ≤ i → 1 ≤ q + d → 2 + (i + d) * s ≤ length t → length r ≡ s
    → u ≡ B.put (2 + (q + d) * s) (part (2 + q * s) ((i - q) * s) t) t → v ≡ B.put (2 + (q + d - 1) * s) r u → v ≡ lifted s q i d r t
unfolding lifted
lift_done s q i d r t u v qi qd h e f g =
    let z = lift_rows s q i d qi qd in
    let w : ℕ = 2 + (q + d - 1) * s in
    let x : List ℕ = part (2 + q * s) ((i - q) * s) t in
    let p : 2 + (q + d) * s ≡ w + s = omega arith in
    let m : q * s ≤ (q + d) * s = rows_le s {i = q} {n = q + d} (omega arith) in
    let lx : length x ≡ (i - q) * s = P.length_part (2 + q * s) ((i - q) * s) t (omega arith) in
    g ∙ ap (B.put w r) (f ∙ ap (λ (n : ℕ). B.put n x t) p) ∙ P.put_front w s ((i - q) * s) r x t e lx (omega arith)

-- ---- `merge_next`, by where the record stands

module _ (s k i d : ℕ) (r t : List ℕ) (p : ℕ) (o : Result ℕ ℕ) (f : o ≡ spot k r (runs i s 2 t)) where
  pub next_at : o ≡ Ok p → p < i
  next_at e = omega (arith, at_lt k r (runs i s 2 t) p (sym f ∙ e), length_runs s i 2 t)

  pub next_gap : o ≡ Err p → 1 ≤ d + hits (spot k r (runs i s 2 t)) → (p ≤ i) × (1 ≤ d)
  next_gap e h = (
    omega (arith, gap_le k r (runs i s 2 t) p (sym f ∙ e), length_runs s i 2 t),
    omega (arith, ap hits (sym f ∙ e)),
  )

  pub next_at_done : o ≡ Ok p → (u : List ℕ) → u ≡ lifted s (p + 1) i d r t → Merged s k i d r t p d u
  next_at_done e u g =
      let z : spot k r (runs i s 2 t) ≡ Ok p = sym f ∙ e in
      record {
        left = sym (ap place z);
        coming = omega (arith, ap hits z);
        bytes = g ∙ ap (λ (q : ℕ). lifted s q i d r t) (sym (ap past z));
      }

  pub next_gap_done : o ≡ Err p → (u : List ℕ) → u ≡ lifted s p i d r t → Merged s k i d r t p (d - 1) u
  next_gap_done e u g =
      let z : spot k r (runs i s 2 t) ≡ Err p = sym f ∙ e in
      let q : p ≡ past (spot k r (runs i s 2 t)) = omega (arith, ap past z) in
      record {
        left = sym (ap place z);
        coming = omega (arith, ap hits z);
        bytes = g ∙ ap (λ (q : ℕ). lifted s q i d r t) q;
      }
