-- What `put` and `room` hand on and answer, by where the key stands; and the laws that callers cite of a table that was laid, and of one after a removal.
use Rattle.std.proofs.Common.{Result, Ok, Err}
use mathlib.Core.Path.{◌≡◌, sym, ap, ◌∙◌}
use mathlib.Core.Bool.{Bool, true}
use mathlib.Core.List.{List}
use Prim.Native.Nat.{ℕ, ◌+◌, ◌-◌, ◌*◌, ◌/◌, ◌≤◌, ◌<◌, min}
use native.Mathlib.Omega.{arith}
use native.Mathlib.Decide.{dec_lt}
use lib.ListN.{length, set}
use lib.Dec.{leb}
use borrow.Author.Tests.{le-leb, lt-leb}
use Rattle.table.specs.Records.{rises, spot, inserted, removed, put}
use Rattle.table.specs.Table.{Each, count_of, cap_of, recs, laid, well_ordered, holds, fits}
use Rattle.table.proofs.Rows.{cap_small, cap_room, room_cap, fits_cap, length_recs, each_recs, length_laid, count_of_laid, recs_laid}
use Rattle.table.proofs.Spots.{at_lt, gap_le, put_at, put_gap, length_put_at, length_put_gap, length_put_le, each_removed, rises_removed, length_removed}
use Rattle.table.proofs.Checks.{well_two, well_count, well_rises, well_room, well_made}

-- ---- room

-- the test with the count on the other side
leb_moved : (a n c : ℕ) → n ≤ c → leb a (c - n) ≡ leb (n + a) c
leb_moved a n c h = go (dec_lt c (n + a))
  where
    go : Dec (c < n + a) → leb a (c - n) ≡ leb (n + a) c
    go (yes l) = lt-leb a (c - n) (omega arith) ∙ sym (lt-leb (n + a) c l)
    go (no l) = le-leb a (c - n) (omega arith) ∙ sym (le-leb (n + a) c (omega arith))

pub room_left : (s : ℕ) (t : List ℕ) (m n c : ℕ) → count_of t ≤ cap_of s t → n ≡ count_of t → c ≡ cap_of s t → leb m (c - n) ≡ holds s (count_of t + m) t
unfolding holds
room_left s t m n c h e f = rw (e, f) (leb_moved m (count_of t) (cap_of s t) h)

pub fits_by : (s n : ℕ) (rs : List (List ℕ)) (t : List ℕ) → length rs ≡ n → fits s rs t ≡ holds s n t
fits_by s n rs t e = ap (λ (m : ℕ). holds s m t) e

pub holds_true : (s n : ℕ) (t : List ℕ) → n ≤ cap_of s t → holds s n t ≡ true
unfolding holds
holds_true s n t h = le-leb n (cap_of s t) h

-- ---- `put` and `room`, by where the key stands

module _ (s k : ℕ) (t r : List ℕ) (i : ℕ) (o : Result ℕ ℕ) (f : o ≡ spot k r (recs s t)) where
  -- the place of a record
  pub at_in : o ≡ Ok i → i < count_of t
  at_in e = omega (arith, at_lt k r (recs s t) i (sym f ∙ e), length_recs s t)

  pub at_ready : o ≡ Ok i → 0 < s → length r ≡ s → well_ordered s k t ≡ true → (0 < s) × (i < count_of t) × (count_of t ≤ cap_of s t) × (length r ≡ s)
  at_ready e p l w = (p, at_in e, well_count s k t w, l)

  one_more : o ≡ Err i → length (put k r (recs s t)) ≡ count_of t + 1
  one_more e = length_put_gap k r (recs s t) i (sym f ∙ e) ∙ ap (λ (n : ℕ). n + 1) (length_recs s t)

  pub gap_ready : o ≡ Err i → 0 < s → length r ≡ s → fits s (put k r (recs s t)) t ≡ true → (0 < s) × (i ≤ count_of t) × (count_of t < cap_of s t) × (length r ≡ s)
  gap_ready e p l g = (
    p,
    omega (arith, gap_le k r (recs s t) i (sym f ∙ e), length_recs s t),
    omega (arith, fits_cap s (length (put k r (recs s t))) t g, one_more e),
    l,
  )

  pub at_done : o ≡ Ok i → (q : List ℕ) → q ≡ laid (set (recs s t) i r) t → q ≡ laid (put k r (recs s t)) t
  at_done e q g = g ∙ ap (λ (l : List (List ℕ)). laid l t) (sym (put_at k r (recs s t) i (sym f ∙ e)))

  pub gap_done : o ≡ Err i → (q : List ℕ) → q ≡ laid (inserted i r (recs s t)) t → q ≡ laid (put k r (recs s t)) t
  gap_done e q g = g ∙ ap (λ (l : List (List ℕ)). laid l t) (sym (put_gap k r (recs s t) i (sym f ∙ e)))

  pub room_at : o ≡ Ok i → well_ordered s k t ≡ true → true ≡ fits s (put k r (recs s t)) t
  room_at e w =
      sym (fits_by s (count_of t) (put k r (recs s t)) t (length_put_at k r (recs s t) i (sym f ∙ e) ∙ length_recs s t)
      ∙ holds_true s (count_of t) t (well_count s k t w))

  pub room_gap : o ≡ Err i → (b : Bool) → b ≡ holds s (count_of t + 1) t → b ≡ fits s (put k r (recs s t)) t
  room_gap e b g = g ∙ sym (fits_by s (count_of t + 1) (put k r (recs s t)) t (one_more e))
  -- ---- what was found

-- ---- a table that was laid

pub record Holds (s k : ℕ) (rs : List (List ℕ)) (t u : List ℕ) : Type 0 where
  pub well : well_ordered s k u ≡ true
  pub rows : recs s u ≡ rs
  pub size : length u ≡ length t

pub laid_holds : (s k : ℕ) (rs : List (List ℕ)) (t : List ℕ) → 0 < s → 2 ≤ length t → Each s rs → fits s rs t ≡ true → rises k rs ≡ true → Holds s k rs t (laid rs t)
unfolding cap_of
laid_holds s k rs t p two e f r =
    let c : length rs ≤ cap_of s t = fits_cap s (length rs) t f in
    let h : 2 + length rs * s ≤ length t = cap_room s (length rs) t p two c in
    let small : length rs ≤ 65535 = cap_small s (length rs) t c in
    let l : length (laid rs t) ≡ length t = length_laid s rs t e h in
    let n : count_of (laid rs t) ≡ length rs = count_of_laid s rs t e h small in
    let rows : recs s (laid rs t) ≡ rs = recs_laid s rs t e h small in
    let g : count_of (laid rs t) ≤ cap_of s (laid rs t) = room_cap s (count_of (laid rs t)) (laid rs t) p (omega arith) (rw (n, l) h) in
    record {
      well = well_made s k (laid rs t) (omega arith) g ∙ rw rows r;
      rows = rows;
      size = l;
    }

pub after_remove : (s k : ℕ) (t : List ℕ) (i : ℕ) → 0 < s → well_ordered s k t ≡ true → i < count_of t
    → Holds s k (removed i (recs s t)) t (laid (removed i (recs s t)) t)
after_remove s k t i p w l =
    let n : length (removed i (recs s t)) ≡ count_of t - 1 = length_removed (recs s t) i (omega (arith, length_recs s t)) ∙ omega (arith, length_recs s t) in
    let f : fits s (removed i (recs s t)) t ≡ true = holds_true s (length (removed i (recs s t))) t (omega (arith, well_count s k t w)) in
    laid_holds s k (removed i (recs s t)) t p (well_two s k t w) (each_removed s (recs s t) i (each_recs s t (well_room s k t p w))) f (rises_removed k (recs s t) i (well_rises s k t w))

-- room that was freed is used again: after a removal any one record fits
pub room_again : (s k : ℕ) (t : List ℕ) (i : ℕ) (r : List ℕ) → 0 < s → well_ordered s k t ≡ true → i < count_of t → fits s (put k r (removed i (recs s t))) (laid (removed i (recs s t)) t) ≡ true
unfolding cap_of
room_again s k t i r p w l =
    let u : List ℕ = laid (removed i (recs s t)) t in
    let n : length (removed i (recs s t)) ≡ count_of t - 1 = length_removed (recs s t) i (omega (arith, length_recs s t)) ∙ omega (arith, length_recs s t) in
    let c : cap_of s u ≡ cap_of s t = ap (λ (m : ℕ). min ((m - 2) / s) 65535) (after_remove s k t i p w l).size in
    holds_true s (length (put k r (removed i (recs s t)))) u (omega (arith, length_put_le k r (removed i (recs s t)), well_count s k t w))
