-- The check of a table, and the search by halving: what `well_ordered` says, a turn of the check of the order, and a turn of the search.
use Rattle.std.proofs.Common.{Ok, Err}
use mathlib.Core.Path.{◌≡◌, refl, sym, ap, ◌∙◌}
use mathlib.Core.Bool.{Bool, true, false, not, ◌&&◌}
use mathlib.Core.List.{List, [], ◌∷◌}
use Prim.Native.Nat.{ℕ, zero, suc, ◌+◌, ◌-◌, ◌*◌, ◌≤◌, ◌<◌}
use native.Mathlib.Nat.{zero-mul}
use native.Mathlib.Omega.{arith}
use lib.ListN.{length, get_or}
use lib.Dec.{leb}
use borrow.Author.Tests.{leb-true, le-leb, lt-leb, not-true, not-false}
use Rattle.octets.specs.Bytes.{part}
use Rattle.octets.specs.Order.{lex, is_less, is_equal}
use Rattle.table.specs.Records.{cmp, rises, spot, place}
use Rattle.table.specs.Table.{runs, count_of, cap_of, recs, well_ordered}
use Rattle.table.proofs.Keys.{both_true}
use Rattle.table.proofs.Rows.{length_runs, runs_at, recs_are, key_at, cap_room}
use Rattle.table.proofs.Spots.{place_below, place_above, spot_end, spot_hit, spot_miss}

-- ---- what a table is

module _ (s k : ℕ) (t : List ℕ) where
  well_parts : well_ordered s k t ≡ true → (2 ≤ length t) × (count_of t ≤ cap_of s t) × (rises k (recs s t) ≡ true)
  unfolding well_ordered
  well_parts h =
      let a = both_true (leb 2 (length t)) (leb (count_of t) (cap_of s t) && rises k (recs s t)) h in
      let b = both_true (leb (count_of t) (cap_of s t)) (rises k (recs s t)) a.1 in
      (leb-true 2 (length t) a.0, leb-true (count_of t) (cap_of s t) b.0, b.1)

  pub well_two : well_ordered s k t ≡ true → 2 ≤ length t
  well_two w = (well_parts w).0

  pub well_count : well_ordered s k t ≡ true → count_of t ≤ cap_of s t
  well_count w = (well_parts w).1

  pub well_rises : well_ordered s k t ≡ true → rises k (recs s t) ≡ true
  well_rises w = (well_parts w).2

  pub well_room : 0 < s → well_ordered s k t ≡ true → 2 + count_of t * s ≤ length t
  well_room p w = cap_room s (count_of t) t p (well_two w) (well_count w)

  pub well_made : 2 ≤ length t → count_of t ≤ cap_of s t → well_ordered s k t ≡ rises k (recs s t)
  unfolding well_ordered
  well_made h g = simp (le-leb 2 (length t) h, le-leb (count_of t) (cap_of s t) g)

  pub well_short : length t < 2 → well_ordered s k t ≡ false
  unfolding well_ordered
  well_short h = simp (lt-leb 2 (length t) h)

  pub well_over : 2 ≤ length t → cap_of s t < count_of t → well_ordered s k t ≡ false
  unfolding well_ordered
  well_over h g = simp (le-leb 2 (length t) h, lt-leb (count_of t) (cap_of s t) g)

  -- what a search among all records needs
  pub ready : 0 < s → well_ordered s k t ≡ true → (n : ℕ) → n ≡ count_of t → (2 + n * s ≤ length t) × (rises k (runs n s 2 t) ≡ true)
  ready p w n e = (rw e (well_room p w), rw (recs_are s n t e) (well_rises w))

  -- the answer of `in_order` is that of the whole
  pub well_checked : (n : ℕ) (r : Bool) → n ≡ count_of t → 2 ≤ length t → n ≤ cap_of s t → r ≡ rises k (runs n s 2 t) → r ≡ well_ordered s k t
  unfolding recs
  well_checked n r e h g f = f ∙ ap (λ (m : ℕ). rises k (runs m s 2 t)) e ∙ sym (well_made h (rw e at g))

-- ---- the keys rise: a pair a turn

-- that the keys from that of record i - 1 on rise
unfoldable pub ahead : ℕ → ℕ → ℕ → ℕ → List ℕ → Bool
ahead s k n i t = rises k (runs (suc (n - i)) s (2 + (i - 1) * s) t)

module _ (s k n : ℕ) (t : List ℕ) where
  pub ahead_start : rises k (runs n s 2 t) ≡ ahead s k n 1 t
  unfolding ahead runs
  ahead_start = rw zero-mul (go n)
    where
      go : (m : ℕ) → rises k (runs m s 2 t) ≡ rises k (runs (suc (m - 1)) s 2 t)
      go zero = refl
      go (suc m) =
          let e : suc m - 1 ≡ m = omega arith in
          rw e

  module _ (i : ℕ) (h : k ≤ s) (o : 1 ≤ i) (l : i < n) (b : Bool) (e : b ≡ is_less (lex (part (2 + i * s - s) k t) (part (2 + i * s) k t))) where
    ahead_pair : ahead s k n i t ≡ (b && ahead s k n (i + 1) t)
    unfolding ahead runs
    ahead_pair =
        let f : n - i ≡ suc (n - (i + 1)) = omega arith in
        let up : i ≡ suc (i - 1) = omega arith in
        let row : i * s ≡ suc (i - 1) * s = ap (λ (m : ℕ). m * s) up in
        let next : 2 + (i - 1) * s + s ≡ 2 + i * s = omega (arith, row) in
        let at : 2 + (i - 1) * s ≡ 2 + i * s - s = omega (arith, row) in
        let j : i + 1 - 1 ≡ i = omega arith in
        rw (e, f, next, at, j, key_at s k (2 + i * s - s) t h, key_at s k (2 + i * s) t h)
        (ap (λ (m : ℕ). is_less (lex (part (2 + i * s - s) k t) (part (2 + i * s) k t)) && rises k (part m s t ∷ runs (n - (i + 1)) s (2 + i * s + s) t)) next)

    pub ahead_more : not b ≡ false → ahead s k n i t ≡ ahead s k n (i + 1) t
    ahead_more f = ahead_pair ∙ rw (not-false b f)

    pub ahead_not : not b ≡ true → ahead s k n i t ≡ false
    ahead_not f = ahead_pair ∙ rw (not-true b f)

  pub ahead_end : (i : ℕ) → n ≤ i → ahead s k n i t ≡ true
  unfolding ahead runs
  ahead_end i h =
      let f : n - i ≡ 0 = omega arith in
      rw f

-- ---- the search among the first n records

module _ (s k n : ℕ) (t key : List ℕ) (h : k ≤ s) where
  -- the key of record m, read in place
  in_place : (m : ℕ) → m < n → lex (part (2 + m * s) k t) (part 0 k key) ≡ cmp k (get_or (runs n s 2 t) m []) key
  in_place m l = ap (λ (r : List ℕ). lex r (part 0 k key)) (sym (ap (part 0 k) (runs_at s n 2 t m l) ∙ key_at s k (2 + m * s) t h))

  module _ (m : ℕ) (l : m < n) (b : Bool) (e : b ≡ is_less (lex (part (2 + m * s) k t) (part 0 k key))) where
    pub seek_up : rises k (runs n s 2 t) ≡ true → b ≡ true → m + 1 ≤ place (spot k key (runs n s 2 t))
    seek_up r f =
        omega (arith, place_below k key (runs n s 2 t) m r (omega (arith, length_runs s n 2 t)) (ap is_less (sym (in_place m l)) ∙ sym e ∙ f))

    pub seek_down : b ≡ false → place (spot k key (runs n s 2 t)) ≤ m
    seek_down f = place_above k key (runs n s 2 t) m (omega (arith, length_runs s n 2 t)) (ap is_less (sym (in_place m l)) ∙ sym e ∙ f)

  -- the spot by its place
  module _ (i : ℕ) (p : i ≡ place (spot k key (runs n s 2 t))) where
    pub find_end : i ≡ n → spot k key (runs n s 2 t) ≡ Err i
    find_end e = spot_end k key (runs n s 2 t) i p (e ∙ sym (length_runs s n 2 t))

    module _ (l : i < n) (b : Bool) (e : b ≡ is_equal (lex (part (2 + i * s) k t) (part 0 k key))) where
      pub find_hit : b ≡ true → spot k key (runs n s 2 t) ≡ Ok i
      find_hit f = spot_hit k key (runs n s 2 t) i p (ap is_equal (sym (in_place i l)) ∙ sym e ∙ f) (omega (arith, length_runs s n 2 t))

      pub find_miss : b ≡ false → spot k key (runs n s 2 t) ≡ Err i
      find_miss f = spot_miss k key (runs n s 2 t) i p (ap is_equal (sym (in_place i l)) ∙ sym e ∙ f)
