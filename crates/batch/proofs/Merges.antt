-- A merge from the back leaves what putting the records one by one leaves. `Merging` is the state between two steps: of the table t₀ the first i records stand as
-- they did, `todo` is what is still to come of the batch `all`, d of its keys new, and the records `made` stand in their places; `merging_start`, `merging_next` and
-- `merging_done` are the loop of a caller that makes its records one at a time, from the last down.
use mathlib.Core.Path.{◌≡◌, refl, sym, ap, ap₂, ◌∙◌, subst}
use mathlib.Core.Bool.{true}
use mathlib.Core.List.{List, [], ◌∷◌, ◌++◌, append_assoc, append-nil}
use Prim.Native.Nat.{ℕ, suc, ◌+◌, ◌-◌, ◌*◌, ◌≤◌, ◌<◌}
use native.Mathlib.Nat.{add-mul, zero-mul}
use native.Mathlib.Omega.{arith}
use lib.ListN.{length, take, drop, length-append, length-drop}
use lib.Seq.{take_all, take-take, length-take-le}
use Rattle.octets.specs.Bytes.{bytes_of, part}
use Rattle.octets.specs.Bytes as B
use Rattle.octets.proofs.Numbers as N
use Rattle.octets.proofs.Places as P
use Rattle.table.specs.Records.{rises, spot, place, hits, past}
use Rattle.table.specs.Table.{runs, join, Each, count_of, recs, laid, well_ordered, fits}
use Rattle.table.proofs.Keys.{rises_take}
use Rattle.table.proofs.Rows.{rows_le, rows_lt, length_runs, runs_last, take_runs, drop_runs, join_runs, runs_same, each_runs, length_join, join_append, join_none, join_cons, each_append, each_drop, length_recs, each_recs, cap_small, cap_room, fits_cap}
use Rattle.table.proofs.Checks.{well_two, well_rises, well_room}
use Rattle.batch.specs.Batch.{put_all, fresh, lifted, Merged}
use Rattle.batch.proofs.Puts.{each_put_all, length_put_all, news_rising}
use Rattle.batch.proofs.Lifts.{lift_rows}
use Rattle.batch.proofs.Lasts.{last_in, all_below, last_count}

-- e is the number of records after
pub record Merging (s k e i d : ℕ) (todo all : List (List ℕ)) (t₀ t : List ℕ) : Type 0 where
  pub made : List (List ℕ)
  pub each : Each s made
  pub split : put_all k all (recs s t₀) ≡ put_all k todo (take i (recs s t₀)) ++ made
  pub count : length (put_all k todo (take i (recs s t₀))) ≡ i + d
  pub within : i ≤ count_of t₀
  pub sum : i + d + length made ≡ e
  pub front : runs i s 2 t ≡ take i (recs s t₀)
  pub back : part (2 + (i + d) * s) (length made * s) t ≡ join made
  pub outside : (ys : List ℕ) → length ys ≡ e * s → B.put 2 ys t ≡ B.put 2 ys t₀
  pub size : length t ≡ length t₀

-- ---- what the caller knows: a table, a rising batch, the count of its new keys, and room

pub record Ready (s k c : ℕ) (all : List (List ℕ)) (t₀ : List ℕ) : Type 0 where
  pub some : 0 < s
  pub long : Each s all
  pub well : well_ordered s k t₀ ≡ true
  pub up : rises k all ≡ true
  pub new : c ≡ fresh k all (recs s t₀)
  pub room : fits s (put_all k all (recs s t₀)) t₀ ≡ true

module _ (s k c : ℕ) (all : List (List ℕ)) (t₀ : List ℕ) (y : Ready s k c all t₀) where
  -- the number of records after
  total_is : length (put_all k all (recs s t₀)) ≡ count_of t₀ + c
  total_is =
      length_put_all k all (recs s t₀) (well_rises s k t₀ y.well) ∙ omega (arith, length_recs s t₀, news_rising k all (recs s t₀) y.up, y.new)

  pub total_small : count_of t₀ + c ≤ 65535
  total_small = cap_small s (count_of t₀ + c) t₀ (rw total_is at (fits_cap s (length (put_all k all (recs s t₀))) t₀ y.room))

  pub total_room : 2 + (count_of t₀ + c) * s ≤ length t₀
  total_room = cap_room s (count_of t₀ + c) t₀ y.some (well_two s k t₀ y.well) (rw total_is at (fits_cap s (length (put_all k all (recs s t₀))) t₀ y.room))

  -- none stored yet
  pub merging_start : Merging s k (count_of t₀ + c) (count_of t₀) c all all t₀ t₀
  unfolding recs
  merging_start =
      let a : take (count_of t₀) (recs s t₀) ≡ recs s t₀ = take_all (count_of t₀) (recs s t₀) (omega (arith, length_recs s t₀)) in
      record {
        made = [];
        each = tt;
        split = rw a (sym (append-nil (put_all k all (recs s t₀))));
        count = rw a total_is;
        within = omega arith;
        sum = omega arith;
        front = sym a;
        back = ap (λ (m : ℕ). part (2 + (count_of t₀ + c) * s) m t₀) (zero-mul s) ∙ P.part_none (2 + (count_of t₀ + c) * s) t₀ ∙ sym join_none;
        outside = λ ys e. refl;
        size = refl;
      }

-- ---- one step: y is the next record down, rs are those before it

module _ (s k e i d : ℕ) (rs : List (List ℕ)) (y : List ℕ) (all : List (List ℕ)) (t₀ t : List ℕ) (w : well_ordered s k t₀ ≡ true) (up : rises k (rs ++ y ∷ []) ≡ true) (ly : length y ≡ s)
    (room : 2 + e * s ≤ length t₀) (q : Merging s k e i d (rs ++ y ∷ []) all t₀ t) where
  next_rises : rises k (runs i s 2 t) ≡ true
  next_rises = rw q.front (rises_take k i (recs s t₀) (well_rises s k t₀ w))

  next_room : 2 + (i + d) * s ≤ length t
  next_room = omega (arith, rows_le s {i = i + d} {n = e} (omega (arith, q.sum)), q.size)

  counted : (past (spot k y (runs i s 2 t)) ≤ i) × (1 ≤ d + hits (spot k y (runs i s 2 t)))
      × (length (put_all k rs (take (place (spot k y (runs i s 2 t))) (runs i s 2 t))) ≡ place (spot k y (runs i s 2 t)) + (d + hits (spot k y (runs i s 2 t)) - 1))
  counted =
      last_count k i d y rs (runs i s 2 t) (all_below k y rs up) next_rises (length_runs s i 2 t) (rw q.front q.count)

  -- what `merge_next` requires: y is held, or a new key is to come
  pub next_ready : k ≤ s → e ≤ 65535 → ((k ≤ s) × (i + d < 65536) × (2 + (i + d) * s ≤ length t) × (length y ≡ s)) × ((rises k (runs i s 2 t) ≡ true) × (1 ≤ d + hits (spot k y (runs i s 2 t))))
  next_ready ks small = ((ks, omega (arith, q.sum), next_room, ly), (next_rises, counted.1))

  -- p records are below y, and h have its key
  module _ (p h : ℕ) (ep : p ≡ place (spot k y (runs i s 2 t))) (eh : h ≡ hits (spot k y (runs i s 2 t))) (u : List ℕ) (eu : u ≡ lifted s (p + h) i d y t) where
    stepped : Merging s k e p (d + h - 1) rs all t₀ u
    unfolding lifted
    stepped =
        let l : List (List ℕ) = runs i s 2 t in
        let z : ℕ = p + h in
        let m : ℕ = (i - z) * s in
        let qi : z ≤ i = rw (ep, eh) counted.0 in
        let dh : 1 ≤ d + h = rw eh counted.1 in
        let rows = lift_rows s z i d qi (omega arith) in
        let at : ℕ = 2 + (z + d - 1) * s in
        let x : List ℕ = part (2 + z * s) m t in
        let zd : z * s ≤ (z + d) * s = rows_le s {i = z} {n = z + d} (omega arith) in
        let long : 2 + (i + d) * s ≤ length t = next_room in
        let lx : length x ≡ m = P.length_part (2 + z * s) m t (omega arith) in
        let lz : length (y ++ x) ≡ s + m = P.length_two s m y x ly lx in
        let ends : at + (s + m) ≡ 2 + (i + d) * s = omega arith in
        let pa : p * s ≤ (z + d - 1) * s = rows_le s {i = p} {n = z + d - 1} (omega arith) in
        let pi : p * s ≤ i * s = rows_le s {i = p} {n = i} (omega arith) in
        let id : i * s ≤ (i + d) * s = rows_le s {i = i} {n = i + d} (omega arith) in
        let same : take p l ≡ take p (recs s t₀) = ap (take p) q.front ∙ take-take p i (recs s t₀) (omega arith) in
        let xs : x ≡ join (drop z l) = sym (ap join (drop_runs s i 2 t z qi) ∙ join_runs s (i - z) (2 + z * s) t) in
        let lm : length (drop z l ++ q.made) ≡ i - z + length q.made = simp (length-append, length-drop) (omega (arith, length_runs s i 2 t)) in
        let pos : p + (d + h - 1) ≡ z + d - 1 = omega arith in
        let len : suc (length (drop z l ++ q.made)) * s ≡ s + m + length q.made * s =
        ap (λ (n : ℕ). suc n * s) lm ∙ omega (arith, add-mul (i - z) (length q.made) s) in
        record {
          made = y ∷ (drop z l ++ q.made);
          each = (ly, each_append s (drop z l) q.made (each_drop s z l (each_runs s i 2 t (omega arith))) q.each);
          split =
              q.split
              ∙ ap (λ (a : List (List ℕ)). put_all k (rs ++ y ∷ []) a ++ q.made) (sym q.front)
              ∙ ap (λ (a : List (List ℕ)). a ++ q.made) (last_in k y rs l (all_below k y rs up))
              ∙ rw (← ep, ← eh, same) (append_assoc (put_all k rs (take p (recs s t₀))) (y ∷ drop z l) q.made);
          count = rw (← same, ep, eh) counted.2;
          within = omega (arith, q.within);
          sum = omega (arith, q.sum);
          front =
              runs_same s p 2 2 u t (omega arith) (ap (part 2 (p * s)) eu ∙ P.part_put_before at 2 (p * s) (y ++ x) t (omega arith) (omega arith))
              ∙ sym (take_runs s i 2 t p (omega arith))
              ∙ same;
          back =
              ap₂ (λ (a b : ℕ). part (2 + a * s) b u) pos len
              ∙ P.part_add at (s + m) (length q.made * s) u
              ∙ ap₂ (λ (a b : List ℕ). a ++ b)
              (ap (part at (s + m)) eu ∙ P.part_put_same at (s + m) (y ++ x) t lz (omega arith))
              (ap (part (at + (s + m)) (length q.made * s)) eu
              ∙ P.part_put_after at (at + (s + m)) (length q.made * s) (y ++ x) t (omega arith) (omega arith)
              ∙ ap (λ (a : ℕ). part a (length q.made * s) t) ends
              ∙ q.back)
              ∙ append_assoc y x (join q.made)
              ∙ ap (λ (a : List ℕ). y ++ (a ++ join q.made)) xs
              ∙ ap (λ (a : List ℕ). y ++ a) (sym (join_append (drop z l) q.made))
              ∙ sym (join_cons y (drop z l ++ q.made));
          outside = λ ys ey.
              let ie : (i + d) * s ≤ e * s = rows_le s {i = i + d} {n = e} (omega (arith, q.sum)) in
              ap (B.put 2 ys) eu ∙ P.put_within 2 at (y ++ x) ys t (omega arith) (omega arith) (omega (arith, q.size)) ∙ q.outside ys ey;
          size = ap length eu ∙ P.length_put at (y ++ x) t (omega arith) ∙ q.size;
        }

  pub merging_next : (held coming : ℕ) (u : List ℕ) → Merged s k i d y t held coming u → Merging s k e held coming rs all t₀ u
  merging_next held coming u g =
      let b : past (spot k y (runs i s 2 t)) ≡ held + hits (spot k y (runs i s 2 t)) = ap (λ (n : ℕ). n + hits (spot k y (runs i s 2 t))) (sym g.left) in
      subst (λ (n : ℕ). Merging s k e held n rs all t₀ u) (sym g.coming)
      (stepped held (hits (spot k y (runs i s 2 t))) g.left refl u (g.bytes ∙ ap (λ (n : ℕ). lifted s n i d y t) b))

-- ---- all stored, and then the count

module _ (s k c i d : ℕ) (all : List (List ℕ)) (t₀ t : List ℕ) (y : Ready s k c all t₀) (q : Merging s k (count_of t₀ + c) i d [] all t₀ t) where
  pub merging_done : (u : List ℕ) → u ≡ B.put 0 (bytes_of 2 (count_of t₀ + c)) t → u ≡ laid (put_all k all (recs s t₀)) t₀
  unfolding laid
  merging_done u g =
      let e : ℕ = count_of t₀ + c in
      let after : List (List ℕ) = put_all k all (recs s t₀) in
      let n : length after ≡ e = total_is s k c all t₀ y in
      let room : 2 + e * s ≤ length t₀ = total_room s k c all t₀ y in
      let li : length (take i (recs s t₀)) ≡ i = length-take-le i (recs s t₀) (omega (arith, q.within, length_recs s t₀)) in
      let z : i + d ≡ i = omega (arith, q.count) in
      let es : i * s + length q.made * s ≡ e * s = sym (add-mul i (length q.made) s) ∙ ap (λ (m : ℕ). m * s) (omega (arith, q.sum)) in
      let each : Each s after = each_put_all s k all (recs s t₀) y.long (each_recs s t₀ (well_room s k t₀ y.some y.well)) in
      let lj : length (join after) ≡ e * s = length_join s after each ∙ ap (λ (m : ℕ). m * s) n in
      let body : part 2 (e * s) t ≡ join after =
      ap (λ (m : ℕ). part 2 m t) (sym es)
      ∙ P.part_add 2 (i * s) (length q.made * s) t
      ∙ ap₂ (λ (a b : List ℕ). a ++ b)
      (sym (join_runs s i 2 t) ∙ ap join q.front)
      (ap (λ (m : ℕ). part (2 + m * s) (length q.made * s) t) (sym z) ∙ q.back)
      ∙ sym (join_append (take i (recs s t₀)) q.made)
      ∙ ap join (sym q.split) in
      let whole : t ≡ B.put 2 (join after) t₀ =
      sym (P.put_part 2 (e * s) t (omega (arith, q.size))) ∙ ap (λ (a : List ℕ). B.put 2 a t) body ∙ q.outside (join after) lj in
      g
      ∙ ap (B.put 0 (bytes_of 2 e)) whole
      ∙ P.put_front 0 2 (e * s) (bytes_of 2 e) (join after) t₀ (N.length_bytes_of 2 e) lj (omega arith)
      ∙ ap (λ (m : ℕ). B.put 0 (bytes_of 2 m ++ join after) t₀) (sym n)

-- ---- `merge`: the batch stands in a slice, j of its records are still to come

pub item_in : (s n : ℕ) (b : List ℕ) → n * s ≤ length b → (j : ℕ) → 0 < j → j ≤ n → (j - 1) * s + s ≤ length b
item_in s n b lb j h jn = omega (arith, rows_lt s {i = j - 1} {n = n} (omega arith))

module _ (s k n c : ℕ) (b t₀ : List ℕ) (y : Ready s k c (runs n s 0 b) t₀) (lb : n * s ≤ length b) (j i d : ℕ) (t : List ℕ) (h : 0 < j) (jn : j ≤ n)
    (q : Merging s k (count_of t₀ + c) i d (runs j s 0 b) (runs n s 0 b) t₀ t) where
  last_item : runs j s 0 b ≡ runs (j - 1) s 0 b ++ part ((j - 1) * s) s b ∷ []
  last_item =
      let e : j ≡ j - 1 + 1 = omega arith in
      let z : 0 + (j - 1) * s ≡ (j - 1) * s = omega arith in
      ap (λ (m : ℕ). runs m s 0 b) e ∙ runs_last s (j - 1) 0 b ∙ ap (λ (m : ℕ). runs (j - 1) s 0 b ++ part m s b ∷ []) z

  item_long : length (part ((j - 1) * s) s b) ≡ s
  item_long = P.length_part ((j - 1) * s) s b (item_in s n b lb j h jn)

  items_rise : rises k (runs (j - 1) s 0 b ++ part ((j - 1) * s) s b ∷ []) ≡ true
  items_rise = subst (λ (rs : List (List ℕ)). rises k rs ≡ true) (take_runs s n 0 b j jn ∙ last_item) (rises_take k j (runs n s 0 b) y.up)

  state : Merging s k (count_of t₀ + c) i d (runs (j - 1) s 0 b ++ part ((j - 1) * s) s b ∷ []) (runs n s 0 b) t₀ t
  state = subst (λ (rs : List (List ℕ)). Merging s k (count_of t₀ + c) i d rs (runs n s 0 b) t₀ t) last_item q

  pub item_ready : k ≤ s → ((k ≤ s) × (i + d < 65536) × (2 + (i + d) * s ≤ length t) × (length (part ((j - 1) * s) s b) ≡ s))
      × ((rises k (runs i s 2 t) ≡ true) × (1 ≤ d + hits (spot k (part ((j - 1) * s) s b) (runs i s 2 t))))
  item_ready ks =
      next_ready s k (count_of t₀ + c) i d (runs (j - 1) s 0 b) (part ((j - 1) * s) s b) (runs n s 0 b) t₀ t y.well items_rise item_long (total_room s k c (runs n s 0 b) t₀ y) state
      ks (total_small s k c (runs n s 0 b) t₀ y)

  pub item_next : (held coming : ℕ) (u : List ℕ) → Merged s k i d (part ((j - 1) * s) s b) t held coming u
      → Merging s k (count_of t₀ + c) held coming (runs (j - 1) s 0 b) (runs n s 0 b) t₀ u
  item_next =
      merging_next s k (count_of t₀ + c) i d (runs (j - 1) s 0 b) (part ((j - 1) * s) s b) (runs n s 0 b) t₀ t y.well items_rise item_long (total_room s k c (runs n s 0 b) t₀ y) state

pub batch_ready : (s k n c : ℕ) (b t₀ : List ℕ) → 0 < s → n * s ≤ length b → well_ordered s k t₀ ≡ true → rises k (runs n s 0 b) ≡ true → c ≡ fresh k (runs n s 0 b) (recs s t₀)
    → fits s (put_all k (runs n s 0 b) (recs s t₀)) t₀ ≡ true → Ready s k c (runs n s 0 b) t₀
batch_ready s k n c b t₀ p lb w up e f = record {
  some = p;
  long = each_runs s n 0 b (omega arith);
  well = w;
  up = up;
  new = e;
  room = f;
}

-- no record is left
pub none_left : (s k e i d j : ℕ) (all : List (List ℕ)) (b t₀ t : List ℕ) → j ≡ 0 → Merging s k e i d (runs j s 0 b) all t₀ t → Merging s k e i d [] all t₀ t
unfolding runs
none_left s k e i d j all b t₀ t z q = subst (λ (m : ℕ). Merging s k e i d (runs m s 0 b) all t₀ t) z q
