-- The last record of a rising batch: after all are put, what the others leave of the records below it, then it, then what was above it (`last_in`).
-- So a batch can be put in from its last record down, and each record that is held moves at most once; and its new keys can be counted from the last down,
-- each sought among the records below the one before (`fresh_last`).
use mathlib.Core.Path.{◌≡◌, refl, sym, ap, ◌∙◌}
use mathlib.Core.Bool.{true}
use mathlib.Core.List.{List, [], ◌∷◌, ◌++◌, append-nil}
use Prim.Native.Nat.{ℕ, zero, suc, ◌+◌, ◌-◌, ◌≤◌}
use native.Mathlib.Omega.{arith}
use lib.ListN.{length, take, drop, length-append, length-drop, take-append-drop}
use lib.Seq.{length-take-le}
use Rattle.std.proofs.Common.{Ordering, Less, Equal, Greater, Result, Ok, Err}
use Rattle.table.specs.Records.{cmp, rises, spot_by, spot, place, hits, past, put_by, put}
use Rattle.table.proofs.Keys.{less_turned, greater_turned, cmp_right, cmp_trans, rises_head, rises_tail, rises_cons, rises_skip, rises_take}
use Rattle.table.proofs.Spots.{past_le}
use Rattle.batch.specs.Batch.{put_all, lacks, fresh}
use Rattle.batch.proofs.Puts.{put_all_append, length_put_all_le, lacks_none, lacks_append, lacks_later, fresh_append}

-- every record of l is below y
abbrev Below : ℕ → List (List ℕ) → List ℕ → Type 0
Below k [] y = Unit {0}
Below k (x ∷ l) y = (cmp k x y ≡ Less) × Below k l y

-- what is below y is below the first record of m
abbrev Above : ℕ → List ℕ → List (List ℕ) → Type 0
Above k y [] = Unit {0}
Above k y (x ∷ m) = (r : List ℕ) → cmp k r y ≡ Less → cmp k r x ≡ Less

-- ---- the records before and after the spot of y

module _ (k : ℕ) (y : List ℕ) where
  below_step : (x : List ℕ) (l : List (List ℕ)) (o : Ordering) (q : Result ℕ ℕ) → cmp k y x ≡ o → Below k (take (place q) l) y → Below k (take (place (spot_by o q)) (x ∷ l)) y
  below_step x l Less q e h = tt
  below_step x l Equal q e h = tt
  below_step x l Greater (Ok i) e h = (greater_turned k y x e, h)
  below_step x l Greater (Err i) e h = (greater_turned k y x e, h)

  below_spot : (l : List (List ℕ)) → Below k (take (place (spot k y l)) l) y
  below_spot [] = tt
  below_spot (x ∷ l) = below_step x l (cmp k y x) (spot k y l) refl (below_spot l)

  above_step : (x : List ℕ) (l : List (List ℕ)) (o : Ordering) (q : Result ℕ ℕ) → cmp k y x ≡ o → Above k y (drop (place q) l) → Above k y (drop (place (spot_by o q)) (x ∷ l))
  above_step x l Less q e h = λ r g. cmp_trans k r y x g e
  above_step x l Equal q e h = λ r g. sym (cmp_right k y x e r) ∙ g
  above_step x l Greater (Ok i) e h = h
  above_step x l Greater (Err i) e h = h

  above_spot : (l : List (List ℕ)) → Above k y (drop (place (spot k y l)) l)
  above_spot [] = tt
  above_spot (x ∷ l) = above_step x l (cmp k y x) (spot k y l) refl (above_spot l)

  put_step : (x : List ℕ) (l : List (List ℕ)) (o : Ordering) (q : Result ℕ ℕ) → cmp k y x ≡ o → put k y (drop (place q) l) ≡ y ∷ drop (past q) l
      → put k y (drop (place (spot_by o q)) (x ∷ l)) ≡ y ∷ drop (past (spot_by o q)) (x ∷ l)
  put_step x l Less q e h = rw e
  put_step x l Equal q e h = rw e
  put_step x l Greater (Ok i) e h =
      let n : suc i + 1 ≡ suc (i + 1) = omega arith in
      rw n h
  put_step x l Greater (Err i) e h =
      let n : suc i + 0 ≡ suc (i + 0) = omega arith in
      rw n h

  put_spot : (l : List (List ℕ)) → put k y (drop (place (spot k y l)) l) ≡ y ∷ drop (past (spot k y l)) l
  put_spot [] = refl
  put_spot (x ∷ l) = put_step x l (cmp k y x) (spot k y l) refl (put_spot l)

-- ---- `put` beside records that it does not reach

put_in : (k : ℕ) (r x : List ℕ) (l m : List (List ℕ)) → cmp k r x ≡ Less → put k r (l ++ x ∷ m) ≡ put k r l ++ x ∷ m
put_in k r x [] m h = rw h
put_in k r x (z ∷ l) m h = go (cmp k r z) (put_in k r x l m h)
  where
    go : (o : Ordering) → put k r (l ++ x ∷ m) ≡ put k r l ++ x ∷ m → put_by o r z (l ++ x ∷ m) (put k r (l ++ x ∷ m)) ≡ put_by o r z l (put k r l) ++ x ∷ m
    go Less rest = refl
    go Equal rest = refl
    go Greater rest = ap (λ (q : List (List ℕ)). z ∷ q) rest

put_under : (k : ℕ) (r y : List ℕ) (l m : List (List ℕ)) → cmp k r y ≡ Less → Above k y m → put k r (l ++ m) ≡ put k r l ++ m
put_under k r y l [] h a = rw (append-nil l, append-nil (put k r l))
put_under k r y l (x ∷ m) h a = put_in k r x l m (a r h)

put_all_under : (k : ℕ) (y : List ℕ) (rs l m : List (List ℕ)) → Below k rs y → Above k y m → put_all k rs (l ++ m) ≡ put_all k rs l ++ m
put_all_under k y [] l m b a = refl
put_all_under k y (r ∷ rs) l m b a = ap (put_all k rs) (put_under k r y l m b.0 a) ∙ put_all_under k y rs (put k r l) m b.1 a

put_over : (k : ℕ) (y : List ℕ) (l m : List (List ℕ)) → Below k l y → put k y (l ++ m) ≡ l ++ put k y m
put_over k y [] m b = refl
put_over k y (x ∷ l) m b = rw (less_turned k x y b.0, put_over k y l m b.1)

below_by : (k : ℕ) (y r x : List ℕ) (l p : List (List ℕ)) (o : Ordering) → cmp k r y ≡ Less → Below k (x ∷ l) y → Below k p y → Below k (put_by o r x l p) y
below_by k y r x l p Less h b g = (h, b)
below_by k y r x l p Equal h b g = (h, b.1)
below_by k y r x l p Greater h b g = (b.0, g)

below_put : (k : ℕ) (y r : List ℕ) (l : List (List ℕ)) → cmp k r y ≡ Less → Below k l y → Below k (put k r l) y
below_put k y r [] h b = (h, tt)
below_put k y r (x ∷ l) h b = below_by k y r x l (put k r l) (cmp k r x) h b (below_put k y r l h b.1)

below_put_all : (k : ℕ) (y : List ℕ) (rs l : List (List ℕ)) → Below k rs y → Below k l y → Below k (put_all k rs l) y
below_put_all k y [] l b g = g
below_put_all k y (r ∷ rs) l b g = below_put_all k y rs (put k r l) b.1 (below_put k y r l b.0 g)

-- ---- the last record of the batch

pub last_in : (k : ℕ) (y : List ℕ) (rs l : List (List ℕ)) → Below k rs y
    → put_all k (rs ++ y ∷ []) l ≡ put_all k rs (take (place (spot k y l)) l) ++ y ∷ drop (past (spot k y l)) l
last_in k y rs l b =
    let p : ℕ = place (spot k y l) in
    put_all_append k rs (y ∷ []) l
    ∙ ap (λ (m : List (List ℕ)). put k y (put_all k rs m)) (sym (take-append-drop p l))
    ∙ ap (put k y) (put_all_under k y rs (take p l) (drop p l) b (above_spot k y l))
    ∙ put_over k y (put_all k rs (take p l)) (drop p l) (below_put_all k y rs (take p l) b (below_spot k y l))
    ∙ ap (λ (m : List (List ℕ)). put_all k rs (take p l) ++ m) (put_spot k y l)

first_below : (k : ℕ) (x y : List ℕ) (l : List (List ℕ)) → rises k (x ∷ (l ++ y ∷ [])) ≡ true → cmp k x y ≡ Less
first_below k x y [] h = rises_head k x y [] h
first_below k x y (z ∷ l) h = first_below k x y l (rises_skip k x z (l ++ y ∷ []) h)

-- in a rising batch all others are below the last
pub all_below : (k : ℕ) (y : List ℕ) (l : List (List ℕ)) → rises k (l ++ y ∷ []) ≡ true → Below k l y
all_below k y [] h = tt
all_below k y (x ∷ l) h = (first_below k x y l h, all_below k y l (rises_tail k x (l ++ y ∷ []) h))

-- the numbers: of i records held, those before y are left, and of d new keys those that are not y's
pub last_count : (k i d : ℕ) (y : List ℕ) (rs l : List (List ℕ)) → Below k rs y → rises k l ≡ true → length l ≡ i → length (put_all k (rs ++ y ∷ []) l) ≡ i + d
    → (past (spot k y l) ≤ i) × (1 ≤ d + hits (spot k y l)) × (length (put_all k rs (take (place (spot k y l)) l)) ≡ place (spot k y l) + (d + hits (spot k y l) - 1))
last_count k i d y rs l b h e c =
    let p : ℕ = place (spot k y l) in
    let le : past (spot k y l) ≤ length l = past_le k y l in
    let t : length (take p l) ≡ p = length-take-le p l (omega arith) in
    let m : length (take p l) ≤ length (put_all k rs (take p l)) = length_put_all_le k rs (take p l) (rises_take k p l h) in
    let a : length (put_all k rs (take p l) ++ y ∷ drop (past (spot k y l)) l) ≡ i + d = ap length (sym (last_in k y rs l b)) ∙ c in
    let s = simp (length-append, length-drop) at a in
    (omega arith, omega arith, omega arith)

-- ---- the new keys, counted from the last down

rises_drop : (k i : ℕ) (l : List (List ℕ)) → rises k l ≡ true → rises k (drop i l) ≡ true
rises_drop k zero l h = h
rises_drop k (suc i) [] h = refl
rises_drop k (suc i) (x ∷ l) h = rises_drop k i l (rises_tail k x l h)

module _ (k : ℕ) (y : List ℕ) (l : List (List ℕ)) (h : rises k l ≡ true) where
  -- what is below y is not among the records from y's place on
  lacks_above : (r : List ℕ) (m : List (List ℕ)) → cmp k r y ≡ Less → Above k y m → rises k m ≡ true → lacks k r m ≡ 1
  lacks_above r [] g a u = lacks_none k r
  lacks_above r (x ∷ m) g a u =
      ap (lacks k r) (sym (append-nil (x ∷ m))) ∙ lacks_later k r (x ∷ m) [] (rises_cons k r x m (a r g) u) ∙ lacks_none k r

  lacks_below : (r : List ℕ) → cmp k r y ≡ Less → lacks k r l ≡ lacks k r (take (place (spot k y l)) l)
  lacks_below r g =
      let p : ℕ = place (spot k y l) in
      let one : lacks k r (drop p l) ≡ 1 = lacks_above r (drop p l) g (above_spot k y l) (rises_drop k p l h) in
      ap (lacks k r) (sym (take-append-drop p l)) ∙ lacks_append k r (take p l) (drop p l) ∙ rw one (omega arith)

  fresh_below : (rs : List (List ℕ)) → Below k rs y → fresh k rs l ≡ fresh k rs (take (place (spot k y l)) l)
  fresh_below [] b = refl
  fresh_below (r ∷ rs) b = omega (arith, lacks_below r b.0, fresh_below rs b.1)

  -- of a rising batch: its last key, and the others among the records below it
  pub fresh_last : (rs : List (List ℕ)) → rises k (rs ++ y ∷ []) ≡ true → fresh k (rs ++ y ∷ []) l ≡ lacks k y l + fresh k rs (take (place (spot k y l)) l)
  fresh_last rs u = omega (arith, fresh_append k rs (y ∷ []) l, fresh_below rs (all_below k y rs u))
