-- Where a key stands among records, and what `put`, `removed` and `look` say of it. Each law goes by the first record's order with the key;
-- `stands` and `put_is` say by one induction all that a spot tells.
use mathlib.Core.Path.{◌≡◌, refl, sym, ap, ◌∙◌}
use mathlib.Core.Bool.{Bool, true, false}
use mathlib.Core.List.{List, [], ◌∷◌}
use mathlib.Core.Option.{Option, some, none}
use Prim.Native.Nat.{ℕ, zero, suc, ◌+◌, ◌-◌, ◌≤◌, ◌<◌, suc-le-suc}
use native.Mathlib.Nat.{le_of_suc-le-suc, not-suc-le-zero}
use native.Mathlib.Omega.{arith}
use native.Mathlib.Decide.{dec_lt}
use lib.ListN.{length, take, drop, get_or, set, length-append, length-take, length-drop, length-set}
use Rattle.octets.specs.Order.{is_less, is_equal}
use Rattle.std.proofs.Common.{Ordering, Less, Equal, Greater, Result, Ok, Err}
use Rattle.octets.proofs.Orders as O
use Rattle.table.specs.Records.{cmp, rises, next, spot_by, spot, place, past, look_by, look, inserted, removed, put_by, put}
use Rattle.table.specs.Table.{Each}
use Rattle.table.proofs.Keys.{cmp_self, less_turned, greater_turned, equal_turned, cmp_left, cmp_right, cmp_trans, less_not_equal, rises_head, rises_tail, rises_cons, rises_skip, rises_like, rises_at, head_below}
use Rattle.table.proofs.Rows.{each_append, each_take, each_drop}

-- ---- the spot of a key

place_next : (o : Result ℕ ℕ) → place (next o) ≡ suc (place o)
place_next (Ok i) = refl
place_next (Err i) = refl

-- what a spot tells of the record there
abbrev Stands : ℕ → List ℕ → List (List ℕ) → Result ℕ ℕ → Type 0
Stands k key rs (Ok i) = (i < length rs) × (cmp k key (get_or rs i []) ≡ Equal)
Stands k key rs (Err i) = (i ≤ length rs) × (i < length rs → cmp k key (get_or rs i []) ≡ Less)

module _ (k : ℕ) (key : List ℕ) where
  stands_step : (x : List ℕ) (rs : List (List ℕ)) (o : Ordering) (q : Result ℕ ℕ) → cmp k key x ≡ o → Stands k key rs q → Stands k key (x ∷ rs) (spot_by o q)
  stands_step x rs Less q e h = (omega arith, λ l. e)
  stands_step x rs Equal q e h = (omega arith, e)
  stands_step x rs Greater (Ok i) e h = (suc-le-suc h.0, h.1)
  stands_step x rs Greater (Err i) e h = (suc-le-suc h.0, λ l. h.1 (le_of_suc-le-suc l))

  stands : (rs : List (List ℕ)) → Stands k key rs (spot k key rs)
  stands [] = (omega arith, λ l. absurd (not-suc-le-zero l))
  stands (x ∷ rs) = stands_step x rs (cmp k key x) (spot k key rs) refl (stands rs)

  pub place_le : (rs : List (List ℕ)) → place (spot k key rs) ≤ length rs
  place_le rs = go (spot k key rs) (stands rs)
    where
      go : (o : Result ℕ ℕ) → Stands k key rs o → place o ≤ length rs
      go (Ok i) h = omega arith
      go (Err i) h = h.0

  pub past_le : (rs : List (List ℕ)) → past (spot k key rs) ≤ length rs
  past_le rs = go (spot k key rs) (stands rs)
    where
      go : (o : Result ℕ ℕ) → Stands k key rs o → past o ≤ length rs
      go (Ok i) h = omega arith
      go (Err i) h = omega arith

  -- a record below the key stands before its place, one that is not does not
  pub place_below : (rs : List (List ℕ)) (m : ℕ) → rises k rs ≡ true → m < length rs → is_less (cmp k (get_or rs m []) key) ≡ true → m < place (spot k key rs)
  place_below [] m h l e = absurd (not-suc-le-zero l)
  place_below (x ∷ rs) zero h l e =
      let g : cmp k key x ≡ Greater = less_turned k x key (O.is_less_true (cmp k x key) e) in
      rw (g, place_next (spot k key rs)) (omega arith)
  place_below (x ∷ rs) (suc m) h l e =
      let n : m < length rs = le_of_suc-le-suc l in
      let g : cmp k key x ≡ Greater = less_turned k x key (cmp_trans k x (get_or rs m []) key (head_below k x rs m h n) (O.is_less_true (cmp k (get_or rs m []) key) e)) in
      let b : m < place (spot k key rs) = place_below rs m (rises_tail k x rs h) n e in
      rw (g, place_next (spot k key rs)) (omega arith)

  pub place_above : (rs : List (List ℕ)) (m : ℕ) → m < length rs → is_less (cmp k (get_or rs m []) key) ≡ false → place (spot k key rs) ≤ m
  place_above [] m l e = absurd (not-suc-le-zero l)
  place_above (x ∷ rs) m l e = go (cmp k key x) refl m l e (λ i. place_above rs i)
    where
      go : (o : Ordering) → cmp k key x ≡ o → (m : ℕ) → m < length (x ∷ rs) → is_less (cmp k (get_or (x ∷ rs) m []) key) ≡ false
          → ((i : ℕ) → i < length rs → is_less (cmp k (get_or rs i []) key) ≡ false → place (spot k key rs) ≤ i) → place (spot_by o (spot k key rs)) ≤ m
      go Less f m l e rest = omega arith
      go Equal f m l e rest = omega arith
      go Greater f zero l e rest =
          let t : is_less (cmp k x key) ≡ true = ap is_less (greater_turned k key x f) in
          let z : ◌≡◌ {A = ℕ} 0 1 = cc in
          absurd (omega arith)
      go Greater f (suc m) l e rest = rw (place_next (spot k key rs)) (suc-le-suc (rest m (le_of_suc-le-suc l) e))

  -- the spot by its place, and by whether the record there has the key
  module _ (rs : List (List ℕ)) (i : ℕ) (p : i ≡ place (spot k key rs)) where
    pub spot_end : i ≡ length rs → spot k key rs ≡ Err i
    spot_end e = go (spot k key rs) refl (stands rs)
      where
        go : (o : Result ℕ ℕ) → spot k key rs ≡ o → Stands k key rs o → spot k key rs ≡ Err i
        go (Ok j) f h = let d : i ≡ j = p ∙ ap place f in absurd (omega arith)
        go (Err j) f h = let d : i ≡ j = p ∙ ap place f in f ∙ ap Err (sym d)

    pub spot_hit : is_equal (cmp k (get_or rs i []) key) ≡ true → i < length rs → spot k key rs ≡ Ok i
    spot_hit e l = go (spot k key rs) refl (stands rs)
      where
        go : (o : Result ℕ ℕ) → spot k key rs ≡ o → Stands k key rs o → spot k key rs ≡ Ok i
        go (Ok j) f h = let d : i ≡ j = p ∙ ap place f in f ∙ ap Ok (sym d)
        go (Err j) f h =
            let d : i ≡ j = p ∙ ap place f in
            let g : cmp k key (get_or rs i []) ≡ Less = rw d (h.1 (omega arith)) in
            let q : cmp k key (get_or rs i []) ≡ Equal = equal_turned k (get_or rs i []) key (O.is_equal_true (cmp k (get_or rs i []) key) e) in
            absurd (less_not_equal (cmp k key (get_or rs i [])) g q)

    pub spot_miss : is_equal (cmp k (get_or rs i []) key) ≡ false → spot k key rs ≡ Err i
    spot_miss e = go (spot k key rs) refl (stands rs)
      where
        go : (o : Result ℕ ℕ) → spot k key rs ≡ o → Stands k key rs o → spot k key rs ≡ Err i
        go (Ok j) f h =
            let d : i ≡ j = p ∙ ap place f in
            let q : cmp k (get_or rs i []) key ≡ Equal = equal_turned k key (get_or rs i []) (rw d h.1) in
            let t : is_equal (cmp k (get_or rs i []) key) ≡ true = ap is_equal q in
            let z : ◌≡◌ {A = ℕ} 0 1 = cc in
            absurd (omega arith)
        go (Err j) f h = let d : i ≡ j = p ∙ ap place f in f ∙ ap Err (sym d)

pub look_like : (k : ℕ) (a b : List ℕ) (rs : List (List ℕ)) → cmp k a b ≡ Equal → look k a rs ≡ look k b rs
look_like k a b [] e = refl
look_like k a b (x ∷ rs) e = rw (cmp_left k a b e x, look_like k a b rs e)

-- ---- `put`, by where the key stands

-- what p, the records after a put of r into rs, is
abbrev Put : List ℕ → List (List ℕ) → List (List ℕ) → Result ℕ ℕ → Type 0
Put r rs p (Ok i) = (i < length rs) × (p ≡ set rs i r)
Put r rs p (Err i) = (i ≤ length rs) × (p ≡ inserted i r rs)

put_step : (r x : List ℕ) (rs p : List (List ℕ)) (o : Ordering) (q : Result ℕ ℕ) → Put r rs p q → Put r (x ∷ rs) (put_by o r x rs p) (spot_by o q)
put_step r x rs p Less q h = (omega arith, refl)
put_step r x rs p Equal q h = (omega arith, refl)
put_step r x rs p Greater (Ok i) h = (suc-le-suc h.0, ap (λ (l : List (List ℕ)). x ∷ l) h.1)
put_step r x rs p Greater (Err i) h = (suc-le-suc h.0, ap (λ (l : List (List ℕ)). x ∷ l) h.1)

put_is : (k : ℕ) (r : List ℕ) (rs : List (List ℕ)) → Put r rs (put k r rs) (spot k r rs)
put_is k r [] = (omega arith, refl)
put_is k r (x ∷ rs) = put_step r x rs (put k r rs) (cmp k r x) (spot k r rs) (put_is k r rs)

module _ (k : ℕ) (r : List ℕ) (rs : List (List ℕ)) (i : ℕ) where
  found : spot k r rs ≡ Ok i → Put r rs (put k r rs) (Ok i)
  found e = rw e at (put_is k r rs)

  missed : spot k r rs ≡ Err i → Put r rs (put k r rs) (Err i)
  missed e = rw e at (put_is k r rs)

  pub at_lt : spot k r rs ≡ Ok i → i < length rs
  at_lt e = (found e).0

  pub gap_le : spot k r rs ≡ Err i → i ≤ length rs
  gap_le e = (missed e).0

  pub put_at : spot k r rs ≡ Ok i → put k r rs ≡ set rs i r
  put_at e = (found e).1

  pub put_gap : spot k r rs ≡ Err i → put k r rs ≡ inserted i r rs
  put_gap e = (missed e).1

  pub length_put_at : spot k r rs ≡ Ok i → length (put k r rs) ≡ length rs
  length_put_at e = rw (put_at e) (length-set rs i r)

  pub length_put_gap : spot k r rs ≡ Err i → length (put k r rs) ≡ length rs + 1
  length_put_gap e =
      let h = gap_le e in
      rw (put_gap e) (simp (length-append, length-drop) (omega (arith, length-take i rs)))

pub length_put_le : (k : ℕ) (r : List ℕ) (rs : List (List ℕ)) → length (put k r rs) ≤ length rs + 1
length_put_le k r rs = go (spot k r rs) refl
  where
    go : (o : Result ℕ ℕ) → spot k r rs ≡ o → length (put k r rs) ≤ length rs + 1
    go (Ok i) e = omega (arith, length_put_at k r rs i e)
    go (Err i) e = omega (arith, length_put_gap k r rs i e)

each_step : (s : ℕ) (r x : List ℕ) (rs p : List (List ℕ)) (o : Ordering) → length r ≡ s → Each s (x ∷ rs) → Each s p → Each s (put_by o r x rs p)
each_step s r x rs p Less e h g = (e, h)
each_step s r x rs p Equal e h g = (e, h.1)
each_step s r x rs p Greater e h g = (h.0, g)

pub each_put : (s k : ℕ) (r : List ℕ) (rs : List (List ℕ)) → length r ≡ s → Each s rs → Each s (put k r rs)
each_put s k r [] e h = (e, tt)
each_put s k r (x ∷ rs) e h = each_step s r x rs (put k r rs) (cmp k r x) e h (each_put s k r rs e h.1)

-- ---- order kept by a put

-- after a first record that is below r
rises_after : (k : ℕ) (r x : List ℕ) (rs : List (List ℕ)) → cmp k x r ≡ Less → rises k (x ∷ rs) ≡ true → rises k (x ∷ put k r rs) ≡ true
rises_after k r x [] l h = rises_cons k x r [] l refl
rises_after k r x (y ∷ rs) l h = go (cmp k r y) refl (λ g. rises_after k r y rs g (rises_tail k x (y ∷ rs) h))
  where
    go : (o : Ordering) → cmp k r y ≡ o → (cmp k y r ≡ Less → rises k (y ∷ put k r rs) ≡ true) → rises k (x ∷ put_by o r y rs (put k r rs)) ≡ true
    go Less e rest = rises_cons k x r (y ∷ rs) l (rises_cons k r y rs e (rises_tail k x (y ∷ rs) h))
    go Equal e rest = rises_cons k x r rs l (rises_like k r y rs e (rises_tail k x (y ∷ rs) h))
    go Greater e rest = rises_cons k x y (put k r rs) (rises_head k x y rs h) (rest (greater_turned k r y e))

pub rises_put : (k : ℕ) (r : List ℕ) (rs : List (List ℕ)) → rises k rs ≡ true → rises k (put k r rs) ≡ true
rises_put k r [] h = refl
rises_put k r (x ∷ rs) h = go (cmp k r x) refl
  where
    go : (o : Ordering) → cmp k r x ≡ o → rises k (put_by o r x rs (put k r rs)) ≡ true
    go Less e = rises_cons k r x rs e h
    go Equal e = rises_like k r x rs e h
    go Greater e = rises_after k r x rs (greater_turned k r x e) h

-- ---- what is found after a put

skip : (o : Ordering) (x : List ℕ) (q : Option (List ℕ)) → (o ≡ Equal → ⊥) → look_by o x q ≡ q
skip Less x q h = refl
skip Equal x q h = absurd (h refl)
skip Greater x q h = refl

pub look_put_same : (k : ℕ) (r : List ℕ) (rs : List (List ℕ)) → look k r (put k r rs) ≡ some r
look_put_same k r [] = rw (cmp_self k r [])
look_put_same k r (x ∷ rs) = go (cmp k r x) refl (look_put_same k r rs)
  where
    go : (o : Ordering) → cmp k r x ≡ o → look k r (put k r rs) ≡ some r → look k r (put_by o r x rs (put k r rs)) ≡ some r
    go Less e rest = rw (cmp_self k r [])
    go Equal e rest = rw (cmp_self k r [])
    go Greater e rest = rw e rest

pub look_put_other : (k : ℕ) (key r : List ℕ) (rs : List (List ℕ)) → (cmp k key r ≡ Equal → ⊥) → look k key (put k r rs) ≡ look k key rs
look_put_other k key r [] n = skip (cmp k key r) r none n
look_put_other k key r (x ∷ rs) n = go (cmp k r x) refl (look_put_other k key r rs n)
  where
    go : (o : Ordering) → cmp k r x ≡ o → look k key (put k r rs) ≡ look k key rs → look k key (put_by o r x rs (put k r rs)) ≡ look k key (x ∷ rs)
    go Less e rest = skip (cmp k key r) r (look k key (x ∷ rs)) n
    go Equal e rest =
        skip (cmp k key r) r (look k key rs) n ∙ sym (skip (cmp k key x) x (look k key rs) (λ f. n (cmp_right k r x e key ∙ f)))
    go Greater e rest = ap (look_by (cmp k key x) x) rest

-- ---- what is found is what stands at the spot

abbrev Seen : List (List ℕ) → Option (List ℕ) → Result ℕ ℕ → Type 0
Seen rs q (Ok i) = q ≡ some (get_or rs i [])
Seen rs q (Err i) = Unit {0}

seen_step : (x : List ℕ) (rs : List (List ℕ)) (q : Option (List ℕ)) (o : Ordering) (p : Result ℕ ℕ) → Seen rs q p → Seen (x ∷ rs) (look_by o x q) (spot_by o p)
seen_step x rs q Less p h = tt
seen_step x rs q Equal p h = refl
seen_step x rs q Greater (Ok i) h = h
seen_step x rs q Greater (Err i) h = tt

seen_is : (k : ℕ) (key : List ℕ) (rs : List (List ℕ)) → Seen rs (look k key rs) (spot k key rs)
seen_is k key [] = tt
seen_is k key (x ∷ rs) = seen_step x rs (look k key rs) (cmp k key x) (spot k key rs) (seen_is k key rs)

pub look_at : (k : ℕ) (key : List ℕ) (rs : List (List ℕ)) (i : ℕ) → spot k key rs ≡ Ok i → look k key rs ≡ some (get_or rs i [])
look_at k key rs i e = rw e at (seen_is k key rs)

-- a key below the first is not there
look_below : (k : ℕ) (key x : List ℕ) (rs : List (List ℕ)) → rises k (x ∷ rs) ≡ true → cmp k key x ≡ Less → look k key (x ∷ rs) ≡ none
look_below k key x [] h l = rw l
look_below k key x (y ∷ rs) h l =
    let m : cmp k key y ≡ Less = cmp_trans k key x y l (rises_head k x y rs h) in
    ap (λ (o : Ordering). look_by o x (look k key (y ∷ rs))) l ∙ look_below k key y rs (rises_tail k x (y ∷ rs) h) m

pub look_gap : (k : ℕ) (key : List ℕ) (rs : List (List ℕ)) (i : ℕ) → rises k rs ≡ true → spot k key rs ≡ Err i → look k key rs ≡ none
look_gap k key [] i h e = refl
look_gap k key (x ∷ rs) i h e = go (cmp k key x) refl (spot k key rs) refl (λ j. look_gap k key rs j (rises_tail k x rs h))
  where
    go : (o : Ordering) → cmp k key x ≡ o → (p : Result ℕ ℕ) → spot k key rs ≡ p → ((j : ℕ) → spot k key rs ≡ Err j → look k key rs ≡ none) → look k key (x ∷ rs) ≡ none
    go Less f p g rest = look_below k key x rs h f
    go Equal f p g rest =
        let d : spot k key (x ∷ rs) ≡ Ok 0 = rw f in
        cc
    go Greater f (Ok j) g rest =
        let d : spot k key (x ∷ rs) ≡ Ok (suc j) = rw (f, g) in
        cc
    go Greater f (Err j) g rest = rw f (rest j g)

-- ---- `removed`

rises_less : (k : ℕ) (x : List ℕ) (rs : List (List ℕ)) (i : ℕ) → rises k (x ∷ rs) ≡ true → rises k (x ∷ removed i rs) ≡ true
rises_less k x [] zero h = refl
rises_less k x [] (suc i) h = refl
rises_less k x (y ∷ rs) zero h = rises_skip k x y rs h
rises_less k x (y ∷ rs) (suc i) h =
    rises_cons k x y (removed i rs) (rises_head k x y rs h) (rises_less k y rs i (rises_tail k x (y ∷ rs) h))

pub rises_removed : (k : ℕ) (rs : List (List ℕ)) (i : ℕ) → rises k rs ≡ true → rises k (removed i rs) ≡ true
rises_removed k [] zero h = refl
rises_removed k [] (suc i) h = refl
rises_removed k (x ∷ rs) zero h = rises_tail k x rs h
rises_removed k (x ∷ rs) (suc i) h = rises_less k x rs i h

pub each_removed : (s : ℕ) (rs : List (List ℕ)) (i : ℕ) → Each s rs → Each s (removed i rs)
each_removed s rs i h = each_append s (take i rs) (drop (suc i) rs) (each_take s i rs h) (each_drop s (suc i) rs h)

pub length_removed : (rs : List (List ℕ)) (i : ℕ) → i < length rs → length (removed i rs) ≡ length rs - 1
length_removed rs i h = simp (length-append, length-drop) (omega (arith, length-take i rs))

pub look_removed_other : (k : ℕ) (key : List ℕ) (rs : List (List ℕ)) (i : ℕ) → (cmp k key (get_or rs i []) ≡ Equal → ⊥) → look k key (removed i rs) ≡ look k key rs
look_removed_other k key [] zero n = refl
look_removed_other k key [] (suc i) n = refl
look_removed_other k key (x ∷ rs) zero n = sym (skip (cmp k key x) x (look k key rs) n)
look_removed_other k key (x ∷ rs) (suc i) n = ap (look_by (cmp k key x) x) (look_removed_other k key rs i n)

pub look_removed_same : (k : ℕ) (rs : List (List ℕ)) (i : ℕ) → rises k rs ≡ true → i < length rs → look k (get_or rs i []) (removed i rs) ≡ none
look_removed_same k [] i h l = absurd (not-suc-le-zero l)
look_removed_same k (x ∷ []) zero h l = refl
look_removed_same k (x ∷ y ∷ rs) zero h l = look_below k x y rs (rises_tail k x (y ∷ rs) h) (rises_head k x y rs h)
look_removed_same k (x ∷ rs) (suc i) h l =
    let g : cmp k (get_or rs i []) x ≡ Greater = less_turned k x (get_or rs i []) (rises_at k (x ∷ rs) 0 (suc i) h (omega arith) l) in
    skip (cmp k (get_or rs i []) x) x (look k (get_or rs i []) (removed i rs)) (λ f. let z : ◌≡◌ {A = ℕ} 0 1 = cc in omega arith)
    ∙ look_removed_same k rs i (rises_tail k x rs h) (le_of_suc-le-suc l)

-- ---- a run of records: what stands before, at and after a key

-- before the place all are below the key
pub before_place : (k : ℕ) (key : List ℕ) (rs : List (List ℕ)) (j : ℕ) → j < place (spot k key rs) → cmp k (get_or rs j []) key ≡ Less
before_place k key rs j l = go (is_less (cmp k (get_or rs j []) key)) refl
  where
    go : (b : Bool) → is_less (cmp k (get_or rs j []) key) ≡ b → cmp k (get_or rs j []) key ≡ Less
    go true e = O.is_less_true (cmp k (get_or rs j []) key) e
    go false e =
        let n : j < length rs = omega (arith, place_le k key rs) in
        absurd (omega (arith, place_above k key rs j n e))

-- from the place on none is
pub from_place : (k : ℕ) (key : List ℕ) (rs : List (List ℕ)) (j : ℕ) → rises k rs ≡ true → place (spot k key rs) ≤ j → j < length rs → cmp k (get_or rs j []) key ≡ Less → ⊥
from_place k key rs j h l m e = omega (arith, place_below k key rs j h m (ap is_less e))

-- before the place after a key none is above it
pub before_past : (k : ℕ) (key : List ℕ) (rs : List (List ℕ)) (j : ℕ) → j < past (spot k key rs) → cmp k key (get_or rs j []) ≡ Less → ⊥
before_past k key rs j l e = go (spot k key rs) refl (stands k key rs) (dec_lt j (place (spot k key rs)))
  where
    go : (o : Result ℕ ℕ) → spot k key rs ≡ o → Stands k key rs o → Dec (j < place (spot k key rs)) → ⊥
    go o f h (yes m) =
        let g : cmp k key (get_or rs j []) ≡ Greater = less_turned k (get_or rs j []) key (before_place k key rs j m) in
        let z : ◌≡◌ {A = ℕ} 0 1 = cc in
        omega arith
    go (Err i) f h (no m) = m (omega (arith, ap past f, ap place f))
    go (Ok i) f h (no m) =
        let d : j ≡ i = omega (arith, ap past f, ap place f) in
        less_not_equal (cmp k key (get_or rs j [])) e (rw d h.1)

-- from there on all are
pub from_past : (k : ℕ) (key : List ℕ) (rs : List (List ℕ)) (j : ℕ) → rises k rs ≡ true → past (spot k key rs) ≤ j → j < length rs → cmp k key (get_or rs j []) ≡ Less
from_past k key rs j h l m = go (spot k key rs) refl (stands k key rs)
  where
    later : (i : ℕ) → Dec (i < j) → i ≤ j → i < length rs → cmp k key (get_or rs i []) ≡ Less → cmp k key (get_or rs j []) ≡ Less
    later i (yes a) b n c = cmp_trans k key (get_or rs i []) (get_or rs j []) c (rises_at k rs i j h a m)
    later i (no a) b n c =
        let d : i ≡ j = omega arith in
        rw d at c

    go : (o : Result ℕ ℕ) → spot k key rs ≡ o → Stands k key rs o → cmp k key (get_or rs j []) ≡ Less
    go (Ok i) f s =
        let n : i < j = omega (arith, ap past f) in
        cmp_left k key (get_or rs i []) s.1 (get_or rs j []) ∙ rises_at k rs i j h n m
    go (Err i) f s =
        let b : i ≤ j = omega (arith, ap past f) in
        let n : i < length rs = omega arith in
        later i (dec_lt i j) b n (s.1 n)
