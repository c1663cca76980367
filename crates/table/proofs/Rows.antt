-- Bytes and records: the laws of `runs`, `join`, `recs`, `laid` and the capacity. Every change of a table is one lemma, `laid_parts`: the records
-- from i up to j give way to others, which is the count stored over the front and one run of bytes stored at record i.
use mathlib.Core.Path.{◌≡◌, refl, sym, ap, ap₂, ◌∙◌, subst}
use mathlib.Core.Bool.{true}
use mathlib.Core.List.{List, [], ◌∷◌, ◌++◌, map, append_assoc, append-nil, map-append}
use Prim.Native.Nat.{ℕ, zero, suc, ◌+◌, ◌-◌, ◌*◌, ◌/◌, ◌≤◌, ◌<◌}
use native.Mathlib.Nat.{le_of_suc-le-suc, not-suc-le-zero, add-zero, zero-mul, mul-le-mul_right, sub-add_cancel, add-mul, min-le_left, min-le_right, le-min, le-div_iff_mul-le}
use native.Mathlib.Numerals.{add-one}
use native.Mathlib.Omega.{arith}
use lib.ListN.{length, take, drop, get_or, length-append, length-drop}
use lib.Seq.{length-take-le}
use borrow.Author.Tests.{leb-true}
use Rattle.octets.specs.Bytes.{be, bytes_of, part, AreBytes}
use Rattle.octets.specs.Bytes as B
use Rattle.octets.specs.Tab.{tab}
use Rattle.octets.proofs.Numbers as N
use Rattle.octets.proofs.Places as P
use Rattle.table.specs.Table.{runs, join, Each, count_of, cap_of, recs, laid, holds}

-- ---- sizes: what `omega` needs of a product

module _ (s : ℕ) {i n : ℕ} where
  pub rows_le : i ≤ n → i * s ≤ n * s
  rows_le h = mul-le-mul_right s h

  pub rows_lt : i < n → i * s + s ≤ n * s
  rows_lt h = omega (arith, mul-le-mul_right s h)

  pub rows_sub : i ≤ n → (n - i) * s + i * s ≡ n * s
  rows_sub h = sym (add-mul (n - i) i s) ∙ ap (λ (k : ℕ). k * s) (sub-add_cancel h)

-- ---- `runs`

module _ (s : ℕ) where
  pub length_runs : (n at : ℕ) (t : List ℕ) → length (runs n s at t) ≡ n
  unfolding runs
  length_runs zero at t = refl
  length_runs (suc n) at t = ap suc (length_runs n (at + s) t)

  pub runs_at : (n at : ℕ) (t : List ℕ) (i : ℕ) → i < n → get_or (runs n s at t) i [] ≡ part (at + i * s) s t
  unfolding runs
  runs_at zero at t i h = absurd (not-suc-le-zero h)
  runs_at (suc n) at t zero h = rw (zero-mul s, add-zero at)
  runs_at (suc n) at t (suc i) h =
      let e : at + s + i * s ≡ at + suc i * s = omega arith in
      runs_at n (at + s) t i (le_of_suc-le-suc h) ∙ ap (λ (m : ℕ). part m s t) e

  pub take_runs : (n at : ℕ) (t : List ℕ) (i : ℕ) → i ≤ n → take i (runs n s at t) ≡ runs i s at t
  unfolding runs
  take_runs n at t zero h = refl
  take_runs zero at t (suc i) h = absurd (not-suc-le-zero h)
  take_runs (suc n) at t (suc i) h = ap (λ (r : List (List ℕ)). part at s t ∷ r) (take_runs n (at + s) t i (le_of_suc-le-suc h))

  pub drop_runs : (n at : ℕ) (t : List ℕ) (i : ℕ) → i ≤ n → drop i (runs n s at t) ≡ runs (n - i) s (at + i * s) t
  unfolding runs
  drop_runs n at t zero h =
      let e : n - 0 ≡ n = omega arith in
      rw (e, zero-mul s, add-zero at)
  drop_runs zero at t (suc i) h = absurd (not-suc-le-zero h)
  drop_runs (suc n) at t (suc i) h =
      let e : at + s + i * s ≡ at + suc i * s = omega arith in
      let m : n - i ≡ suc n - suc i = omega arith in
      drop_runs n (at + s) t i (le_of_suc-le-suc h) ∙ ap₂ (λ (x y : ℕ). runs x s y t) m e

  -- the first run and the others, the last run and the others
  pub runs_first : (n i at : ℕ) (t : List ℕ) → i < n → runs (n - i) s at t ≡ part at s t ∷ runs (n - (i + 1)) s (at + s) t
  unfolding runs
  runs_first n i at t h =
      let e : n - i ≡ suc (n - (i + 1)) = omega arith in
      ap (λ (m : ℕ). runs m s at t) e

  pub runs_last : (n at : ℕ) (t : List ℕ) → runs (n + 1) s at t ≡ runs n s at t ++ part (at + n * s) s t ∷ []
  unfolding runs
  runs_last zero at t = rw (zero-mul s, add-zero at)
  runs_last (suc n) at t =
      let e : at + s + n * s ≡ at + suc n * s = omega arith in
      let m : suc n + 1 ≡ suc (n + 1) = omega arith in
      ap (λ (i : ℕ). runs i s at t) m
      ∙ ap (λ (r : List (List ℕ)). part at s t ∷ r) (runs_last n (at + s) t)
      ∙ ap (λ (m : ℕ). part at s t ∷ (runs n s (at + s) t ++ part m s t ∷ [])) e

  pub join_runs : (n at : ℕ) (t : List ℕ) → join (runs n s at t) ≡ part at (n * s) t
  unfolding runs join
  join_runs zero at t = sym (ap (λ (m : ℕ). part at m t) (zero-mul s) ∙ P.part_none at t)
  join_runs (suc n) at t =
      let e : s + n * s ≡ suc n * s = omega arith in
      ap (λ (r : List ℕ). part at s t ++ r) (join_runs n (at + s) t) ∙ sym (P.part_add at s (n * s) t) ∙ ap (λ (m : ℕ). part at m t) e

  pub each_runs : (n at : ℕ) (t : List ℕ) → at + n * s ≤ length t → Each s (runs n s at t)
  unfolding runs
  each_runs zero at t h = tt
  each_runs (suc n) at t h = (P.length_part at s t (omega arith), each_runs n (at + s) t (omega arith))

-- an array filled with what each run spells, one by one
pub tab_runs : {A : Type 0} (f : List ℕ → A) (s n at : ℕ) (t : List ℕ) → tab (λ i. f (part (at + i * s) s t)) n ≡ map f (runs n s at t)
unfolding tab runs
tab_runs f s zero at t = refl
tab_runs f s (suc n) at t =
    ap (λ l. l ++ (f (part (at + n * s) s t) ∷ [])) (tab_runs f s n at t)
    ∙ sym (map-append f (runs n s at t) (part (at + n * s) s t ∷ []))
    ∙ ap (map f) (sym (runs_last s n at t) ∙ ap (λ (m : ℕ). runs m s at t) (add-one n))

-- ---- `join` and `Each`

pub join_append : (a b : List (List ℕ)) → join (a ++ b) ≡ join a ++ join b
unfolding join
join_append [] b = refl
join_append (x ∷ a) b = ap (λ (l : List ℕ). x ++ l) (join_append a b) ∙ sym (append_assoc x (join a) (join b))

pub join_cons : (r : List ℕ) (rs : List (List ℕ)) → join (r ∷ rs) ≡ r ++ join rs
unfolding join
join_cons r rs = refl

pub join_one : (r : List ℕ) → join (r ∷ []) ≡ r
unfolding join
join_one r = append-nil r

pub join_none : join [] ≡ []
unfolding join
join_none = refl

module _ (s : ℕ) where
  pub length_join : (rs : List (List ℕ)) → Each s rs → length (join rs) ≡ length rs * s
  unfolding join
  length_join [] h = sym (zero-mul s)
  length_join (x ∷ rs) h = length-append x (join rs) ∙ omega (arith, h.0, length_join rs h.1)

  pub each_append : (a b : List (List ℕ)) → Each s a → Each s b → Each s (a ++ b)
  each_append [] b h g = g
  each_append (x ∷ a) b h g = (h.0, each_append a b h.1 g)

  pub each_take : (i : ℕ) (a : List (List ℕ)) → Each s a → Each s (take i a)
  each_take zero a h = tt
  each_take (suc i) [] h = tt
  each_take (suc i) (x ∷ a) h = (h.0, each_take i a h.1)

  pub each_drop : (i : ℕ) (a : List (List ℕ)) → Each s a → Each s (drop i a)
  each_drop zero a h = h
  each_drop (suc i) [] h = tt
  each_drop (suc i) (x ∷ a) h = each_drop i a h.1

  -- the runs where the bytes of records stand are those records
  runs_join : (rs : List (List ℕ)) (at : ℕ) (t : List ℕ) → Each s rs → part at (length rs * s) t ≡ join rs → runs (length rs) s at t ≡ rs
  unfolding runs join
  runs_join [] at t h e = refl
  runs_join (r ∷ rs) at t h e =
      let w : suc (length rs) * s ≡ s + length rs * s = omega arith in
      let q = P.part_split at s (length rs * s) r (join rs) t h.0 (length_join rs h.1) (subst (λ (n : ℕ). part at n t ≡ r ++ join rs) w e) in
      ap₂ (λ (a : List ℕ) (l : List (List ℕ)). a ∷ l) q.0 (runs_join rs (at + s) t h.1 q.1)

  -- the runs where the same bytes stand are the same
  pub runs_same : (n at bt : ℕ) (t u : List ℕ) → bt + n * s ≤ length u → part at (n * s) t ≡ part bt (n * s) u → runs n s at t ≡ runs n s bt u
  runs_same n at bt t u h e =
      let l : length (runs n s bt u) ≡ n = length_runs s n bt u in
      ap (λ (m : ℕ). runs m s at t) (sym l)
      ∙ runs_join (runs n s bt u) at t (each_runs s n bt u h) (ap (λ (m : ℕ). part at (m * s) t) l ∙ e ∙ sym (join_runs s n bt u))

-- ---- the capacity

pub cap_small : (s n : ℕ) (t : List ℕ) → n ≤ cap_of s t → n ≤ 65535
unfolding cap_of
cap_small s n t h = omega (arith, min-le_right ((length t - 2) / s) 65535)

cap_rows : (s n : ℕ) (t : List ℕ) → 0 < s → n ≤ cap_of s t → n * s ≤ length t - 2
unfolding cap_of
cap_rows s n t p h =
    let a : n ≤ (length t - 2) / s = omega (arith, min-le_left ((length t - 2) / s) 65535) in
    (le-div_iff_mul-le p).0 a

-- a count within the capacity has its records within the bytes
pub cap_room : (s n : ℕ) (t : List ℕ) → 0 < s → 2 ≤ length t → n ≤ cap_of s t → 2 + n * s ≤ length t
cap_room s n t p h l = omega (arith, cap_rows s n t p l)

-- where the capacity is not 0 there are two bytes
pub cap_two : (s n : ℕ) (t : List ℕ) → 0 < s → 0 < n → n ≤ cap_of s t → 2 + n * s ≤ length t
cap_two s n t p q l = omega (arith, cap_rows s n t p l, mul-le-mul_right {m = 1} {n = n} s q)

pub room_cap : (s n : ℕ) (t : List ℕ) → 0 < s → n ≤ 65535 → 2 + n * s ≤ length t → n ≤ cap_of s t
unfolding cap_of
room_cap s n t p h l = le-min ((le-div_iff_mul-le p).1 (omega arith)) h

pub fits_cap : (s n : ℕ) (t : List ℕ) → holds s n t ≡ true → n ≤ cap_of s t
unfolding holds
fits_cap s n t h = leb-true n (cap_of s t) h

-- ---- `recs` and `laid`

pub length_recs : (s : ℕ) (t : List ℕ) → length (recs s t) ≡ count_of t
unfolding recs
length_recs s t = length_runs s (count_of t) 2 t

pub each_recs : (s : ℕ) (t : List ℕ) → 2 + count_of t * s ≤ length t → Each s (recs s t)
unfolding recs
each_recs s t h = each_runs s (count_of t) 2 t h

pub recs_are : (s n : ℕ) (t : List ℕ) → n ≡ count_of t → runs n s 2 t ≡ recs s t
unfolding recs
recs_are s n t e = ap (λ (m : ℕ). runs m s 2 t) e

-- a record where it stands
pub recs_at : (s : ℕ) (t : List ℕ) (i : ℕ) → i < count_of t → get_or (recs s t) i [] ≡ part (2 + i * s) s t
unfolding recs
recs_at s t i h = runs_at s (count_of t) 2 t i h

-- the key of a run where it stands
pub key_at : (s k at : ℕ) (t : List ℕ) → k ≤ s → part 0 k (part at s t) ≡ part at k t
key_at s k at t h = P.part_part at s 0 k t (omega arith) ∙ ap (λ (m : ℕ). part m k t) (add-zero at)

-- the size of a table's front
length_front : (s : ℕ) (rs : List (List ℕ)) → Each s rs → length (bytes_of 2 (length rs) ++ join rs) ≡ 2 + length rs * s
length_front s rs h = P.length_two 2 (length rs * s) (bytes_of 2 (length rs)) (join rs) (N.length_bytes_of 2 (length rs)) (length_join s rs h)

module _ (s : ℕ) (rs : List (List ℕ)) (t : List ℕ) (h : Each s rs) (g : 2 + length rs * s ≤ length t) where
  pub length_laid : length (laid rs t) ≡ length t
  unfolding laid
  length_laid = P.length_put 0 (bytes_of 2 (length rs) ++ join rs) t (omega (arith, length_front s rs h))

  -- the count and the records, apart
  laid_apart : (part 0 2 (laid rs t) ≡ bytes_of 2 (length rs)) × (part 2 (length rs * s) (laid rs t) ≡ join rs)
  unfolding laid
  laid_apart =
      P.part_split 0 2 (length rs * s) (bytes_of 2 (length rs)) (join rs) (laid rs t) (N.length_bytes_of 2 (length rs)) (length_join s rs h)
      (P.part_put_same 0 (2 + length rs * s) (bytes_of 2 (length rs) ++ join rs) t (length_front s rs h) (omega arith))

  module _ (small : length rs ≤ 65535) where
    pub count_of_laid : count_of (laid rs t) ≡ length rs
    unfolding count_of
    count_of_laid = ap be laid_apart.0 ∙ N.be_bytes_of 2 (length rs) (omega arith)

    -- what was laid is what is read
    pub recs_laid : recs s (laid rs t) ≡ rs
    unfolding recs
    recs_laid = ap (λ (n : ℕ). runs n s 2 (laid rs t)) count_of_laid ∙ runs_join s rs 2 (laid rs t) h laid_apart.1

-- a table laid over a table with no more records: what the first left is gone
pub laid_laid : (s : ℕ) (ps qs : List (List ℕ)) (t : List ℕ) → Each s ps → Each s qs → length ps ≤ length qs → 2 + length qs * s ≤ length t → laid qs (laid ps t) ≡ laid qs t
unfolding laid
laid_laid s ps qs t hp hq l g =
    let a : List ℕ = bytes_of 2 (length ps) ++ join ps in
    let b : List ℕ = bytes_of 2 (length qs) ++ join qs in
    let la : length a ≡ 2 + length ps * s = length_front s ps hp in
    let lb : length b ≡ 2 + length qs * s = length_front s qs hq in
    let m : length ps * s ≤ length qs * s = rows_le s l in
    P.put_wider 0 a b t (omega arith) (omega arith)

-- a table laid over itself
pub laid_self : (s : ℕ) (t : List ℕ) → AreBytes t → 2 + count_of t * s ≤ length t → laid (recs s t) t ≡ t
unfolding laid recs count_of
laid_self s t b h =
    let n : ℕ = be (part 0 2 t) in
    ap (λ (m : ℕ). B.put 0 (bytes_of 2 m ++ join (runs n s 2 t)) t) (length_runs s n 2 t)
    ∙ ap₂ (λ (x y : List ℕ). B.put 0 (x ++ y) t) (P.bytes_at 0 2 t b (omega arith)) (join_runs s n 2 t)
    ∙ ap (λ (x : List ℕ). B.put 0 x t) (sym (P.part_add 0 2 (n * s) t))
    ∙ P.put_part 0 (2 + n * s) t (omega arith)

-- ---- the bytes of a table whose records from i up to j give way to those of b

module _ (s : ℕ) (t : List ℕ) (i j : ℕ) (b : List (List ℕ)) (ij : i ≤ j) (jn : j ≤ count_of t) (h : 2 + count_of t * s ≤ length t) (e : Each s b) where
  length_parts : length (take i (recs s t) ++ (b ++ drop j (recs s t))) ≡ i + (length b + (count_of t - j))
  length_parts =
      simp (length-append, length-drop, length_recs)
      (omega (arith, length-take-le i (recs s t) (omega (arith, length_recs s t))))

  join_parts : join (take i (recs s t) ++ (b ++ drop j (recs s t))) ≡ part 2 (i * s) t ++ (join b ++ part (2 + j * s) ((count_of t - j) * s) t)
  unfolding recs
  join_parts =
      join_append (take i (recs s t)) (b ++ drop j (recs s t))
      ∙ ap₂ (λ (x y : List ℕ). x ++ y)
      (ap join (take_runs s (count_of t) 2 t i (omega arith)) ∙ join_runs s i 2 t)
      (join_append b (drop j (recs s t)) ∙ ap (λ (y : List ℕ). join b ++ y) (ap join (drop_runs s (count_of t) 2 t j jn) ∙ join_runs s (count_of t - j) (2 + j * s) t))

  -- n is the count after
  pub laid_parts : (n : ℕ) → i + (length b + (count_of t - j)) ≡ n → 2 + n * s ≤ length t
      → B.put 0 (bytes_of 2 n) (B.put (2 + i * s) (join b ++ part (2 + j * s) ((count_of t - j) * s) t) t) ≡ laid (take i (recs s t) ++ (b ++ drop j (recs s t))) t
  unfolding laid
  laid_parts n en hn =
      let m : ℕ = count_of t in
      let y : List ℕ = join b ++ part (2 + j * s) ((m - j) * s) t in
      let x : List ℕ = part 2 (i * s) t in
      let c : List ℕ = bytes_of 2 n in
      let si : i * s ≤ m * s = rows_le s {i = i} {n = m} (omega arith) in
      let sj : (m - j) * s + j * s ≡ m * s = rows_sub s jn in
      let lx : length x ≡ i * s = P.length_part 2 (i * s) t (omega arith) in
      let ly : length y ≡ (length b + (m - j)) * s =
      P.length_two (length b * s) ((m - j) * s) (join b) (part (2 + j * s) ((m - j) * s) t) (length_join s b e) (P.length_part (2 + j * s) ((m - j) * s) t (omega arith)) ∙ sym (add-mul (length b) (m - j) s) in
      let sn : i * s + (length b + (m - j)) * s ≡ n * s = sym (add-mul i (length b + (m - j)) s) ∙ ap (λ (q : ℕ). q * s) en in
      let lxy : length (x ++ y) ≡ n * s = P.length_two (i * s) ((length b + (m - j)) * s) x y lx ly ∙ sn in
      ap (λ (u : List ℕ). B.put 0 c (B.put (2 + i * s) y u)) (sym (P.put_part 2 (i * s) t (omega arith)))
      ∙ ap (B.put 0 c) (P.put_next 2 (i * s) ((length b + (m - j)) * s) x y t lx ly (omega arith))
      ∙ P.put_front 0 2 (n * s) c (x ++ y) t (N.length_bytes_of 2 n) lxy (omega arith)
      ∙ ap₂ (λ (u v : List ℕ). B.put 0 (u ++ v) t) (sym (ap (bytes_of 2) (length_parts ∙ en))) (sym join_parts)
