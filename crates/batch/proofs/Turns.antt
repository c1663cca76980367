-- The turns of the loops over a batch. A loop that counts keeps "the count so far and that of what is left are that of all"; the loop that puts keeps
-- "the bytes are the table after the puts so far, laid over the bytes as they were".
use mathlib.Core.Path.{◌≡◌, sym, ap, ap₂, ◌∙◌, subst}
use mathlib.Core.Bool.{Bool, true, false}
use mathlib.Core.List.{List, [], ◌∷◌, ◌++◌}
use Prim.Native.Nat.{ℕ, ◌+◌, ◌-◌, ◌*◌, ◌≤◌, ◌<◌}
use native.Mathlib.Nat.{mul-le-mul_right}
use native.Mathlib.Omega.{arith}
use lib.ListN.{length, take}
use Rattle.octets.specs.Bytes.{part, AreBytes}
use Rattle.octets.specs.Order.{lex, is_equal}
use Rattle.std.proofs.Common.{Equal, Result, Ok, Err}
use Rattle.octets.proofs.Orders as O
use Rattle.table.specs.Records.{cmp, rises, spot, place, put}
use Rattle.table.specs.Table.{runs, Each, count_of, cap_of, recs, laid, well_ordered, holds, fits}
use Rattle.table.proofs.Rows.{rows_le, take_runs, runs_first, runs_last, each_runs, key_at, cap_room, fits_cap, each_recs, laid_laid, laid_self}
use Rattle.table.proofs.Checks.{well_two, well_rises, well_room}
use Rattle.table.proofs.Spots.{look_at, look_gap}
use Rattle.table.proofs.Ends.{holds_true, Holds, laid_holds}
use Rattle.batch.specs.Batch.{put_all, gone, lacks, news, fresh}
use Rattle.batch.proofs.Puts.{each_put_all, rises_put_all, put_all_append, lacks_cons_same, lacks_cons_other, lacks_none, lacks_append, length_put_all_take}

-- ---- `lacking_below`

module _ (k : ℕ) (key : List ℕ) (l : List (List ℕ)) (i : ℕ) (o : Result ℕ ℕ) (f : o ≡ spot k key l) where
  pub lacks_at : o ≡ Ok i → (i ≡ place (spot k key l)) × (0 ≡ lacks k key l)
  unfolding lacks
  lacks_at e = (sym (ap place (sym f ∙ e)), sym (ap gone (look_at k key l i (sym f ∙ e))))

  pub lacks_gap : rises k l ≡ true → o ≡ Err i → (i ≡ place (spot k key l)) × (1 ≡ lacks k key l)
  unfolding lacks
  lacks_gap h e = (sym (ap place (sym f ∙ e)), sym (ap gone (look_gap k key l i h (sym f ∙ e))))

-- among all records
pub lacks_all : (s k : ℕ) (t key : List ℕ) (n r : ℕ) → n ≡ count_of t → r ≡ lacks k key (runs n s 2 t) → r ≡ lacks k key (recs s t)
unfolding recs
lacks_all s k t key n r e f = f ∙ ap (λ (m : ℕ). lacks k key (runs m s 2 t)) e

-- ---- what is left of a batch

runs_none : (s n i from : ℕ) (b : List ℕ) → n ≤ i → runs (n - i) s from b ≡ []
unfolding runs
runs_none s n i from b h =
    let e : n - i ≡ 0 = omega arith in
    ap (λ (m : ℕ). runs m s from b) e

pub both_small : (x y : ℕ) → x ≤ 1 → y ≤ 1 → x * y ≤ 1
both_small x y h g = omega (arith, mul-le-mul_right y h)

-- ---- `count_fresh` and `count_new`: c is counted, F is the whole count

module _ (s k n i c F : ℕ) (b : List ℕ) (l : List (List ℕ)) where
  next : i * s + s ≡ (i + 1) * s
  next = omega arith

  pub fresh_turn : (e : ℕ) → i < n → e ≡ lacks k (part (i * s) s b) l → c + fresh k (runs (n - i) s (i * s) b) l ≡ F → c + e + fresh k (runs (n - (i + 1)) s ((i + 1) * s) b) l ≡ F
  fresh_turn e h g p = omega (arith, rw (runs_first s n i (i * s) b h, next) at p)

  pub fresh_done : n ≤ i → c + fresh k (runs (n - i) s (i * s) b) l ≡ F → c ≡ F
  fresh_done h p = omega (arith, rw (runs_none s n i (i * s) b h) at p)

  pub news_turn : (x y : ℕ) → i < n → x ≡ lacks k (part (i * s) s b) l → y ≡ lacks k (part (i * s) s b) (runs (n - i - 1) s (i * s + s) b)
      → c + news k (runs (n - i) s (i * s) b) l ≡ F → c + x * y + news k (runs (n - (i + 1)) s ((i + 1) * s) b) l ≡ F
  news_turn x y h ex ey p =
      let m : n - i - 1 ≡ n - (i + 1) = omega arith in
      let q = rw (runs_first s n i (i * s) b h, next) at p in
      let z : lacks k (part (i * s) s b) (runs (n - (i + 1)) s ((i + 1) * s) b ++ l) ≡ y * x = lacks_append k (part (i * s) s b) (runs (n - (i + 1)) s ((i + 1) * s) b) l ∙ rw (ex, ey, m, next) in
      omega (arith, z, q)

  pub news_done : n ≤ i → c + news k (runs (n - i) s (i * s) b) l ≡ F → c ≡ F
  news_done h p = omega (arith, rw (runs_none s n i (i * s) b h) at p)

-- ---- `lacking_later`: the key stands at `from`, record i at `first + i * s`

module _ (s k n i from first : ℕ) (b : List ℕ) where
  abbrev at : ℕ
  at = first + i * s

  next_at : at + s ≡ first + (i + 1) * s
  next_at = omega arith

  module _ (h : k ≤ s) (l : i < n) (r : Bool) (e : r ≡ is_equal (lex (part from k b) (part at k b))) where
    here : r ≡ is_equal (cmp k (part from s b) (part at s b))
    here = e ∙ sym (ap₂ (λ (x y : List ℕ). is_equal (lex x y)) (key_at s k from b h) (key_at s k at b h))

    pub later_same : r ≡ true → (z : ℕ) → lacks k (part from s b) (runs (n - i) s at b) ≡ z → 0 ≡ z
    later_same f z g =
        sym (ap (lacks k (part from s b)) (runs_first s n i at b l)
        ∙ lacks_cons_same k (part from s b) (part at s b) (runs (n - (i + 1)) s (at + s) b) (O.is_equal_true (cmp k (part from s b) (part at s b)) (sym here ∙ f)))
        ∙ g

    pub later_other : r ≡ false → (z : ℕ) → lacks k (part from s b) (runs (n - i) s at b) ≡ z → lacks k (part from s b) (runs (n - (i + 1)) s (first + (i + 1) * s) b) ≡ z
    later_other f z g =
        let d : cmp k (part from s b) (part at s b) ≡ Equal → ⊥ =
        λ q. let t : r ≡ true = here ∙ ap is_equal q in let w : ◌≡◌ {A = ℕ} 0 1 = cc in omega arith in
        ap (λ (m : ℕ). lacks k (part from s b) (runs (n - (i + 1)) s m b)) (sym next_at)
        ∙ sym (ap (lacks k (part from s b)) (runs_first s n i at b l)
        ∙ lacks_cons_other k (part from s b) (part at s b) (runs (n - (i + 1)) s (at + s) b) d)
        ∙ g

  pub later_done : n ≤ i → (z : ℕ) → lacks k (part from s b) (runs (n - i) s at b) ≡ z → 1 ≡ z
  later_done h z g = sym (ap (lacks k (part from s b)) (runs_none s n i at b h) ∙ lacks_none k (part from s b)) ∙ g

-- ---- `put_all`

-- the room depends on the length alone
holds_size : (s n : ℕ) (t u : List ℕ) → length t ≡ length u → holds s n t ≡ holds s n u
unfolding holds cap_of
holds_size s n t u e = rw e

module _ (s k n : ℕ) (b t₀ : List ℕ) (p : 0 < s) (lb : n * s ≤ length b) (w : well_ordered s k t₀ ≡ true) (f : fits s (put_all k (runs n s 0 b) (recs s t₀)) t₀ ≡ true) where
  -- the records after the first i puts
  abbrev after : ℕ → List (List ℕ)
  after i = put_all k (runs i s 0 b) (recs s t₀)

  pub puts_none : AreBytes t₀ → t₀ ≡ laid (after 0) t₀
  unfolding runs
  puts_none by = sym (laid_self s t₀ by (well_room s k t₀ p w))

  module _ (i : ℕ) (h : i ≤ n) where
    each_after : Each s (after i)
    each_after =
        each_put_all s k (runs i s 0 b) (recs s t₀) (each_runs s i 0 b (omega (arith, rows_le s h))) (each_recs s t₀ (well_room s k t₀ p w))

    fits_after : fits s (after i) t₀ ≡ true
    fits_after =
        let g : length (put_all k (take i (runs n s 0 b)) (recs s t₀)) ≤ length (after n) = length_put_all_take k i (runs n s 0 b) (recs s t₀) (well_rises s k t₀ w) in
        let e : length (after i) ≤ length (after n) = subst (λ (rs : List (List ℕ)). length (put_all k rs (recs s t₀)) ≤ length (after n)) (take_runs s n 0 b i h) g in
        holds_true s (length (after i)) t₀ (omega (arith, fits_cap s (length (after n)) t₀ f))

    pub puts_hold : (t : List ℕ) → t ≡ laid (after i) t₀ → Holds s k (after i) t₀ t
    puts_hold t e =
        rw e (laid_holds s k (after i) t₀ p (well_two s k t₀ w) each_after fits_after (rises_put_all k (runs i s 0 b) (recs s t₀) (well_rises s k t₀ w)))

  module _ (i : ℕ) (h : i < n) (t : List ℕ) (e : t ≡ laid (after i) t₀) where
    next_is : put k (part (i * s) s b) (recs s t) ≡ after (i + 1)
    next_is =
        let z : 0 + i * s ≡ i * s = omega arith in
        ap (put k (part (i * s) s b)) (puts_hold i (omega arith) t e).rows
        ∙ sym (ap (λ (rs : List (List ℕ)). put_all k rs (recs s t₀)) (runs_last s i 0 b ∙ ap (λ (m : ℕ). runs i s 0 b ++ part m s b ∷ []) z)
        ∙ put_all_append k (runs i s 0 b) (part (i * s) s b ∷ []) (recs s t₀))

    pub puts_fit : fits s (put k (part (i * s) s b) (recs s t)) t ≡ true
    puts_fit =
        ap (λ (rs : List (List ℕ)). fits s rs t) next_is
        ∙ holds_size s (length (after (i + 1))) t t₀ (puts_hold i (omega arith) t e).size
        ∙ fits_after (i + 1) (omega arith)

    pub puts_turn : (u : List ℕ) → u ≡ laid (put k (part (i * s) s b) (recs s t)) t → u ≡ laid (after (i + 1)) t₀
    puts_turn u g =
        let c : 2 + length (after (i + 1)) * s ≤ length t₀ = cap_room s (length (after (i + 1))) t₀ p (well_two s k t₀ w) (fits_cap s (length (after (i + 1))) t₀ (fits_after (i + 1) (omega arith))) in
        let le : length (after i) ≤ length (after (i + 1)) =
        subst (λ (rs : List (List ℕ)). length (put_all k rs (recs s t₀)) ≤ length (after (i + 1))) (take_runs s (i + 1) 0 b i (omega arith))
        (length_put_all_take k i (runs (i + 1) s 0 b) (recs s t₀) (well_rises s k t₀ w)) in
        g
        ∙ ap (λ (rs : List (List ℕ)). laid rs t) next_is
        ∙ ap (laid (after (i + 1))) e
        ∙ laid_laid s (after i) (after (i + 1)) t₀ (each_after i (omega arith)) (each_after (i + 1) (omega arith)) le c
