-- The run between two keys is the records whose keys lie between them: those before it are below the first key, those after it above the second.
use mathlib.Core.Path.{◌≡◌, refl, sym, ap, ap₂, ◌∙◌}
use mathlib.Core.Bool.{Bool, true, false, cond, not, ◌&&◌}
use mathlib.Core.List.{List, [], ◌∷◌, ◌++◌, append-nil}
use Prim.Native.Nat.{ℕ, suc, ◌+◌, ◌-◌, ◌≤◌, ◌<◌, suc-le-suc}
use native.Mathlib.Omega.{arith}
use native.Mathlib.Decide.{dec_lt}
use lib.ListN.{length, take, drop, get_or, length-take, length-drop, take-append-drop}
use lib.Seq.{get_or-take, get_or-drop}
use Rattle.octets.specs.Order.{is_less}
use Rattle.std.proofs.Common.{Ordering, Less, Equal, Greater, Result, Ok, Err}
use Rattle.table.specs.Records.{cmp, rises, spot, place, past}
use Rattle.table.specs.Table.{count_of, recs}
use Rattle.table.specs.Run.{in_run, run, RunOf}
use Rattle.table.proofs.Rows.{length_recs}
use Rattle.table.proofs.Spots.{before_place, from_place, before_past, from_past, past_le}

not_less : (o : Ordering) → (o ≡ Less → ⊥) → is_less o ≡ false
not_less Less h = absurd (h refl)
not_less Equal h = refl
not_less Greater h = refl

module _ (k : ℕ) (a b : List ℕ) where
  run_append : (p q : List (List ℕ)) → run k a b (p ++ q) ≡ run k a b p ++ run k a b q
  run_append [] q = refl
  run_append (x ∷ p) q = go (in_run k a b x) (run_append p q)
    where
      go : (c : Bool) → run k a b (p ++ q) ≡ run k a b p ++ run k a b q
          → cond c (x ∷ run k a b (p ++ q)) (run k a b (p ++ q)) ≡ cond c (x ∷ run k a b p) (run k a b p) ++ run k a b q
      go true e = ap (λ (l : List (List ℕ)). x ∷ l) e
      go false e = e

  run_none : (rs : List (List ℕ)) → ((j : ℕ) → j < length rs → in_run k a b (get_or rs j []) ≡ false) → run k a b rs ≡ []
  run_none [] h = refl
  run_none (x ∷ rs) h = rw (h 0 (omega arith)) (run_none rs (λ j l. h (suc j) (suc-le-suc l)))

  run_whole : (rs : List (List ℕ)) → ((j : ℕ) → j < length rs → in_run k a b (get_or rs j []) ≡ true) → run k a b rs ≡ rs
  run_whole [] h = refl
  run_whole (x ∷ rs) h = rw (h 0 (omega arith)) (ap (λ (l : List (List ℕ)). x ∷ l) (run_whole rs (λ j l. h (suc j) (suc-le-suc l))))

  module _ (rs : List (List ℕ)) (r : rises k rs ≡ true) where
    pub below : (j : ℕ) → j < place (spot k a rs) → in_run k a b (get_or rs j []) ≡ false
    below j l = rw (before_place k a rs j l)

    pub above : (j : ℕ) → past (spot k b rs) ≤ j → j < length rs → in_run k a b (get_or rs j []) ≡ false
    above j l m = rw (from_past k b rs j r l m) (go (is_less (cmp k (get_or rs j []) a)))
      where
        go : (c : Bool) → (not c && false) ≡ false
        go true = refl
        go false = refl

    pub inside : (j : ℕ) → place (spot k a rs) ≤ j → j < past (spot k b rs) → in_run k a b (get_or rs j []) ≡ true
    inside j l m =
        let n : j < length rs = omega (arith, past_le k b rs) in
        rw (not_less (cmp k (get_or rs j []) a) (from_place k a rs j r l n), not_less (cmp k b (get_or rs j [])) (before_past k b rs j m))

    -- the records from one place up to the other are those whose keys lie between
    run_is : take (past (spot k b rs) - place (spot k a rs)) (drop (place (spot k a rs)) rs) ≡ run k a b rs
    run_is = go (dec_lt (past (spot k b rs)) (place (spot k a rs)))
      where
        p : ℕ
        p = place (spot k a rs)

        q : ℕ
        q = past (spot k b rs)

        go : Dec (q < p) → take (q - p) (drop p rs) ≡ run k a b rs
        go (yes l) =
            let z : q - p ≡ 0 = omega arith in
            rw z (sym (run_none rs (λ j m. one j m (dec_lt j p))))
          where
            one : (j : ℕ) → j < length rs → Dec (j < p) → in_run k a b (get_or rs j []) ≡ false
            one j m (yes n) = below j n
            one j m (no n) = above j (omega arith) m
        go (no l) =
            let n : ℕ = q - p in
            let e : p + n ≡ q = omega arith in
            let lq : q ≤ length rs = past_le k b rs in
            let mid : List (List ℕ) = take n (drop p rs) in
            let end : List (List ℕ) = drop n (drop p rs) in
            let front : run k a b (take p rs) ≡ [] =
            run_none (take p rs) (λ j m. let i : j < p = omega (arith, length-take p rs) in ap (in_run k a b) (get_or-take p rs j [] i) ∙ below j i) in
            let middle : run k a b mid ≡ mid =
            run_whole mid (λ j m.
            let i : j < n = omega (arith, length-take n (drop p rs)) in
            ap (in_run k a b) (get_or-take n (drop p rs) j [] i ∙ get_or-drop p rs j []) ∙ inside (p + j) (omega arith) (omega arith)) in
            let last : run k a b end ≡ [] =
            run_none end (λ j m.
            let i : p + (n + j) < length rs = omega (arith, length-drop n (drop p rs), length-drop p rs) in
            ap (in_run k a b) (get_or-drop n (drop p rs) j [] ∙ get_or-drop p rs (n + j) []) ∙ above (p + (n + j)) (omega arith) i) in
            sym (ap (run k a b) (sym (take-append-drop p rs))
            ∙ run_append (take p rs) (drop p rs)
            ∙ ap₂ (λ (x y : List (List ℕ)). x ++ y) front (ap (run k a b) (sym (take-append-drop n (drop p rs))) ∙ run_append mid end ∙ ap₂ (λ (x y : List (List ℕ)). x ++ y) middle last)
            ∙ append-nil mid)

-- what `between` answers: the records from one place up to the other are those whose keys lie from a to b
pub run_of : (s k : ℕ) (a b t : List ℕ) (from to : ℕ) → rises k (recs s t) ≡ true → RunOf s k a b t from to → take (to - from) (drop from (recs s t)) ≡ run k a b (recs s t)
run_of s k a b t from to r h = rw (h.begins, h.ends) (run_is k a b (recs s t) r)

-- ---- `past_key`, by where the key stands

module _ (s k : ℕ) (t key : List ℕ) (i : ℕ) (o : Result ℕ ℕ) (f : o ≡ spot k key (recs s t)) where
  abbrev past_key : ℕ → Type 0
  past_key r = (r ≡ past (spot k key (recs s t))) × (r ≤ count_of t)

  past_by : (r : ℕ) → r ≡ past o → past_key r
  past_by r e =
      let g : r ≡ past (spot k key (recs s t)) = e ∙ ap past f in
      (g, omega (arith, past_le k key (recs s t), length_recs s t))

  pub past_at : o ≡ Ok i → past_key (i + 1)
  past_at e = past_by (i + 1) (sym (ap past e))

  pub past_gap : o ≡ Err i → past_key i
  past_gap e = past_by i (sym (ap past e ∙ omega arith))
