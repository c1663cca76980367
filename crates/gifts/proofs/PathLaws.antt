-- The places of a path. A run's places are numbers in a row, and what stands there is the stretch of the table that is the range's commits; runs one after another are the
-- ranges in path order. The place of a number is found run by run: either within the run, or past its size in those that are left.
use Rattle.std.proofs.Common.{Some}
use Rattle.std.specs.Prelude.{◌≡◌, ℕ, zero, suc, ◌+◌, ◌-◌, ◌*◌, ◌<◌, ◌≤◌, true, false, leb, List, [], ◌∷◌, ◌++◌, map, length, get_or, take, drop, replicate}
use mathlib.Core.Path.{refl, sym, ap, ap₂, ◌∙◌, subst}
use mathlib.Core.List.{append-nil, append_assoc}
use native.Mathlib.Omega.{arith}
use mir.Val.{Val}
use denote.Laws.{Is}
use denote.Struct.Declared.{row}
use native.Mathlib.Numerals.{add-one}
use borrow.Author.Tests.{le-leb, lt-leb, leb-true, leb-false}
use lib.ListN.{length-append, length-map, drop_of_length-le}
use lib.Seq.{drop-cons, take-suc, length-take-le}
use Rattle.octets.specs.Tab.{tab}
use Rattle.rules.specs.Records.{Commit, Range}
use Rattle.rules.specs.Pages.{numbers}
use Rattle.rules.specs.Walk.{path_commits}
use Rattle.rules.proofs.TableLaws.{cases, map-append}
use Rattle.rules.proofs.PageLaws.{length_numbers}
use Rattle.table.specs.Table.{count_of, cap_of}
use Rattle.table.specs.declared.Run.{Run}
use Rattle.table.proofs.Checks.{well_count}
use Rattle.layout.specs.Tables.{commits_in, commits_ok}
use Rattle.rows.specs.Lookups.{stretch}
use Rattle.rows.proofs.Rows.{formed_well}
use Rattle.rows.proofs.Finds.{stretch_end, stretch_next}
use Rattle.rows.proofs.Tables.{commits}
use Rattle.commits.specs.Places.{commit_at, RunOfRange}
use Rattle.gifts.specs.declared.paths.Path.{Path}
use Rattle.gifts.specs.contracts.paths.Path.{the_type}
use Rattle.gifts.specs.Paths.{run_of, no_run, runs_of, places_in, place_at, Below, commits_at, PathOf}

-- a path has eight places for runs
pub runs_8 : (p : Path) (vs : List Val) → Is (row the_type) p vs → length p.runs ≡ 8
runs_8 p vs g = g.1.1.0.1.0.1

-- ---- numbers in a row

place_in : (a n k : ℕ) (ps : List ℕ) → k < n → place_at k (numbers a n ++ ps) ≡ Some (a + k)
unfolding numbers
place_in a zero k ps h = absurd (omega arith)
place_in a (suc n) zero ps h = let e : a ≡ a + 0 = omega arith in ap Some e
place_in a (suc n) (suc k) ps h = let e : suc a + k ≡ a + suc k = omega arith in place_in (suc a) n k ps (omega arith) ∙ ap Some e

place_past : (a n k : ℕ) (ps : List ℕ) → n ≤ k → place_at k (numbers a n ++ ps) ≡ place_at (k - n) ps
unfolding numbers
place_past a zero k ps h = let e : k ≡ k - 0 = omega arith in ap (λ (m : ℕ). place_at m ps) e
place_past a (suc n) zero ps h = absurd (omega arith)
place_past a (suc n) (suc k) ps h = let e : k - n ≡ suc k - suc n = omega arith in place_past (suc a) n k ps (omega arith) ∙ ap (λ (m : ℕ). place_at m ps) e

below_numbers : (b a n : ℕ) → a + n ≤ b → Below b (numbers a n)
unfolding numbers
below_numbers b a zero h = tt
below_numbers b a (suc n) h = (omega arith, below_numbers b (suc a) n (omega arith))

below_append : (b : ℕ) (ps qs : List ℕ) → Below b ps → Below b qs → Below b (ps ++ qs)
below_append b [] qs h k = k
below_append b (p ∷ ps) qs h k = (h.0, below_append b ps qs h.1 k)

-- ---- a turn of a loop over the runs

module _ (runs : List Run) (i : ℕ) where
  pub runs_end : length runs ≤ i → places_in (drop i runs) ≡ []
  unfolding places_in
  runs_end h = ap places_in (drop_of_length-le runs {i = i} h)

  module _ (h : i < length runs) where
    here : places_in (drop i runs) ≡ numbers (get_or runs i no_run).from ((get_or runs i no_run).to - (get_or runs i no_run).from) ++ places_in (drop (i + 1) runs)
    unfolding places_in
    here = rw (add-one, drop-cons runs i no_run h)

    module _ (n k : ℕ) (e : n ≡ (get_or runs i no_run).to - (get_or runs i no_run).from) where
      shifted : places_in (drop i runs) ≡ numbers (get_or runs i no_run).from n ++ places_in (drop (i + 1) runs)
      shifted = here ∙ ap (λ (m : ℕ). numbers (get_or runs i no_run).from m ++ places_in (drop (i + 1) runs)) (sym e)

      -- within the run, or past it
      pub run_holds : k < n → place_at k (places_in (drop i runs)) ≡ Some ((get_or runs i no_run).from + k)
      run_holds l = ap (place_at k) shifted ∙ place_in (get_or runs i no_run).from n k (places_in (drop (i + 1) runs)) l

      pub run_passed : n ≤ k → place_at k (places_in (drop i runs)) ≡ place_at (k - n) (places_in (drop (i + 1) runs))
      run_passed l = ap (place_at k) shifted ∙ place_past (get_or runs i no_run).from n k (places_in (drop (i + 1) runs)) l

      longer : length (places_in (drop i runs)) ≡ n + length (places_in (drop (i + 1) runs))
      longer = ap length shifted ∙ length-append (numbers (get_or runs i no_run).from n) (places_in (drop (i + 1) runs)) ∙ ap (λ (m : ℕ). m + length (places_in (drop (i + 1) runs))) (length_numbers (get_or runs i no_run).from n)

      -- k is the room that is left
      pub run_over : k < n → leb (length (places_in (drop i runs))) k ≡ false
      run_over l = lt-leb (length (places_in (drop i runs))) k (omega (arith, longer))

      pub run_fits : n ≤ k → leb (length (places_in (drop i runs))) k ≡ leb (length (places_in (drop (i + 1) runs))) (k - n)
      run_fits l =
          cases (leb (length (places_in (drop (i + 1) runs))) (k - n))
          (λ q. le-leb (length (places_in (drop i runs))) k (omega (arith, longer, leb-true (length (places_in (drop (i + 1) runs))) (k - n) q)) ∙ sym q)
          (λ q. lt-leb (length (places_in (drop i runs))) k (omega (arith, longer, leb-false (length (places_in (drop (i + 1) runs))) (k - n) q)) ∙ sym q)

-- ---- the runs of the ranges

places_append : (xs ys : List Run) → places_in (xs ++ ys) ≡ places_in xs ++ places_in ys
unfolding places_in
places_append [] ys = refl
places_append (r ∷ xs) ys = ap (λ (l : List ℕ). numbers r.from (r.to - r.from) ++ l) (places_append xs ys) ∙ sym (append_assoc (numbers r.from (r.to - r.from)) (places_in xs) (places_in ys))

places_none : (k : ℕ) → places_in (replicate k no_run) ≡ []
unfolding places_in numbers
places_none zero = refl
places_none (suc k) = places_none k

-- each range's run was found
unfoldable pub Found : List ℕ → List Range → Type 0
Found t [] = Unit {0}
Found t (r ∷ rs) = RunOfRange t r (run_of t r).from (run_of t r).to × Found t rs

found_one : (t : List ℕ) (rs : List Range) (r : Range) → Found t rs → RunOfRange t r (run_of t r).from (run_of t r).to → Found t (rs ++ (r ∷ []))
unfolding Found
found_one t [] r h k = (k, tt)
found_one t (x ∷ rs) r h k = (h.0, found_one t rs r h.1 k)

module _ (t : List ℕ) where
  -- a run that was found at its places is the range's run
  pub run_is : (r : Range) (x : Run) → RunOfRange t r x.from x.to → x ≡ run_of t r
  run_is r x h = let a = h.places.begins in let b = h.places.ends in λ j. record { from = a j; to = b j }

  -- what stands in a run's places
  taken : (n i j : ℕ) → j - i ≡ n → j ≤ count_of t → map (commit_at t) (numbers i n) ≡ stretch i j (commits_in t).rows
  unfolding numbers
  taken zero i j e h = sym (stretch_end i j (commits_in t).rows (omega arith))
  taken (suc n) i j e h =
      ap (λ (l : List Commit). commit_at t i ∷ l) (taken n (suc i) j (omega arith) h ∙ ap (λ (m : ℕ). stretch m j (commits_in t).rows) (sym (add-one i)))
      ∙ sym (stretch_next commits t i j (omega arith) h)

  found_commits : (path : List Range) → Found t path → commits_at t (places_in (map (run_of t) path)) ≡ path_commits (commits_in t) path
  unfolding places_in Found
  found_commits [] h = refl
  found_commits (r ∷ rs) h =
      let x = run_of t r in
      map-append (commit_at t) (numbers x.from (x.to - x.from)) (places_in (map (run_of t) rs))
      ∙ ap₂ (λ (a b : List Commit). a ++ b) (taken (x.to - x.from) x.from x.to refl h.0.places.inside.1 ∙ h.0.commits) (found_commits rs h.1)

  found_below : (path : List Range) → Found t path → Below (count_of t) (places_in (map (run_of t) path))
  unfolding places_in Found
  found_below [] h = tt
  found_below (r ∷ rs) h =
      let x = run_of t r in
      below_append (count_of t) (numbers x.from (x.to - x.from)) (places_in (map (run_of t) rs))
      (below_numbers (count_of t) x.from (x.to - x.from) (omega (arith, h.0.places.inside))) (found_below rs h.1)

  module _ (ok : commits_ok t ≡ true) where
    count_few : count_of t ≤ 65535
    unfolding cap_of
    count_few = omega (arith, well_count 722 25 t (formed_well commits t ok))

    found_few : (path : List Range) → Found t path → length (places_in (map (run_of t) path)) ≤ 65535 * length path
    unfolding places_in Found
    found_few [] h = omega arith
    found_few (r ∷ rs) h =
        let x = run_of t r in
        let e = length-append (numbers x.from (x.to - x.from)) (places_in (map (run_of t) rs)) in
        omega (arith, e, length_numbers x.from (x.to - x.from), h.0.places.inside.1, count_few, found_few rs h.1)

    -- ---- all are found

    pub path_found : (path : List Range) (runs : List Run) → length path ≤ 8 → Found t path → runs ≡ runs_of t path → PathOf t path runs
    path_found path runs few f e =
        let p : places_in runs ≡ places_in (map (run_of t) path) =
        ap places_in e ∙ places_append (map (run_of t) path) (replicate (8 - length path) no_run)
        ∙ ap (λ (l : List ℕ). places_in (map (run_of t) path) ++ l) (places_none (8 - length path)) ∙ append-nil (places_in (map (run_of t) path)) in
        record {
          are = e;
          commits = ap (commits_at t) p ∙ found_commits path f;
          inside = record {
            below = subst (Below (count_of t)) (sym p) (found_below path f);
            few = omega (arith, ap length p, found_few path f);
          };
        }

-- ---- the loop that finds them, over what says ranges

module _ {A : Type 0} where
  -- a table of the first n is the map over them
  tab_map : {B : Type 0} (g : A → B) (xs : List A) (d : A) (n : ℕ) → n ≤ length xs → tab (λ k. g (get_or xs k d)) n ≡ map g (take n xs)
  unfolding tab
  tab_map {B} g xs d zero h = refl
  tab_map {B} g xs d (suc n) h =
      ap (λ (r : List B). r ++ (g (get_or xs n d) ∷ [])) (tab_map g xs d n (omega arith))
      ∙ sym (map-append g (take n xs) (get_or xs n d ∷ []))
      ∙ ap (map g) (sym (take-suc xs n d (omega arith)))

  map_twice : {B C : Type 0} (f : A → B) (g : B → C) (xs : List A) → map (λ x. g (f x)) xs ≡ map g (map f xs)
  map_twice {B} {C} f g [] = refl
  map_twice {B} {C} f g (x ∷ xs) = ap (λ (l : List C). g (f x) ∷ l) (map_twice f g xs)

  fewer : (n m : ℕ) (z : A) → n ≤ m → drop n (replicate m z) ≡ replicate (m - n) z
  fewer zero m z h = let e : m ≡ m - 0 = omega arith in ap (λ (k : ℕ). replicate k z) e
  fewer (suc n) zero z h = absurd (omega arith)
  fewer (suc n) (suc m) z h = let e : m - n ≡ suc m - suc n = omega arith in fewer n m z (omega arith) ∙ ap (λ (k : ℕ). replicate k z) e

module _ {A : Type 0} (t : List ℕ) (f : A → Range) (xs : List A) (d : A) where
  pub found_none : Found t (map f (take 0 xs))
  unfolding Found
  found_none = tt

  pub found_next : (i : ℕ) → i < length xs → Found t (map f (take i xs)) → RunOfRange t (f (get_or xs i d)) (run_of t (f (get_or xs i d))).from (run_of t (f (get_or xs i d))).to → Found t (map f (take (i + 1) xs))
  found_next i h k r = rw (add-one, take-suc xs i d h, map-append) (found_one t (map f (take i xs)) (f (get_or xs i d)) k r)

  pub found_all : (n : ℕ) (runs : List Run) → commits_ok t ≡ true → n ≤ length xs → n ≤ 8 → runs ≡ tab (λ k. run_of t (f (get_or xs k d))) n ++ drop n (replicate 8 no_run) → Found t (map f (take n xs))
      → PathOf t (map f (take n xs)) runs
  found_all n runs ok h few e k =
      let l : length (map f (take n xs)) ≡ n = length-map (take n xs) f ∙ length-take-le n xs h in
      path_found t ok (map f (take n xs)) runs (omega arith) k
      (e ∙ ap₂ (λ (a b : List Run). a ++ b) (tab_map (λ x. run_of t (f x)) xs d n h ∙ map_twice f (run_of t) (take n xs)) (fewer n 8 no_run few ∙ ap (λ (m : ℕ). replicate (8 - m) no_run) (sym l)))
