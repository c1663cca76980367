-- The commits of a path as places in the table of commits: ranges in path order, LSN falling, which is the table's order.
use Rattle.std.specs.Prelude.{◌≡◌, ℕ, zero, suc, ◌-◌, ◌<◌, ◌≤◌, List, [], ◌∷◌, ◌++◌, map, length, replicate, Option as Maybe, Some, None}
use Rattle.std.proofs.Math.Option.{Option, none, some}
use Rattle.rules.specs.Records.{Commit, Range}
use Rattle.rules.specs.Pages.{numbers}
use Rattle.rules.specs.Walk.{path_commits}
use Rattle.table.specs.Records.{spot, place, past}
use Rattle.table.specs.Table.{count_of, recs}
use Rattle.table.specs.declared.Run.{Run}
use Rattle.layout.specs.Records.{log_lsn_bytes}
use Rattle.layout.specs.Tables.{commits_in}
use Rattle.rows.specs.Lookups.{nth}
use Rattle.commits.specs.Places.{commit_at}

-- the commits of a range stand from the key of its last LSN to that of its first
abbrev pub run_of : List ℕ → Range → Run
run_of t r = record {
  from = place (spot 25 (log_lsn_bytes.spell (r.log, r.end)) (recs 722 t));
  to = past (spot 25 (log_lsn_bytes.spell (r.log, r.start)) (recs 722 t));
}

abbrev pub no_run : Run
no_run = record { from = 0; to = 0 }

-- a run for each range, and empty ones past them
abbrev pub runs_of : List ℕ → List Range → List Run
runs_of t path = map (run_of t) path ++ replicate (8 - length path) no_run

-- the places of runs, one run after another
unfoldable pub places_in : List Run → List ℕ
places_in [] = []
places_in (r ∷ rs) = numbers r.from (r.to - r.from) ++ places_in rs

-- the place of a number, counted from 0
abbrev pub place_at : ℕ → List ℕ → Maybe ℕ
place_at k [] = None
place_at zero (p ∷ ps) = Some p
place_at (suc k) (p ∷ ps) = place_at k ps

-- each place is below a bound
abbrev pub Below : ℕ → List ℕ → Type 0
Below n [] = Unit {0}
Below n (p ∷ ps) = (p < n) × Below n ps

-- the places are those of records, of at most eight tables full
pub record Inside (t ps : List ℕ) : Type 0 where
  pub below : Below (count_of t) ps
  pub few : length ps ≤ 524280

-- the commits that stand there
abbrev pub commits_at : List ℕ → List ℕ → List Commit
commits_at t ps = map (commit_at t) ps

-- the runs are those of the ranges; what stands in their places are the commits of the path
pub record PathOf (t : List ℕ) (path : List Range) (runs : List Run) : Type 0 where
  pub are : runs ≡ runs_of t path
  pub commits : commits_at t (places_in runs) ≡ path_commits (commits_in t) path
  pub inside : Inside t (places_in runs)

-- one more, if there is one
abbrev pub more : {A : Type 0} → Option A → List A → List A
more none xs = xs
more (some x) xs = x ∷ xs

-- the first k, the last of them first: those met before number k
abbrev pub before : {A : Type 0} → ℕ → List A → List A
before zero xs = []
before (suc k) xs = more (nth k xs) (before k xs)
