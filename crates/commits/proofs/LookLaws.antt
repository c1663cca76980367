-- What the lookups find, from what the search in the table's bytes says: the key's bytes name the key, so the spot of the bytes is the record of the key, the record at
-- the place of the log's last LSN is its latest if it is the log's, and the run between the keys of a range's ends is its commits.
use Rattle.std.proofs.Common.{◌≡◌, ℕ, ◌-◌, ◌^◌, ◌<◌, ◌≤◌, Bool, true, false, cond, List, length, sym, ap, ◌∙◌, subst, arith, Ok, Err, Option as Maybe, Some, None}
use mathlib.Core.Option.{Option, none, some}
use Rattle.basics.specs.Numbers.{last_lsn}
use Rattle.rules.specs.Records.{Id, Commit}
use Rattle.rules.specs.Tables.{same_id, get_commit, latest}
use Rattle.table.specs.Records.{spot, place}
use Rattle.table.specs.Table.{count_of, recs}
use Rattle.table.specs.Run.{RunOf}
use Rattle.table.proofs.Rows.{length_recs}
use Rattle.table.proofs.Spots.{at_lt}
use Rattle.layout.specs.Records.{log_lsn_bytes}
use Rattle.layout.specs.Tables.{commits_in, commits_ok}
use Rattle.rows.specs.Lookups.{nth, only_if}
use Rattle.rows.proofs.Finds.{Names, row_nth, row_end, get_at, get_gap}
use Rattle.rows.proofs.Seeks.{latest_at, range_run}
use Rattle.rows.proofs.Tables.{commits, commit_key_lem}
use Rattle.commits.specs.Places.{commit_at, place_says, Inside, PlaceOf, RunOfRange}

-- the bytes that code built for a key name it
named : (log : Id) (lsn : ℕ) (kb : List ℕ) → length log ≡ 16 → lsn < 2 ^ 64 → kb ≡ log_lsn_bytes.spell (log, lsn) → Names commits kb (log, lsn)
named log lsn kb l h e = subst (λ (k : List ℕ). Names commits k (log, lsn)) (sym e) (commit_key_lem (log, lsn) (l, h))

module _ (t : List ℕ) (ok : commits_ok t ≡ true) (log : Id) (l : length log ≡ 16) where
  -- ---- the commit at an LSN

  module _ (lsn : ℕ) (h : lsn < 2 ^ 64) (kb : List ℕ) (e : kb ≡ log_lsn_bytes.spell (log, lsn)) (i : ℕ) where
    pub found_at : spot 25 kb (recs 722 t) ≡ Ok i → PlaceOf t (get_commit (commits_in t) log lsn) (Some i)
    found_at p = record {
      says = sym (get_at commits kb (log, lsn) (named log lsn kb l h e) t ok i p);
      inside = omega (arith, at_lt 25 kb (recs 722 t) i p, length_recs 722 t);
    }

    pub found_gap : spot 25 kb (recs 722 t) ≡ Err i → PlaceOf t (get_commit (commits_in t) log lsn) None
    found_gap p = record { says = sym (get_gap commits kb (log, lsn) (named log lsn kb l h e) t ok i p); inside = tt }

  -- ---- the latest commit

  module _ (kb : List ℕ) (e : kb ≡ log_lsn_bytes.spell (log, 2 ^ 64 - 1)) (i : ℕ) (p : i ≡ place (spot 25 kb (recs 722 t))) where
    first_there : latest (commits_in t) log ≡ only_if (λ c. same_id log c.log) (nth i (commits_in t).rows)
    unfolding last_lsn
    first_there = latest_at t ok log kb (named log (2 ^ 64 - 1) kb l (omega arith) e) i p

    pub latest_end : count_of t ≤ i → PlaceOf t (latest (commits_in t) log) None
    latest_end h = record { says = sym (first_there ∙ ap (only_if (λ (c : Commit). same_id log c.log)) (row_end commits t i h)); inside = tt }

    module _ (h : i < count_of t) (b : Bool) (eb : b ≡ same_id log (commit_at t i).log) where
      first_is : latest (commits_in t) log ≡ cond b (some (commit_at t i)) none
      first_is =
          first_there
          ∙ ap (only_if (λ (c : Commit). same_id log c.log)) (row_nth commits t i h)
          ∙ ap (λ (x : Bool). cond x (some (commit_at t i)) none) (sym eb)

      pub latest_other : b ≡ false → PlaceOf t (latest (commits_in t) log) None
      latest_other f = record { says = sym (first_is ∙ ap (λ (x : Bool). cond x (some (commit_at t i)) none) f); inside = tt }

      pub latest_here : b ≡ true → PlaceOf t (latest (commits_in t) log) (Some i)
      latest_here f = record { says = sym (first_is ∙ ap (λ (x : Bool). cond x (some (commit_at t i)) none) f); inside = h }

  -- ---- the commits of a range

  pub range_found : (start end : ℕ) (a b : List ℕ) → start < 2 ^ 64 → end < 2 ^ 64 → a ≡ log_lsn_bytes.spell (log, end) → b ≡ log_lsn_bytes.spell (log, start) → (i j : ℕ)
      → RunOf 722 25 a b t i j → RunOfRange t (record { log = log; start = start; end = end }) i j
  range_found start end a b hs he ea eb i j r = record {
    places = subst (λ (x : List ℕ). RunOf 722 25 x (log_lsn_bytes.spell (log, start)) t i j) ea (subst (λ (y : List ℕ). RunOf 722 25 a y t i j) eb r);
    commits = range_run t ok (record { log = log; start = start; end = end }) a b (named log end a l he ea) (named log start b l hs eb) i j r;
  }

-- ---- what a place says to a caller

module _ (t : List ℕ) (o : Option Commit) (p : Maybe ℕ) (h : PlaceOf t o p) where
  -- the commit that stands there is the one looked up, and it is in the table
  pub place_at_lem : (i : ℕ) → p ≡ Some i → (some (commit_at t i) ≡ o) × (i < count_of t)
  place_at_lem i e = (ap (place_says t) (sym e) ∙ h.says, subst (Inside t) e h.inside)

  pub place_missing : p ≡ None → none ≡ o
  place_missing e = ap (place_says t) (sym e) ∙ h.says
