-- What the lookups in the table of commits answer: the place of a record, or a run of places.
use Rattle.std.specs.Prelude.{◌≡◌, ℕ, ◌+◌, ◌*◌, ◌<◌, List, Option as Maybe, Some, None}
use Rattle.std.proofs.Math.Option.{Option, none, some}
use Rattle.octets.specs.Bytes.{part}
use Rattle.table.specs.Table.{count_of}
use Rattle.table.specs.Run.{RunOf}
use Rattle.rules.specs.Lists.{those}
use Rattle.rules.specs.Records.{Commit, Range}
use Rattle.rules.specs.Walk.{in_range}
use Rattle.layout.specs.Records.{log_lsn_bytes, commit_bytes}
use Rattle.layout.specs.Tables.{commits_in}
use Rattle.rows.specs.Lookups.{stretch}

-- the commit that row i spells; it is record i of the table that the bytes hold (`row_nth` of rows)
abbrev pub commit_at : List ℕ → ℕ → Commit
commit_at t i = commit_bytes.read (part (2 + i * 722) 722 t)

-- the commit at a place, or nothing
abbrev pub place_says : List ℕ → Maybe ℕ → Option Commit
place_says t (Some i) = some (commit_at t i)
place_says t None = none

-- a place is that of a record of the table
abbrev pub Inside : List ℕ → Maybe ℕ → Type 0
Inside t (Some i) = i < count_of t
Inside t None = Unit {0}

-- p is where the record o stands; None where there is none
pub record PlaceOf (t : List ℕ) (o : Option Commit) (p : Maybe ℕ) : Type 0 where
  pub says : place_says t p ≡ o
  pub inside : Inside t p

-- the commits of a range stand from one place up to another: between the keys of its last LSN and of its first
pub record RunOfRange (t : List ℕ) (r : Range) (from to : ℕ) : Type 0 where
  pub places : RunOf 722 25 (log_lsn_bytes.spell (r.log, r.end)) (log_lsn_bytes.spell (r.log, r.start)) t from to
  pub commits : stretch from to (commits_in t).rows ≡ those (in_range r) (commits_in t).rows
