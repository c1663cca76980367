-- What stands between the tables and the lists that are made of them: all rows of a table, the run of a range, the ranges of a path.
use Rattle.std.specs.Prelude.{◌≡◌, ℕ, ◌*◌, ◌/◌, ◌≤◌, cond, List, map, length, take, nat_le}
use Rattle.octets.specs.Bytes.{part, put}
use Rattle.table.specs.Table.{count_of}
use Rattle.rules.specs.Lists.{those}
use Rattle.rules.specs.Records.{Commit, Range}
use Rattle.rules.specs.Walk.{in_range, path_commits}
use Rattle.layout.specs.Tables.{commits_in}
use Rattle.rows.specs.Lookups.{stretch}
use Rattle.volume.specs.declared.snapshot.LogRange.{LogRange}
use Rattle.volume.specs.Snapshots.{range_says}
use Rattle.arguments.specs.declared.Reply.{Reply}
use Rattle.arguments.specs.Replies.{none_under, given}

-- the rows of a table, s bytes each, as a list: 19 where they do not fit
unfoldable pub rows_put : ℕ → List ℕ → List ℕ → ℕ → Reply × (List ℕ × ℕ)
rows_put s t was items = cond (nat_le (count_of t) (length was / s)) (given, (put 0 (part 2 (count_of t * s) t) was, count_of t)) (none_under 19, (was, items))

-- the stored commits of a range, LSN falling
abbrev pub range_commits : List ℕ → Range → List Commit
range_commits t r = those (in_range r) (commits_in t).rows

-- they stand from one place up to another
pub record StandsAt (t : List ℕ) (r : Range) (from to : ℕ) : Type 0 where
  pub below : from ≤ to
  pub inside : to ≤ count_of t
  pub commits : stretch from to (commits_in t).rows ≡ range_commits t r

-- the stored commits of the first n ranges of a path
abbrev pub first_commits : List ℕ → ℕ → List LogRange → List Commit
first_commits t n path = path_commits (commits_in t) (map range_says (take n path))
