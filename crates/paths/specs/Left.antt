-- What is left of a path while its commits are gone through: a path again, whose first range ends below the commit that was met.
use Rattle.std.specs.Prelude.{◌≡◌, ℕ, suc, ◌+◌, ◌-◌, ◌<◌, ◌≤◌, Bool, true, cond, not, List, [], ◌∷◌, ◌++◌, map, length, take, drop, slice_index_or, slice_set}
use Rattle.rules.specs.Lists.{first, those, all, is_none}
use Rattle.rules.specs.Records.{Id, Commit, Range}
use Rattle.rules.specs.Tables.{Table, same_id}
use Rattle.rules.specs.Walk.{in_range, path_commits}
use Rattle.volume.specs.Snapshots.{range_says, no_range}
use Rattle.volume.specs.declared.snapshot.LogRange.{LogRange}
use Rattle.basics.specs.declared.lsn.Lsn.{Lsn}
use Rattle.layout.specs.Tables.{commits_in}
use Rattle.table.specs.Table.{count_of}
use Rattle.commits.specs.Places.{commit_at}
use Rattle.paths.specs.declared.Left.{Left}
use Rattle.paths.specs.declared.Met.{Met}

-- a range up to below an LSN
abbrev pub lowered : Range → ℕ → Range
lowered r n = record { log = r.log; start = r.start; end = n - 1 }

-- a range does not name the log
abbrev pub other_log : Id → Range → Bool
other_log log r = not (same_id log r.log)

-- how many ranges in front have no commit
abbrev pub leading : Table Commit → List Range → ℕ
leading cs [] = 0
leading cs (r ∷ rs) = cond (is_none (first (in_range r) cs.rows)) (suc (leading cs rs)) 0

-- its places are those of a path
abbrev pub is_left : Left → Type 0
is_left l = (l.at ≤ l.len) × (l.len ≤ 8)

-- the ranges left
abbrev pub left_says : Left → List Range
left_says l = map range_says (drop l.at (take l.len l.path))

-- the ranges that do not name the log, in code
abbrev pub others : Id → List LogRange → List LogRange
others log path = those (λ (r : LogRange). other_log log (range_says r)) path

-- of the first ranges of a path those that do not name the log, moved to its front; each place behind them is as it was
unfoldable pub left_without : List LogRange → ℕ → Id → Left
left_without path len log = record { path = others log (take len path) ++ drop (length (others log (take len path))) path; at = 0; len = length (others log (take len path)) }

-- a path whose range r at a place is lowered below an LSN
abbrev pub lowered_at : LogRange → ℕ → ℕ → List LogRange → List LogRange
lowered_at r i n path = slice_set path i (record { log = r.log; start = r.start; end = record { 0 = n - 1 } })

-- the next commit of what is left, and what is left then
pub record Meets (t : List ℕ) (l : Left) (m : Met) : Type 0 where
  pub inside : m.row < count_of t
  pub here : path_commits (commits_in t) (left_says l) ≡ commit_at t m.row ∷ path_commits (commits_in t) (left_says m.left)
  pub left_is : m.left ≡ record { path = lowered_at (slice_index_or l.path m.left.at no_range) m.left.at (commit_at t m.row).lsn l.path; at = l.at + leading (commits_in t) (left_says l); len = l.len }
  pub is_left : is_left m.left
  pub others : (log : Id) → all (other_log log) (left_says l) ≡ true → all (other_log log) (left_says m.left) ≡ true
