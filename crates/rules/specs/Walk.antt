-- The commits of a snapshot, the walk, and missing frames.
use Rattle.std.specs.Prelude.{ℕ, Bool, false, cond, not, ◌&&◌, List, [], ◌∷◌, ◌++◌, length, nat_le}
use Rattle.std.proofs.Math.Option.{Option, none, some}
use Rattle.basics.specs.Answers.{Answer, done, ask, ◌>>=◌, ◌>>◌}
use Rattle.rules.specs.Lists.{those, is_none}
use Rattle.rules.specs.Records.{Id, Pages, Segment, Commit, Present, Range, Snapshot}
use Rattle.rules.specs.Pages.{is_empty, truncated, common, minus, first_page}
use Rattle.rules.specs.Tables.{Table, commits_formed, presence_formed, same_id, get_present}
use Rattle.rules.specs.Frames.{Part, parts_of}
use Rattle.rules.specs.Arguments.{snapshot_lsns, snapshot_order, snapshot_form}
use Rattle.rules.specs.Write.{pages_of}

-- a commit lies in a range
unfoldable pub in_range : Range → Commit → Bool
in_range r c = same_id r.log c.log && nat_le r.start c.lsn && nat_le c.lsn r.end

-- the commits of a path: ranges in path order, LSN falling
abbrev pub path_commits : Table Commit → List Range → List Commit
path_commits cs [] = []
path_commits cs (r ∷ rs) = those (in_range r) cs.rows ++ path_commits cs rs

-- added: each item names its commit's log and LSN
pub record Item : Type 0 where
  pub log : Id
  pub lsn : ℕ
  pub segment : Segment
  pub pages : Pages

-- what no earlier one took
abbrev pub not_taken : Pages → List Commit → Pages
not_taken s [] = s
not_taken s (c ∷ cs) = minus (not_taken s cs) (pages_of c.segment)

-- each set truncated to the page count; each commit gets what no earlier one took
abbrev pub gift : ℕ → List Commit → Commit → Pages
gift count earlier c = not_taken (truncated (pages_of c.segment) count) earlier

-- empty gifts are left out
abbrev pub item_of : Commit → Option Segment → Pages → List Item
item_of c none g = []
item_of c (some s) g = cond (is_empty g) [] (record { log = c.log; lsn = c.lsn; segment = s; pages = g } ∷ [])

-- commit by commit, with those met so far
abbrev pub walk_from : ℕ → List Commit → List Commit → List Item
walk_from count earlier [] = []
walk_from count earlier (c ∷ cs) = item_of c c.segment (gift count earlier c) ++ walk_from count (c ∷ earlier) cs

-- the walk of a snapshot
unfoldable pub walk_of : Table Commit → Snapshot → List Item
walk_of cs s = walk_from s.count [] (path_commits cs s.path)

-- commits of a snapshot, into a lent list of `slots` places
unfoldable pub snapshot_commits : Table Commit → ℕ → Snapshot → Answer (List Commit)
snapshot_commits cs slots s = do
  ask (commits_formed cs) 20
  ask (snapshot_lsns s) 1
  ask (snapshot_order s) 2
  ask (snapshot_form s) 3
  ask (nat_le (length (path_commits cs s.path)) slots) 19
  done (path_commits cs s.path)

-- walk, into a lent list of `slots` places
unfoldable pub walk : Table Commit → ℕ → Snapshot → Answer (List Item)
walk cs slots s = do
  ask (commits_formed cs) 20
  ask (snapshot_lsns s) 1
  ask (snapshot_order s) 2
  ask (snapshot_form s) 3
  ask (nat_le (length (walk_of cs s)) slots) 19
  done (walk_of cs s)

-- ---- missing frames

-- a first page is there and is not present
abbrev pub absent : Table Present → Id → Option ℕ → Bool
absent ps sid none = false
absent ps sid (some p) = is_none (get_present ps sid p)

-- frames meeting a walk gift whose first page (of the frame's set) is not present
abbrev pub is_missing : Table Present → Pages → Part → Bool
is_missing ps g f = not (is_empty (common f.pages g)) && absent ps f.sid (first_page f.pages)

-- item by item, frames in their order
abbrev pub missing_of : Table Present → List Item → List Part
missing_of ps [] = []
missing_of ps (i ∷ is) = those (is_missing ps i.pages) (parts_of i.segment) ++ missing_of ps is

-- missing frames, into a lent list of `slots` places
unfoldable pub missing_frames : Table Commit → Table Present → ℕ → Snapshot → Answer (List Part)
missing_frames cs ps slots s = do
  ask (commits_formed cs && presence_formed ps) 20
  ask (snapshot_lsns s) 1
  ask (snapshot_order s) 2
  ask (snapshot_form s) 3
  let parts = missing_of ps (walk_of cs s)
  ask (nat_le (length parts) slots) 19
  done parts
