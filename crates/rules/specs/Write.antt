-- Write a commit: store it, replacing any at that log and LSN; add its checkpoints and one index entry per page. Old entries stay.
use Rattle.std.specs.Prelude.{ℕ, Bool, ◌&&◌, List, [], ◌∷◌, map}
use Rattle.std.proofs.Math.Option.{Option, none, some}
use Rattle.basics.specs.Orders.{log_lsn, log_page_lsn}
use Rattle.basics.specs.Answers.{Answer, done, ask, ◌>>=◌, ◌>>◌}
use Rattle.rules.specs.Records.{Pages, Segment, Commit, Entry, Checkpoint, commit_key, checkpoint_key, entry_key}
use Rattle.rules.specs.Pages.{pages_in}
use Rattle.rules.specs.Tables.{Table, fits, store, store_all, commits_formed, checkpoints_formed, index_formed}
use Rattle.rules.specs.Arguments.{commit_lsns, commit_lists}

-- the tables that a call is lent to store commits: commits, checkpoints, index
pub record Logs : Type 0 where
  pub commits : Table Commit
  pub checkpoints : Table Checkpoint
  pub index : Table Entry

-- the pages of a commit: none where its segment is missing
abbrev pub pages_of : Option Segment → Pages
pages_of none = []
pages_of (some s) = s.pages

-- the checkpoints of a commit
abbrev pub checkpoints_of : Commit → List Checkpoint
checkpoints_of c = map (λ (n : ℕ). record { log = c.log; lsn = n }) c.checkpoints

-- the index entries of a commit, one for each page
abbrev pub entries_of : Commit → List Entry
entries_of c = map (λ (p : ℕ). record { log = c.log; page = p; lsn = c.lsn }) (pages_in (pages_of c.segment))

-- a commit written
unfoldable pub write : Logs → Commit → Logs
write g c = record {
  commits = store commit_key log_lsn c g.commits;
  checkpoints = store_all checkpoint_key log_lsn (checkpoints_of c) g.checkpoints;
  index = store_all entry_key log_page_lsn (entries_of c) g.index;
}

-- every call that stores commits stores each of them this way
unfoldable pub write_all : Logs → List Commit → Logs
write_all g [] = g
write_all g (c ∷ cs) = write_all (write g c) cs

-- 20 of the three
unfoldable pub logs_formed : Logs → Bool
logs_formed g = commits_formed g.commits && checkpoints_formed g.checkpoints && index_formed g.index

-- 19 of the three
unfoldable pub logs_fit : Logs → Bool
logs_fit g = fits g.commits && fits g.checkpoints && fits g.index

-- write a commit
unfoldable pub write_commit : Logs → Commit → Answer Logs
write_commit g c = do
  ask (logs_formed g) 20
  ask (commit_lsns c) 1
  ask (commit_lists c) 3
  let g' = write g c
  ask (logs_fit g') 19
  done g'
