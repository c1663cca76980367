-- T7, as a caller of `save`, `snapshot` and `search` sees it: what is saved is found.
use Rattle.std.specs.Prelude.{◌≡◌, ℕ, true, List, length}
use Rattle.std.proofs.Math.Option.{some}
use Rattle.basics.specs.Answers.{done}
use Rattle.pageset.specs.Sets.{holds}
use Rattle.rules.specs.Records.{Id, Commit, Volume}
use Rattle.rules.specs.Tables.{get_volume, latest_lsn}
use Rattle.rules.specs.Snapshots.{watermark_of, below}
use Rattle.rules.specs.Save.{lsn_after, saved_commit}
use Rattle.rules.specs.Demand.{Exact}
use Rattle.layout.specs.Values.{set_bytes}
use Rattle.layout.specs.Records.{commit_bytes}
use Rattle.layout.specs.Tables.{volumes_in, commits_in, index_in}
use Rattle.arguments.specs.declared.Reply.{Reply}
use Rattle.arguments.specs.Replies.{given}

-- what is supposed of the bytes of volumes, commits and index at entry, of the pages, of the page that is asked for and of the place for its commit
pub record Written (volumes commits index : List ℕ) (vid : Id) (pages : List ℕ) (page : ℕ) (out : List ℕ) : Type 0 where
  -- the index lists exactly the pages of the stored commits
  pub exact : Exact (commits_in commits) (index_in index)
  -- the volume, and the LSN after its local log's latest
  pub volume : Volume
  pub is : get_volume (volumes_in volumes) vid ≡ some volume
  pub lsn : ℕ
  pub next : lsn_after (latest_lsn (commits_in commits) volume.local) ≡ done lsn
  -- the watermark is below it; without that the snapshot would not show the new commit
  pub unsent : below (watermark_of volume.sync) lsn ≡ true
  -- the page is one of those that are saved, and the place has a commit's size
  pub page_saved : holds (set_bytes.read pages) page ≡ true
  pub place : length out ≡ commit_bytes.size

-- the snapshot is taken, and the search finds the commit c
pub record Finds (c : Commit) (taken found : Reply) (left : List ℕ) : Type 0 where
  pub snapshot_given : taken ≡ given
  pub commit_given : found ≡ given
  pub commit_bytes : left ≡ commit_bytes.spell c

-- a save that answers 0, a snapshot and a search for a page that was saved: it is found, in the new commit
abbrev pub SavedIsFound : (volumes commits index : List ℕ) (vid : Id) (count : ℕ) (sid : Id) (pages : List ℕ) (page : ℕ) (out : List ℕ) (saved taken found : Reply) (left : List ℕ) → Type 0
SavedIsFound volumes commits index vid count sid pages page out saved taken found left =
    saved.code ≡ 0 → (h : Written volumes commits index vid pages page out) → Finds (saved_commit h.volume h.lsn count sid (set_bytes.read pages)) taken found left
