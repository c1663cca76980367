-- What each call names: the records that it may store, change or remove. Every other record is kept.
use Rattle.std.specs.Prelude.{◌≡◌, ℕ, Bool, true, false, ◌&&◌, [], ◌∷◌, length, nat_le}
use Rattle.std.proofs.Math.Option.{Option, none, some}
use Rattle.std.proofs.Math.Dec.{compare_is_eq}
use Rattle.basics.specs.Orders.{log_lsn, sid_page}
use Rattle.basics.specs.Numbers.{counts}
use Rattle.pageset.specs.Sets.{holds}
use Rattle.rules.specs.Records.{Id, Name, Commit, Pending, Volume, LogLsn, SidPage, commit_key}
use Rattle.rules.specs.Tables.{Table, same_id, get_volume, latest_lsn}
use Rattle.rules.specs.Open.{or_spare}
use Rattle.rules.specs.Push.{is_before}
use Rattle.rules.specs.Walk.{path_commits}
use Rattle.rules.specs.Calls.{Tables, Change, writing, opening, saving, preparing, succeeding, dropping, recovering, syncing, copying, copying_ref, deleting_volume, marking, unmarking, unmarking_all, deleting_tag, replacing_tag}

-- ---- commits: only write, success, recover, save and copies store any, and each only at the keys that it names

-- save: the LSN after the latest of the volume's local log
abbrev pub saves_at : Table Commit → Option Volume → LogLsn → Bool
saves_at cs none k = false
saves_at cs (some v) k = same_id v.local k.0 && is_before (latest_lsn cs v.local) k.1

-- recover: the pending LSN of the volume's remote log
abbrev pub pending_at : Id → Option Pending → LogLsn → Bool
pending_at remote none k = false
pending_at remote (some p) k = compare_is_eq (log_lsn k (remote, p.commit))

-- nothing where no volume is stored
abbrev pub recovers_at : Option Volume → LogLsn → Bool
recovers_at none k = false
recovers_at (some v) k = pending_at v.remote v.pending k

-- copies: LSNs 1 to N of the new local log
abbrev pub copies_at : Id → ℕ → LogLsn → Bool
copies_at local n k = same_id local k.0 && counts k.1 && nat_le k.1 n

-- the keys at which a call may store a commit
unfoldable pub stores_at : Tables → Change → LogLsn → Bool
stores_at t (writing c) k = compare_is_eq (log_lsn k (commit_key c))
stores_at t (opening a x) k = false
stores_at t (saving vid s count sid pages) k = saves_at t.logs.commits (get_volume t.volumes vid) k
stores_at t (preparing vid p) k = false
stores_at t (succeeding vid c) k = compare_is_eq (log_lsn k (commit_key c))
stores_at t (dropping vid) k = false
stores_at t (recovering vid) k = recovers_at (get_volume t.volumes vid) k
stores_at t (syncing vid) k = false
stores_at t (copying s x) k = copies_at x.local (length (path_commits t.logs.commits s.path)) k
stores_at t (copying_ref log lsn x) k = copies_at x.local (length (path_commits t.logs.commits (record { log = log; start = 1; end = lsn } ∷ []))) k
stores_at t (deleting_volume vid) k = false
stores_at t (marking sid page) k = false
stores_at t (unmarking sid page) k = false
stores_at t (unmarking_all sid a b) k = false
stores_at t (deleting_tag name) k = false
stores_at t (replacing_tag name vid) k = false

-- ---- volumes

-- the volume that a call names
unfoldable pub names_volume : Change → Id → Bool
names_volume (writing c) vid = false
names_volume (opening a x) vid = same_id vid (or_spare a.vid x.vid)
names_volume (saving v s count sid pages) vid = false
names_volume (preparing v p) vid = same_id vid v
names_volume (succeeding v c) vid = same_id vid v
names_volume (dropping v) vid = same_id vid v
names_volume (recovering v) vid = same_id vid v
names_volume (syncing v) vid = same_id vid v
names_volume (copying s x) vid = same_id vid x.vid
names_volume (copying_ref log lsn x) vid = same_id vid x.vid
names_volume (deleting_volume v) vid = same_id vid v
names_volume (marking sid page) vid = false
names_volume (unmarking sid page) vid = false
names_volume (unmarking_all sid a b) vid = false
names_volume (deleting_tag name) vid = false
names_volume (replacing_tag name v) vid = false

-- only volume delete removes a volume
unfoldable pub deletes_volume : Change → Bool
deletes_volume (writing c) = false
deletes_volume (opening a x) = false
deletes_volume (saving v s count sid pages) = false
deletes_volume (preparing v p) = false
deletes_volume (succeeding v c) = false
deletes_volume (dropping v) = false
deletes_volume (recovering v) = false
deletes_volume (syncing v) = false
deletes_volume (copying s x) = false
deletes_volume (copying_ref log lsn x) = false
deletes_volume (deleting_volume v) = true
deletes_volume (marking sid page) = false
deletes_volume (unmarking sid page) = false
deletes_volume (unmarking_all sid a b) = false
deletes_volume (deleting_tag name) = false
deletes_volume (replacing_tag name v) = false

-- only prepare, success, drop and recover change a pending commit
unfoldable pub changes_pending : Change → Bool
changes_pending (writing c) = false
changes_pending (opening a x) = false
changes_pending (saving v s count sid pages) = false
changes_pending (preparing v p) = true
changes_pending (succeeding v c) = true
changes_pending (dropping v) = true
changes_pending (recovering v) = true
changes_pending (syncing v) = false
changes_pending (copying s x) = false
changes_pending (copying_ref log lsn x) = false
changes_pending (deleting_volume v) = false
changes_pending (marking sid page) = false
changes_pending (unmarking sid page) = false
changes_pending (unmarking_all sid a b) = false
changes_pending (deleting_tag name) = false
changes_pending (replacing_tag name v) = false

-- only success, recover and sync change a stored volume's sync point
unfoldable pub changes_sync : Change → Bool
changes_sync (writing c) = false
changes_sync (opening a x) = false
changes_sync (saving v s count sid pages) = false
changes_sync (preparing v p) = false
changes_sync (succeeding v c) = true
changes_sync (dropping v) = false
changes_sync (recovering v) = true
changes_sync (syncing v) = true
changes_sync (copying s x) = false
changes_sync (copying_ref log lsn x) = false
changes_sync (deleting_volume v) = false
changes_sync (marking sid page) = false
changes_sync (unmarking sid page) = false
changes_sync (unmarking_all sid a b) = false
changes_sync (deleting_tag name) = false
changes_sync (replacing_tag name v) = false

-- what is left of a stored volume: its logs, its pending commit and its sync point as the call allows
pub record VolumeKept (c : Change) (v w : Volume) : Type 0 where
  pub vid : w.vid ≡ v.vid
  pub local : w.local ≡ v.local
  pub remote : w.remote ≡ v.remote
  pub pending : changes_pending c ≡ false → w.pending ≡ v.pending
  pub sync : changes_sync c ≡ false → w.sync ≡ v.sync

-- ---- present pages: only the page removals unmark a page; save and marking mark some

-- the pages that a call unmarks
unfoldable pub unmarks : Change → SidPage → Bool
unmarks (writing c) k = false
unmarks (opening a x) k = false
unmarks (saving v s count sid pages) k = false
unmarks (preparing v p) k = false
unmarks (succeeding v c) k = false
unmarks (dropping v) k = false
unmarks (recovering v) k = false
unmarks (syncing v) k = false
unmarks (copying s x) k = false
unmarks (copying_ref log lsn x) k = false
unmarks (deleting_volume v) k = false
unmarks (marking sid page) k = false
unmarks (unmarking sid page) k = same_id sid k.0 && nat_le page k.1 && nat_le k.1 page
unmarks (unmarking_all sid a b) k = same_id sid k.0 && nat_le a k.1 && nat_le k.1 b
unmarks (deleting_tag name) k = false
unmarks (replacing_tag name v) k = false

-- the pages that a call marks
unfoldable pub marks : Change → SidPage → Bool
marks (writing c) k = false
marks (opening a x) k = false
marks (saving v s count sid pages) k = same_id k.0 sid && holds pages k.1
marks (preparing v p) k = false
marks (succeeding v c) k = false
marks (dropping v) k = false
marks (recovering v) k = false
marks (syncing v) k = false
marks (copying s x) k = false
marks (copying_ref log lsn x) k = false
marks (deleting_volume v) k = false
marks (marking sid page) k = compare_is_eq (sid_page k (sid, page))
marks (unmarking sid page) k = false
marks (unmarking_all sid a b) k = false
marks (deleting_tag name) k = false
marks (replacing_tag name v) k = false

-- ---- tags: only tag delete and replacement change a tag, and only the one that they name
unfoldable pub names_tag : Change → Name → Bool
names_tag (writing c) n = false
names_tag (opening a x) n = false
names_tag (saving v s count sid pages) n = false
names_tag (preparing v p) n = false
names_tag (succeeding v c) n = false
names_tag (dropping v) n = false
names_tag (recovering v) n = false
names_tag (syncing v) n = false
names_tag (copying s x) n = false
names_tag (copying_ref log lsn x) n = false
names_tag (deleting_volume v) n = false
names_tag (marking sid page) n = false
names_tag (unmarking sid page) n = false
names_tag (unmarking_all sid a b) n = false
names_tag (deleting_tag name) n = same_id name n
names_tag (replacing_tag name v) n = same_id n name
