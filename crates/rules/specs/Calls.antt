-- All calls that meet a table: those that may change one, and those that only read. A call is handed the tables that it names here and no others,
-- so its answer and the lent tables depend on no other, by the types of the rules.
use Rattle.std.specs.Prelude.{ℕ, Bool, true, ◌&&◌, List, [], ◌∷◌, nat_le, nat_lt}
use Rattle.basics.specs.Answers.{Answer, refused, done, code}
use Rattle.basics.specs.Numbers.{last_lsn, last_page}
use Rattle.rules.specs.Lists.{all, given}
use Rattle.rules.specs.Records.{Id, Name, Pages, Commit, Segment, Pending, Volume, Present, Tag, Range, Snapshot}
use Rattle.rules.specs.Forms.{count_form, id_form, hash_form}
use Rattle.rules.specs.Tables.{Table, volumes_formed, presence_formed, tags_formed}
use Rattle.rules.specs.Write.{Logs, logs_formed, write_commit}
use Rattle.rules.specs.Open.{Ids, Asked, open_volume}
use Rattle.rules.specs.Snapshots.{snapshot, latest_check}
use Rattle.rules.specs.Save.{save}
use Rattle.rules.specs.Push.{prepare, success, drop_pending, recover}
use Rattle.rules.specs.Sync.{sync}
use Rattle.rules.specs.Walk.{walk, missing_frames, snapshot_commits}
use Rattle.rules.specs.Search.{search_page}
use Rattle.rules.specs.Copies.{from_snapshot, from_logref}
use Rattle.rules.specs.Reads.{volume_read, volume_exists, volume_list, volume_delete, commit_read, latest_lsn_read, latest_commit_read, page_count_read, checkpoint_read, stored_lsns, page_present, page_mark, page_remove, pages_remove, tag_read, tag_exists, tag_list, tag_delete, tag_replace}

-- the six tables: volumes; commits, checkpoints and index; presence; tags
pub record Tables : Type 0 where
  pub volumes : Table Volume
  pub logs : Logs
  pub presence : Table Present
  pub tags : Table Tag

-- the calls that may change a table
pub data Change : Type 0 where
  writing : Commit → Change
  opening : Asked → Ids → Change
  saving : Id → Snapshot → ℕ → Id → Pages → Change
  preparing : Id → Pending → Change
  succeeding : Id → Commit → Change
  dropping : Id → Change
  recovering : Id → Change
  syncing : Id → Change
  copying : Snapshot → Ids → Change
  copying_ref : Id → ℕ → Ids → Change
  deleting_volume : Id → Change
  marking : Id → ℕ → Change
  unmarking : Id → ℕ → Change
  unmarking_all : Id → ℕ → ℕ → Change
  deleting_tag : Name → Change
  replacing_tag : Name → Id → Change

-- the calls that only read, those with a result list given its length
pub data Reading : Type 0 where
  taking_snapshot : Id → Reading
  checking_latest : Id → Snapshot → Reading
  walking : ℕ → Snapshot → Reading
  listing_missing : ℕ → Snapshot → Reading
  listing_commits : ℕ → Snapshot → Reading
  searching : Snapshot → ℕ → Reading
  reading_volume : Id → Reading
  asking_volume : Id → Reading
  listing_volumes : ℕ → Reading
  reading_commit : Id → ℕ → Reading
  reading_latest_lsn : Id → Reading
  reading_latest : Id → Reading
  reading_count : Id → ℕ → Reading
  looking_up_checkpoint : Id → ℕ → Reading
  listing_lsns : ℕ → Range → Reading
  asking_page : Id → ℕ → Reading
  reading_tag : Name → Reading
  asking_tag : Name → Reading
  listing_tags : ℕ → Reading

-- all six are well formed
unfoldable pub well_formed : Tables → Bool
well_formed t = volumes_formed t.volumes && logs_formed t.logs && presence_formed t.presence && tags_formed t.tags

-- fresh tables: empty, each with its room
abbrev pub empty : {R : Type 0} → ℕ → Table R
empty n = record { room = n; rows = [] }

-- the six rooms: volumes, commits, checkpoints, index, presence, tags
abbrev pub fresh : ℕ → ℕ → ℕ → ℕ → ℕ → ℕ → Tables
fresh v c k e p g = record { volumes = empty v; logs = record { commits = empty c; checkpoints = empty k; index = empty e }; presence = empty p; tags = empty g }

-- ---- the tables after a call

-- other volumes, all else as it was
abbrev pub with_volumes : Tables → Table Volume → Tables
with_volumes t vs = record { volumes = vs; logs = t.logs; presence = t.presence; tags = t.tags }

-- other commits, checkpoints and index
abbrev pub with_logs : Tables → Logs → Tables
with_logs t g = record { volumes = t.volumes; logs = g; presence = t.presence; tags = t.tags }

-- other present pages
abbrev pub with_presence : Tables → Table Present → Tables
with_presence t ps = record { volumes = t.volumes; logs = t.logs; presence = ps; tags = t.tags }

-- other tags
abbrev pub with_tags : Tables → Table Tag → Tables
with_tags t gs = record { volumes = t.volumes; logs = t.logs; presence = t.presence; tags = gs }

-- a refusal gives its number and leaves all tables as found
abbrev pub outcome : {A : Type 0} → Tables → Answer A → (A → Tables) → ℕ × Tables
outcome t (refused n) f = (n, t)
outcome t (done a) f = (0, f a)

-- the number that a changing call answers, and the tables after it
unfoldable pub does : Tables → Change → ℕ × Tables
does t (writing c) = outcome t (write_commit t.logs c) (with_logs t)
does t (opening a x) = outcome t (open_volume t.volumes t.logs.commits a x) (λ r. with_volumes t r.1)
does t (saving vid s count sid pages) = outcome t (save t.volumes t.logs t.presence vid s count sid pages) (λ r. with_presence (with_logs t r.1) r.2)
does t (preparing vid p) = outcome t (prepare t.volumes t.logs.commits vid p) (with_volumes t)
does t (succeeding vid c) = outcome t (success t.volumes t.logs vid c) (λ r. with_logs (with_volumes t r.0) r.1)
does t (dropping vid) = outcome t (drop_pending t.volumes vid) (with_volumes t)
does t (recovering vid) = let r = recover t.volumes t.logs vid in (r.0, with_logs (with_volumes t r.1) r.2)
does t (syncing vid) = outcome t (sync t.volumes t.logs.commits vid) (with_volumes t)
does t (copying s x) = outcome t (from_snapshot t.volumes t.logs s x) (λ r. with_logs (with_volumes t r.1) r.2)
does t (copying_ref log lsn x) = outcome t (from_logref t.volumes t.logs log lsn x) (λ r. with_logs (with_volumes t r.1) r.2)
does t (deleting_volume vid) = outcome t (volume_delete t.volumes vid) (with_volumes t)
does t (marking sid page) = outcome t (page_mark t.presence sid page) (with_presence t)
does t (unmarking sid page) = outcome t (page_remove t.presence sid page) (with_presence t)
does t (unmarking_all sid a b) = outcome t (pages_remove t.presence sid a b) (with_presence t)
does t (deleting_tag name) = outcome t (tag_delete t.tags name) (with_tags t)
does t (replacing_tag name vid) = outcome t (tag_replace t.tags name vid) (λ r. with_tags t r.1)

-- the number that a reading call answers; it changes no table
unfoldable pub reads : Tables → Reading → ℕ
reads t (taking_snapshot vid) = code (snapshot t.volumes t.logs.commits vid)
reads t (checking_latest vid s) = code (latest_check t.volumes t.logs.commits vid s)
reads t (walking slots s) = code (walk t.logs.commits slots s)
reads t (listing_missing slots s) = code (missing_frames t.logs.commits t.presence slots s)
reads t (listing_commits slots s) = code (snapshot_commits t.logs.commits slots s)
reads t (searching s p) = code (search_page t.logs.commits t.logs.index s p)
reads t (reading_volume vid) = code (volume_read t.volumes vid)
reads t (asking_volume vid) = code (volume_exists t.volumes vid)
reads t (listing_volumes slots) = code (volume_list t.volumes slots)
reads t (reading_commit log lsn) = code (commit_read t.logs.commits log lsn)
reads t (reading_latest_lsn log) = code (latest_lsn_read t.logs.commits log)
reads t (reading_latest log) = code (latest_commit_read t.logs.commits log)
reads t (reading_count log lsn) = code (page_count_read t.logs.commits log lsn)
reads t (looking_up_checkpoint log lsn) = code (checkpoint_read t.logs.checkpoints log lsn)
reads t (listing_lsns slots r) = code (stored_lsns t.logs.commits slots r)
reads t (asking_page sid page) = code (page_present t.presence sid page)
reads t (reading_tag name) = code (tag_read t.tags name)
reads t (asking_tag name) = code (tag_exists t.tags name)
reads t (listing_tags slots) = code (tag_list t.tags slots)

-- ---- the numbers of each call, in its order of checks (0: done)

-- of a changing call
abbrev pub change_numbers : Change → List ℕ
change_numbers (writing c) = 20 ∷ 1 ∷ 3 ∷ 19 ∷ 0 ∷ []
change_numbers (opening a x) = 20 ∷ 6 ∷ 5 ∷ 19 ∷ 0 ∷ []
change_numbers (saving vid s count sid pages) = 20 ∷ 1 ∷ 2 ∷ 3 ∷ 4 ∷ 7 ∷ 18 ∷ 5 ∷ 19 ∷ 0 ∷ []
change_numbers (preparing vid p) = 20 ∷ 1 ∷ 4 ∷ 9 ∷ 11 ∷ 12 ∷ 13 ∷ 0 ∷ []
change_numbers (succeeding vid c) = 20 ∷ 1 ∷ 3 ∷ 4 ∷ 10 ∷ 14 ∷ 15 ∷ 19 ∷ 0 ∷ []
change_numbers (dropping vid) = 20 ∷ 4 ∷ 0 ∷ []
change_numbers (recovering vid) = 20 ∷ 4 ∷ 19 ∷ 8 ∷ 0 ∷ []
change_numbers (syncing vid) = 20 ∷ 4 ∷ 16 ∷ 8 ∷ 0 ∷ []
change_numbers (copying s x) = 20 ∷ 1 ∷ 2 ∷ 3 ∷ 5 ∷ 19 ∷ 0 ∷ []
change_numbers (copying_ref log lsn x) = 20 ∷ 1 ∷ 5 ∷ 19 ∷ 0 ∷ []
change_numbers (deleting_volume vid) = 20 ∷ 0 ∷ []
change_numbers (marking sid page) = 20 ∷ 1 ∷ 19 ∷ 0 ∷ []
change_numbers (unmarking sid page) = 20 ∷ 1 ∷ 0 ∷ []
change_numbers (unmarking_all sid a b) = 20 ∷ 1 ∷ 2 ∷ 0 ∷ []
change_numbers (deleting_tag name) = 20 ∷ 1 ∷ 0 ∷ []
change_numbers (replacing_tag name vid) = 20 ∷ 1 ∷ 19 ∷ 0 ∷ []

-- of a reading call
abbrev pub reading_numbers : Reading → List ℕ
reading_numbers (taking_snapshot vid) = 20 ∷ 4 ∷ 0 ∷ []
reading_numbers (checking_latest vid s) = 20 ∷ 1 ∷ 2 ∷ 3 ∷ 4 ∷ 0 ∷ []
reading_numbers (walking slots s) = 20 ∷ 1 ∷ 2 ∷ 3 ∷ 19 ∷ 0 ∷ []
reading_numbers (listing_missing slots s) = 20 ∷ 1 ∷ 2 ∷ 3 ∷ 19 ∷ 0 ∷ []
reading_numbers (listing_commits slots s) = 20 ∷ 1 ∷ 2 ∷ 3 ∷ 19 ∷ 0 ∷ []
reading_numbers (searching s p) = 20 ∷ 1 ∷ 2 ∷ 3 ∷ 21 ∷ 0 ∷ []
reading_numbers (reading_volume vid) = 20 ∷ 4 ∷ 0 ∷ []
reading_numbers (asking_volume vid) = 20 ∷ 0 ∷ []
reading_numbers (listing_volumes slots) = 20 ∷ 19 ∷ 0 ∷ []
reading_numbers (reading_commit log lsn) = 20 ∷ 1 ∷ 0 ∷ []
reading_numbers (reading_latest_lsn log) = 20 ∷ 0 ∷ []
reading_numbers (reading_latest log) = 20 ∷ 0 ∷ []
reading_numbers (reading_count log lsn) = 20 ∷ 1 ∷ 0 ∷ []
reading_numbers (looking_up_checkpoint log lsn) = 20 ∷ 1 ∷ 0 ∷ []
reading_numbers (listing_lsns slots r) = 20 ∷ 1 ∷ 2 ∷ 19 ∷ 0 ∷ []
reading_numbers (asking_page sid page) = 20 ∷ 1 ∷ 0 ∷ []
reading_numbers (reading_tag name) = 20 ∷ 1 ∷ 0 ∷ []
reading_numbers (asking_tag name) = 20 ∷ 1 ∷ 0 ∷ []
reading_numbers (listing_tags slots) = 20 ∷ 19 ∷ 0 ∷ []

-- ---- what the types of the arguments ensure: bytes and their number, and the upper limits of LSNs, pages and counts

-- three identifiers
abbrev pub ids_typed : Ids → Bool
ids_typed x = id_form x.vid && id_form x.local && id_form x.remote

-- three identifiers, each where it was asked
abbrev pub asked_typed : Asked → Bool
asked_typed a = given id_form a.vid && given id_form a.local && given id_form a.remote

-- an LSN, or 0
abbrev pub lsn_typed : ℕ → Bool
lsn_typed n = nat_le n last_lsn

-- a commit by value
abbrev pub commit_typed : Commit → Bool
commit_typed c =
    id_form c.log && lsn_typed c.lsn && count_form c.count && given hash_form c.hash && given (λ (s : Segment). id_form s.sid) c.segment
    && all lsn_typed c.checkpoints

-- the arguments of a changing call
unfoldable pub typed : Change → Bool
typed (writing c) = commit_typed c
typed (opening a x) = asked_typed a && ids_typed x
typed (saving vid s count sid pages) = count_form count && id_form sid
typed (preparing vid p) = lsn_typed p.local && lsn_typed p.commit && hash_form p.hash
typed (succeeding vid c) = commit_typed c
typed (dropping vid) = true
typed (recovering vid) = true
typed (syncing vid) = true
typed (copying s x) = ids_typed x
typed (copying_ref log lsn x) = ids_typed x
typed (deleting_volume vid) = true
typed (marking sid page) = id_form sid && nat_le page last_page
typed (unmarking sid page) = true
typed (unmarking_all sid a b) = true
typed (deleting_tag name) = true
typed (replacing_tag name vid) = all (λ x. nat_lt x 256) name && id_form vid
