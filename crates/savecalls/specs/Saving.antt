-- Save on lent bytes: five tables, a snapshot and a set of pages as arguments in bytes, and a place for the snapshot afterwards.
use Rattle.std.specs.Prelude.{◌≡◌, ℕ, Bool, cond, not, ◌&&◌, List, length, ◌==◌}
use Rattle.basics.specs.Answers.{Answer, refused, done, code, ask, need, ◌>>=◌, ◌>>◌}
use Rattle.pageset.specs.Sets.{normal_form}
use Rattle.rules.specs.Records.{Id, Pages, Commit, Present, Volume, Snapshot}
use Rattle.rules.specs.Tables.{Table, fits, get_volume, latest_lsn}
use Rattle.rules.specs.Arguments.{snapshot_lsns, snapshot_order}
use Rattle.rules.specs.Write.{Logs, write, logs_fit}
use Rattle.rules.specs.Snapshots.{is_latest, snapshot_of}
use Rattle.rules.specs.Save.{lsn_after, sid_in_use, saved_commit, now_present, save}
use Rattle.volume.specs.Volumes.{volume_says}
use Rattle.layout.specs.Codecs.{Codec, in_form}
use Rattle.layout.specs.Values.{set_bytes, snapshot_bytes}
use Rattle.layout.specs.Records.{commit_bytes, checkpoint_bytes, entry_bytes, present_bytes}
use Rattle.layout.specs.Tables.{volumes_in, volumes_ok, presence_in, presence_ok}
use Rattle.layout.specs.Lent.{lent, after}
use Rattle.arguments.specs.Snapshots.{snapshot_in, snapshot_formed}
use Rattle.writecalls.specs.Written.{logs_in, logs_ok}
use Rattle.savecalls.specs.declared.Plan.{Plan}

-- what a save answers: the snapshot afterwards, and the tables
abbrev pub Saved : Type 0
Saved = Snapshot × Logs × Table Present

-- ---- the call

-- bytes of a set's size, and in its form
unfoldable pub set_formed : List ℕ → Bool
set_formed b = length b == set_bytes.size && in_form set_bytes normal_form b

-- 20 of the five tables
unfoldable pub save_ok : (volumes commits checkpoints index presence : List ℕ) → Bool
save_ok volumes commits checkpoints index presence = volumes_ok volumes && logs_ok commits checkpoints index && presence_ok presence

-- 1 and 2 of the snapshot; 3 of the snapshot, of the set, and for a place of another length
unfoldable pub arguments_in : (snapshot pages : List ℕ) (place : ℕ) → Answer (Unit {0})
arguments_in snapshot pages place = do
  ask (snapshot_lsns (snapshot_in snapshot)) 1
  ask (snapshot_order (snapshot_in snapshot)) 2
  ask (snapshot_formed snapshot) 3
  ask (set_formed pages) 3
  ask (place == snapshot_bytes.size) 3

-- save, with its snapshot and its pages given as bytes
unfoldable pub save_in : Table Volume → Logs → Table Present → Id → List ℕ → ℕ → Id → List ℕ → ℕ → Answer Saved
save_in vs g ps vid snapshot count sid pages place = do
  arguments_in snapshot pages place
  save vs g ps vid (snapshot_in snapshot) count sid (set_bytes.read pages)

-- on lent bytes, 20 first
unfoldable pub save_on : (volumes commits checkpoints index presence : List ℕ) (vid : Id) (snapshot : List ℕ) (count : ℕ) (sid : Id) (pages out : List ℕ) → Answer Saved
save_on volumes commits checkpoints index presence vid snapshot count sid pages out =
    lent (save_ok volumes commits checkpoints index presence)
    (save_in (volumes_in volumes) (logs_in commits checkpoints index) (presence_in presence) vid snapshot count sid pages (length out))

-- the place of the answer: the bytes of the snapshot afterwards, and as found on a refusal
unfoldable pub out_after : List ℕ → Answer Saved → List ℕ
out_after out (refused n) = out
out_after out (done r) = snapshot_bytes.spell r.0

-- what a save leaves: its number, the bytes of each table that it may change, and the place of the answer
pub record Leaves (commits checkpoints index presence out : List ℕ) (a : Answer Saved) (n : ℕ) (commits' checkpoints' index' presence' out' : List ℕ) : Type 0 where
  pub number : n ≡ code a
  pub of_commits : commits' ≡ after commit_bytes (λ (r : Saved). r.1.commits) commits a
  pub of_checkpoints : checkpoints' ≡ after checkpoint_bytes (λ (r : Saved). r.1.checkpoints) checkpoints a
  pub of_index : index' ≡ after entry_bytes (λ (r : Saved). r.1.index) index a
  pub of_presence : presence' ≡ after present_bytes (λ (r : Saved). r.2) presence a
  pub of_out : out' ≡ out_after out a

-- ---- its two halves

-- the volume and the LSN that a save goes by: 4, 7, 18, 5
unfoldable pub planned : Table Volume → Table Commit → Table Present → Id → Snapshot → Id → Answer (Volume × ℕ)
planned vs cs ps vid s sid = do
  v ← need (get_volume vs vid) 4
  ask (is_latest cs v s) 7
  lsn ← lsn_after (latest_lsn cs v.local)
  ask (not (sid_in_use cs ps sid)) 5
  done (v, lsn)

-- what a plan says
abbrev pub plan_says : Plan → Answer (Volume × ℕ)
plan_says p = cond (p.code == 0) (done (volume_says p.volume, p.lsn.0)) (refused p.code)

-- what a plan stores: 19
unfoldable pub stored : Logs → Table Present → Volume → ℕ → ℕ → Id → Pages → Answer Saved
stored g ps v lsn count sid pages = do
  let g' = write g (saved_commit v lsn count sid pages)
  let ps' = now_present sid pages ps
  ask (logs_fit g' && fits ps') 19
  done (snapshot_of g'.commits v, g', ps')
