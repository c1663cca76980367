-- A volume made from commits that are stored, on lent bytes: four tables, a snapshot in bytes or a log and an LSN, and a place for the new volume.
use Rattle.std.specs.Prelude.{◌≡◌, ℕ, Bool, ◌&&◌, List, length, ◌==◌}
use Rattle.std.proofs.Math.Option.{Option, none, some}
use Rattle.basics.specs.Answers.{Answer, refused, done, ask, ◌>>=◌, ◌>>◌}
use Rattle.basics.specs.Numbers.{counts}
use Rattle.rules.specs.Lists.{is_some}
use Rattle.rules.specs.Records.{Id, Range, Volume}
use Rattle.rules.specs.Tables.{Table}
use Rattle.rules.specs.Arguments.{snapshot_lsns, snapshot_order}
use Rattle.rules.specs.Write.{Logs}
use Rattle.rules.specs.Open.{Ids}
use Rattle.rules.specs.Copies.{from_snapshot, from_logref}
use Rattle.layout.specs.Codecs.{Codec}
use Rattle.layout.specs.Records.{volume_bytes, commit_bytes, checkpoint_bytes, entry_bytes}
use Rattle.layout.specs.Tables.{volumes_in, volumes_ok}
use Rattle.layout.specs.Lent.{lent, after}
use Rattle.arguments.specs.declared.Reply.{Reply}
use Rattle.arguments.specs.Replies.{none_under, bit}
use Rattle.arguments.specs.Snapshots.{snapshot_in, snapshot_formed}
use Rattle.writecalls.specs.Written.{logs_in, logs_ok}

-- what a call answers: the new volume, or nothing, and the tables
abbrev pub Made : Type 0
Made = Option Volume × Table Volume × Logs

-- the new volume's identifiers
abbrev pub ids : Id → Id → Id → Ids
ids vid local remote = record { vid = vid; local = local; remote = remote }

-- a log from LSN 1 to one
abbrev pub up_to : Id → ℕ → Range
up_to log lsn = record { log = log; start = 1; end = lsn }

-- an answer that is always a volume
unfoldable pub made : Answer (Volume × Table Volume × Logs) → Answer Made
made a = do
  r ← a
  done (some r.0, r.1, r.2)

-- 20 of the four tables
unfoldable pub copy_ok : (volumes commits checkpoints index : List ℕ) → Bool
copy_ok volumes commits checkpoints index = volumes_ok volumes && logs_ok commits checkpoints index

-- 1 and 2 of the snapshot; 3 of the snapshot, and for a place of another length
unfoldable pub arguments_in : (snapshot : List ℕ) (place : ℕ) → Answer (Unit {0})
arguments_in snapshot place = do
  ask (snapshot_lsns (snapshot_in snapshot)) 1
  ask (snapshot_order (snapshot_in snapshot)) 2
  ask (snapshot_formed snapshot) 3
  ask (place == 117) 3

-- volume from snapshot on lent bytes, 20 first
unfoldable pub snapshot_on : (volumes commits checkpoints index snapshot : List ℕ) (x : Ids) (place : ℕ) → Answer Made
snapshot_on volumes commits checkpoints index snapshot x place =
    lent (copy_ok volumes commits checkpoints index)
    (arguments_in snapshot place >> made (from_snapshot (volumes_in volumes) (logs_in commits checkpoints index) (snapshot_in snapshot) x))

-- 1 of the LSN; 3 for a place of another length
unfoldable pub logref_in : (lsn place : ℕ) → Answer (Unit {0})
logref_in lsn place = do
  ask (counts lsn) 1
  ask (place == 117) 3

-- volume from a logref on lent bytes, 20 first
unfoldable pub logref_on : (volumes commits checkpoints index : List ℕ) (log : Id) (lsn : ℕ) (x : Ids) (place : ℕ) → Answer Made
logref_on volumes commits checkpoints index log lsn x place =
    lent (copy_ok volumes commits checkpoints index)
    (logref_in lsn place >> from_logref (volumes_in volumes) (logs_in commits checkpoints index) log lsn x)

-- the reply: whether a volume was made
abbrev pub reply_of : Answer Made → Reply
reply_of (refused n) = none_under n
reply_of (done r) = record { code = 0; found = bit (is_some r.0) }

-- the place of the answer: the volume's bytes, and as found where there is none
abbrev pub out_of : List ℕ → Option Volume → List ℕ
out_of out none = out
out_of out (some v) = volume_bytes.spell v

unfoldable pub out_after : List ℕ → Answer Made → List ℕ
out_after out (refused n) = out
out_after out (done r) = out_of out r.0

-- what a call leaves: its reply, the bytes of each table, and the place of the answer
pub record Leaves (volumes commits checkpoints index out : List ℕ) (a : Answer Made) (r : Reply) (volumes' commits' checkpoints' index' out' : List ℕ) : Type 0 where
  pub reply : r ≡ reply_of a
  pub of_volumes : volumes' ≡ after volume_bytes (λ (m : Made). m.1) volumes a
  pub of_commits : commits' ≡ after commit_bytes (λ (m : Made). m.2.commits) commits a
  pub of_checkpoints : checkpoints' ≡ after checkpoint_bytes (λ (m : Made). m.2.checkpoints) checkpoints a
  pub of_index : index' ≡ after entry_bytes (λ (m : Made). m.2.index) index a
  pub of_out : out' ≡ out_after out a
