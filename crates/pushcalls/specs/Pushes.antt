-- The ends of a push on lent bytes: success with a commit that is given as bytes, and recover. What a plan decides, and what it hands on to the store.
use Rattle.std.specs.Prelude.{◌≡◌, ℕ, ◌+◌, ◌*◌, ◌<◌, Bool, true, ◌&&◌, List, ◌∷◌, length, ◌==◌, Ok}
use Rattle.std.proofs.Math.Option.{none, some}
use Rattle.octets.specs.Bytes.{part}
use Rattle.basics.specs.Answers.{Answer, refused, done, ask, need, ◌>>=◌, ◌>>◌}
use Rattle.basics.specs.Orders.{bytes}
use Rattle.rules.specs.Records.{Id, Commit, Pending, Volume, volume_key}
use Rattle.rules.specs.Forms.{commit_form, volume_form}
use Rattle.rules.specs.Tables.{Table, store, get_volume, get_commit}
use Rattle.rules.specs.Arguments.{commit_lsns}
use Rattle.rules.specs.Write.{Logs, write, logs_fit}
use Rattle.rules.specs.Push.{with_pending, is_hash, same_there, pushed_volume, push, success, recover_pending}
use Rattle.table.specs.Records.{spot}
use Rattle.table.specs.Table.{count_of, recs}
use Rattle.layout.specs.Codecs.{in_form}
use Rattle.layout.specs.Records.{commit_bytes}
use Rattle.layout.specs.Tables.{volumes_in, volumes_ok, commits_ok, checkpoints_ok, index_ok}
use Rattle.rows.specs.Lookups.{nth}
use Rattle.writecalls.specs.Written.{IsCommit, commit_in, logs_in, logs_ok}
use Rattle.pushcalls.specs.declared.Plan.{Plan}
use Rattle.pushcalls.specs.declared.Plan.TheVariants as Plan
use Rattle.pushcalls.specs.declared.Recovery.{Recovery}
use Rattle.pushcalls.specs.declared.Recovery.TheVariants as Recovery

-- 20 of the four: volumes, commits, checkpoints, index
unfoldable pub push_ok : List ℕ → List ℕ → List ℕ → List ℕ → Bool
push_ok t cs ks es = volumes_ok t && logs_ok cs ks es

-- ---- success

-- a commit that is given as bytes: of another number of bytes nothing else is looked at (3); bytes that are not those of a commit in form are 3, after 1
abbrev pub commit_asked : List ℕ → Answer (Unit {0})
commit_asked b = do
  ask (length b == 722) 3
  ask (commit_lsns (commit_in b)) 1
  ask (in_form commit_bytes commit_form b) 3

-- success with such a commit
unfoldable pub success_in : Table Volume → Logs → Id → List ℕ → Answer (Table Volume × Logs)
success_in vs g vid b = do
  commit_asked b
  success vs g vid (commit_in b)

-- success past 20, the arguments and 4: the rest of the rule, on the volume that was found
unfoldable pub success_found : Table Volume → Logs → Volume → Commit → Answer (Table Volume × Logs)
success_found vs g v c = do
  p ← need v.pending 10
  ask (c.lsn == p.commit && is_hash c.hash p.hash) 14
  ask (same_there (get_commit g.commits c.log c.lsn) p.hash) 15
  push vs g v p c

-- ---- recover: a number and tables

-- the number: a refusal's, or the one that stands beside the tables
abbrev pub number_of : Answer (ℕ × Table Volume × Logs) → ℕ
number_of (refused n) = n
number_of (done r) = r.0

-- ---- what a plan hands on

-- the volume v stands at place i of the bytes t
pub record Stands (t : List ℕ) (i : ℕ) (v : Volume) : Type 0 where
  pub there : nth i (volumes_in t).rows ≡ some v
  pub found : get_volume (volumes_in t) v.vid ≡ some v
  pub place : spot 17 (0 ∷ v.vid) (recs 117 t) ≡ Ok i
  pub form : volume_form v ≡ true

-- the volume at place i has a pending commit, and there is room for the commit that b spells
pub record Ready (t cs ks es b : List ℕ) (i : ℕ) : Type 0 where
  pub volumes : volumes_ok t ≡ true
  pub logs : (commits_ok cs ≡ true) × (checkpoints_ok ks ≡ true) × (index_ok es ≡ true)
  pub commit : IsCommit b
  pub room : logs_fit (write (logs_in cs ks es) (commit_in b)) ≡ true
  pub volume : Volume
  pub stands : Stands t i volume
  pub pending : Pending
  pub has : volume.pending ≡ some pending

-- volumes with the volume at place i after the push of its pending commit
abbrev pub PushedAt : List ℕ → ℕ → (Table Volume → Type 0) → Type 0
PushedAt t i P = (v : Volume) (p : Pending) → nth i (volumes_in t).rows ≡ some v → v.pending ≡ some p → P (store volume_key bytes (pushed_volume v p) (volumes_in t))

-- volumes with the volume at place i without its pending commit
abbrev pub DroppedAt : List ℕ → ℕ → (Table Volume → Type 0) → Type 0
DroppedAt t i P = (v : Volume) → nth i (volumes_in t).rows ≡ some v → P (store volume_key bytes (with_pending v none) (volumes_in t))

-- the plan of success is the rule's answer a: a number, or the push of the volume at a place
abbrev pub Planned : (t cs ks es b : List ℕ) → Answer (Table Volume × Logs) → Plan → Type 0
Planned t cs ks es b a (Plan.Left n) = a ≡ refused n
Planned t cs ks es b a (Plan.Push i) = Ready t cs ks es b i × PushedAt t i (λ vs. a ≡ done (vs, write (logs_in cs ks es) (commit_in b)))

-- the plan of recover is the rule's number and tables a: a number with all as it was, the pending commit of the volume at a place dropped, or its push with the stored commit j
abbrev pub Recovers : (t cs ks es : List ℕ) → (ℕ × Table Volume × Logs) → Recovery → Type 0
Recovers t cs ks es a (Recovery.Left n) = a ≡ (n, volumes_in t, logs_in cs ks es)
Recovers t cs ks es a (Recovery.Drop i n) = ((v : Volume) × Stands t i v) × DroppedAt t i (λ vs. a ≡ (n, vs, logs_in cs ks es))
Recovers t cs ks es a (Recovery.Push i j) =
    Ready t cs ks es (part (2 + j * 722) 722 cs) i × (j < count_of cs) × PushedAt t i (λ vs. a ≡ (0, vs, write (logs_in cs ks es) (commit_in (part (2 + j * 722) 722 cs))))

-- the same for a volume v, in whatever bytes of volumes it stands at place i
abbrev pub RecoversFound : (cs ks es : List ℕ) → ℕ → Volume → Recovery → Type 0
RecoversFound cs ks es i v r =
    (t : List ℕ) → volumes_ok t ≡ true → Stands t i v → Recovers t cs ks es (recover_pending (volumes_in t) (logs_in cs ks es) v v.pending) r
