-- The push of a commit: prepare, success, drop, recover.
use Rattle.std.specs.Prelude.{ℕ, ◌+◌, Bool, true, false, cond, not, ◌&&◌, ◌==◌}
use Rattle.std.proofs.Math.Option.{Option, none, some}
use Rattle.basics.specs.Answers.{Answer, refused, done, ask, need, ◌>>=◌, ◌>>◌}
use Rattle.basics.specs.Numbers.{counts}
use Rattle.basics.specs.Hashes.{is_zero}
use Rattle.rules.specs.Lists.{is_none}
use Rattle.basics.specs.Orders.{bytes}
use Rattle.rules.specs.Records.{Id, Hash, Commit, Pending, Volume, volume_key}
use Rattle.rules.specs.Tables.{Table, fits, store, volumes_formed, commits_formed, same_id, get_volume, get_commit, latest_lsn}
use Rattle.rules.specs.Arguments.{commit_lsns, commit_lists}
use Rattle.rules.specs.Write.{Logs, write, logs_formed, logs_fit}
use Rattle.rules.specs.Snapshots.{below, watermark_of}

-- the volume with another pending commit, or without
abbrev pub with_pending : Volume → Option Pending → Volume
with_pending v p = record { vid = v.vid; local = v.local; remote = v.remote; sync = v.sync; pending = p }

-- ---- prepare

-- the remote's latest is the LSN before the pending one (LSN 1: remote empty)
abbrev pub is_before : Option ℕ → ℕ → Bool
is_before none n = n == 1
is_before (some m) n = m + 1 == n

-- prepare
unfoldable pub prepare : Table Volume → Table Commit → Id → Pending → Answer (Table Volume)
prepare vs cs vid p = do
  ask (volumes_formed vs && commits_formed cs) 20
  ask (counts p.local && counts p.commit) 1
  v ← need (get_volume vs vid) 4
  ask (is_none v.pending) 9
  ask (below (watermark_of v.sync) p.local) 11
  ask (is_before (latest_lsn cs v.remote) p.commit) 12
  ask (not (is_zero p.hash)) 13
  done (store volume_key bytes (with_pending v (some p)) vs)

-- ---- success

-- a hash is there, and equal
abbrev pub is_hash : Option Hash → Hash → Bool
is_hash none h = false
is_hash (some a) h = same_id a h

-- 15 looks at the stored commit there: none, or one with that hash
abbrev pub same_there : Option Commit → Hash → Bool
same_there none h = true
same_there (some c) h = is_hash c.hash h

-- sync becomes the pending one
abbrev pub pushed_volume : Volume → Pending → Volume
pushed_volume v p = record { vid = v.vid; local = v.local; remote = v.remote; sync = some (record { remote = p.commit; watermark = some p.local }); pending = none }

-- the commit is written, sync becomes the pending one
abbrev pub push : Table Volume → Logs → Volume → Pending → Commit → Answer (Table Volume × Logs)
push vs g v p c = do
  let vs' = store volume_key bytes (pushed_volume v p) vs
  let g' = write g c
  ask (fits vs' && logs_fit g') 19
  done (vs', g')

-- success
unfoldable pub success : Table Volume → Logs → Id → Commit → Answer (Table Volume × Logs)
success vs g vid c = do
  ask (volumes_formed vs && logs_formed g) 20
  ask (commit_lsns c) 1
  ask (commit_lists c) 3
  v ← need (get_volume vs vid) 4
  p ← need v.pending 10
  ask (c.lsn == p.commit && is_hash c.hash p.hash) 14
  ask (same_there (get_commit g.commits c.log c.lsn) p.hash) 15
  push vs g v p c

-- ---- drop
unfoldable pub drop_pending : Table Volume → Id → Answer (Table Volume)
drop_pending vs vid = do
  ask (volumes_formed vs) 20
  v ← need (get_volume vs vid) 4
  done (store volume_key bytes (with_pending v none) vs)

-- ---- recover: the one call that refuses and changes a table, so it answers a number and tables

-- a refusal leaves the tables as they were
abbrev pub leaves : Table Volume → Logs → Answer (Table Volume × Logs) → ℕ × Table Volume × Logs
leaves vs g (refused n) = (n, vs, g)
leaves vs g (done r) = (0, r.0, r.1)

-- a stored remote commit with equal hash, success; with another or no hash, drop and 8; none stored, drop and done
abbrev pub recover_by : Table Volume → Logs → Volume → Pending → Option Commit → ℕ × Table Volume × Logs
recover_by vs g v p none = (0, store volume_key bytes (with_pending v none) vs, g)
recover_by vs g v p (some c) = cond (is_hash c.hash p.hash) (leaves vs g (push vs g v p c)) (8, store volume_key bytes (with_pending v none) vs, g)

-- nothing pending, done
abbrev pub recover_pending : Table Volume → Logs → Volume → Option Pending → ℕ × Table Volume × Logs
recover_pending vs g v none = (0, vs, g)
recover_pending vs g v (some p) = recover_by vs g v p (get_commit g.commits v.remote p.commit)

-- 4
abbrev pub recover_volume : Table Volume → Logs → Option Volume → ℕ × Table Volume × Logs
recover_volume vs g none = (4, vs, g)
recover_volume vs g (some v) = recover_pending vs g v v.pending

-- recover
unfoldable pub recover : Table Volume → Logs → Id → ℕ × Table Volume × Logs
recover vs g vid = cond (volumes_formed vs && logs_formed g) (recover_volume vs g (get_volume vs vid)) (20, vs, g)
