-- Snapshot, and latest check.
use Rattle.std.specs.Prelude.{ℕ, ◌+◌, Bool, true, false, cond, not, ◌&&◌, List, [], ◌∷◌, ◌==◌, nat_lt}
use Rattle.std.proofs.Math.Option.{Option, none, some}
use Rattle.basics.specs.Answers.{Answer, done, ask, need, ◌>>=◌, ◌>>◌}
use Rattle.rules.specs.Lists.{all, any, is_some, is_none}
use Rattle.rules.specs.Records.{Id, Commit, SyncPoint, Volume, Range, Snapshot}
use Rattle.rules.specs.Tables.{Table, volumes_formed, commits_formed, same_id, get_volume, get_commit, latest, latest_lsn}
use Rattle.rules.specs.Arguments.{snapshot_lsns, snapshot_order, snapshot_form}

-- the watermark, which may be missing
abbrev pub watermark_of : Option SyncPoint → Option ℕ
watermark_of none = none
watermark_of (some s) = s.watermark

-- sync.remote, which is missing with the sync point
abbrev pub remote_of : Option SyncPoint → Option ℕ
remote_of none = none
remote_of (some s) = some s.remote

-- w is missing or below n
abbrev pub below : Option ℕ → ℕ → Bool
below none n = true
below (some w) n = nat_lt w n

-- w+1 (or 1)
abbrev pub after : Option ℕ → ℕ
after none = 1
after (some w) = w + 1

-- with a sync, remote 1 to sync.remote
abbrev pub remote_path : Volume → Option ℕ → List Range
remote_path v none = []
remote_path v (some n) = record { log = v.remote; start = 1; end = n } ∷ []

-- local range w+1 (or 1) to L, then the remote path; count from L
abbrev pub local_snapshot : Volume → Commit → Snapshot
local_snapshot v c = record { path = record { log = v.local; start = after (watermark_of v.sync); end = c.lsn } ∷ remote_path v (remote_of v.sync); count = c.count }

-- empty, count 0
abbrev pub empty_snapshot : Snapshot
empty_snapshot = record { path = []; count = 0 }

-- remote 1 to the commit at sync.remote, with its count
abbrev pub remote_to : Volume → Option Commit → Snapshot
remote_to v none = empty_snapshot
remote_to v (some c) = record { path = record { log = v.remote; start = 1; end = c.lsn } ∷ []; count = c.count }

-- if the commit at sync.remote exists
abbrev pub remote_snapshot : Table Commit → Volume → Option ℕ → Snapshot
remote_snapshot cs v none = empty_snapshot
remote_snapshot cs v (some n) = remote_to v (get_commit cs v.remote n)

-- if the local log has a latest commit L and w is missing or below L
abbrev pub snapshot_by : Table Commit → Volume → Option Commit → Snapshot
snapshot_by cs v none = remote_snapshot cs v (remote_of v.sync)
snapshot_by cs v (some c) = cond (below (watermark_of v.sync) c.lsn) (local_snapshot v c) (remote_snapshot cs v (remote_of v.sync))

-- a volume's snapshot, by its local log's latest commit
unfoldable pub snapshot_of : Table Commit → Volume → Snapshot
snapshot_of cs v = snapshot_by cs v (latest cs v.local)

-- snapshot
unfoldable pub snapshot : Table Volume → Table Commit → Id → Answer Snapshot
snapshot vs cs vid = do
  ask (volumes_formed vs && commits_formed cs) 20
  v ← need (get_volume vs vid) 4
  done (snapshot_of cs v)

-- ---- latest check

-- o is there and is n
abbrev pub is_at : Option ℕ → ℕ → Bool
is_at none n = false
is_at (some m) n = m == n

-- a range must name the local log (tested first) and end at its latest, or name the remote and end at sync.remote
abbrev pub range_latest : Table Commit → Volume → Range → Bool
range_latest cs v r =
    cond (same_id v.local r.log) (is_at (latest_lsn cs v.local) r.end) (same_id v.remote r.log && is_at (remote_of v.sync) r.end)

-- a remote range: it names the remote and not the local log
abbrev pub is_remote : Volume → Range → Bool
is_remote v r = not (same_id v.local r.log) && same_id v.remote r.log

-- two tests that hold both or neither
abbrev pub same_answer : Bool → Bool → Bool
same_answer true b = b
same_answer false b = not b

-- an empty snapshot passes exactly if the local log has no commit and there is no sync; a remote range must be present exactly if there is a sync
abbrev pub path_latest : Table Commit → Volume → List Range → Bool
path_latest cs v [] = is_none (latest cs v.local) && is_none v.sync
path_latest cs v (r ∷ rs) = all (range_latest cs v) (r ∷ rs) && same_answer (any (is_remote v) (r ∷ rs)) (is_some v.sync)

-- the snapshot passes
unfoldable pub is_latest : Table Commit → Volume → Snapshot → Bool
is_latest cs v s = path_latest cs v s.path

-- latest check: yes or no
unfoldable pub latest_check : Table Volume → Table Commit → Id → Snapshot → Answer Bool
latest_check vs cs vid s = do
  ask (volumes_formed vs && commits_formed cs) 20
  ask (snapshot_lsns s) 1
  ask (snapshot_order s) 2
  ask (snapshot_form s) 3
  v ← need (get_volume vs vid) 4
  done (is_latest cs v s)
