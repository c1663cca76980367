-- Volume from snapshot, and from a logref.
use Rattle.std.specs.Prelude.{ℕ, suc, Bool, not, ◌&&◌, List, [], ◌∷◌, length}
use Rattle.std.proofs.Math.Option.{Option, none, some}
use Rattle.basics.specs.Answers.{Answer, done, ask, ◌>>=◌, ◌>>◌}
use Rattle.basics.specs.Numbers.{counts}
use Rattle.rules.specs.Lists.{is_none}
use Rattle.basics.specs.Orders.{bytes}
use Rattle.rules.specs.Records.{Id, Commit, Volume, Range, Snapshot, volume_key}
use Rattle.rules.specs.Tables.{Table, fits, store, volumes_formed, same_id, get_volume, get_commit, latest}
use Rattle.rules.specs.Arguments.{snapshot_lsns, snapshot_order, snapshot_form}
use Rattle.rules.specs.Write.{Logs, write_all, logs_formed, logs_fit}
use Rattle.rules.specs.Open.{Ids}
use Rattle.rules.specs.Walk.{path_commits}

-- vid in use, a log with commits, or local equal to remote is 5
unfoldable pub copy_free : Table Volume → Table Commit → Ids → Bool
copy_free vs cs x = is_none (get_volume vs x.vid) && is_none (latest cs x.local) && is_none (latest cs x.remote) && not (same_id x.local x.remote)

-- N commits in path order become N down to 1 in the new local log, checkpoint LSNs unchanged
abbrev pub renumbered : Id → List Commit → List Commit
renumbered log [] = []
renumbered log (c ∷ cs) =
    record { log = log; lsn = suc (length cs); count = c.count; hash = c.hash; segment = c.segment; checkpoints = c.checkpoints } ∷ renumbered log cs

-- sync missing
abbrev pub new_volume : Ids → Volume
new_volume x = record { vid = x.vid; local = x.local; remote = x.remote; sync = none; pending = none }

-- 5, then room, then the new volume and the commits in its local log
abbrev pub copied : Table Volume → Logs → List Range → Ids → Answer (Volume × Table Volume × Logs)
copied vs g path x = do
  ask (copy_free vs g.commits x) 5
  let vs' = store volume_key bytes (new_volume x) vs
  let g' = write_all g (renumbered x.local (path_commits g.commits path))
  ask (fits vs' && logs_fit g') 19
  done (new_volume x, vs', g')

-- volume from snapshot
unfoldable pub from_snapshot : Table Volume → Logs → Snapshot → Ids → Answer (Volume × Table Volume × Logs)
from_snapshot vs g s x = do
  ask (volumes_formed vs && logs_formed g) 20
  ask (snapshot_lsns s) 1
  ask (snapshot_order s) 2
  ask (snapshot_form s) 3
  copied vs g s.path x

-- from a logref: nothing if that commit is not stored, before 5
abbrev pub from_commit : Table Volume → Logs → Id → ℕ → Ids → Option Commit → Answer (Option Volume × Table Volume × Logs)
from_commit vs g log lsn x none = done (none, vs, g)
from_commit vs g log lsn x (some c) = do
  r ← copied vs g (record { log = log; start = 1; end = lsn } ∷ []) x
  done (some r.0, r.1, r.2)

-- volume from a logref: its log from LSN 1 to that commit
unfoldable pub from_logref : Table Volume → Logs → Id → ℕ → Ids → Answer (Option Volume × Table Volume × Logs)
from_logref vs g log lsn x = do
  ask (volumes_formed vs && logs_formed g) 20
  ask (counts lsn) 1
  from_commit vs g log lsn x (get_commit g.commits log lsn)
