-- Open: an asked volume that is stored is answered unless a remote was asked and differs (6). Otherwise spares stand in for what was not asked.
use Rattle.std.specs.Prelude.{ℕ, Bool, true, not, ◌&&◌, ◌||◌}
use Rattle.std.proofs.Math.Option.{Option, none, some}
use Rattle.basics.specs.Answers.{Answer, done, ask, ◌>>=◌, ◌>>◌}
use Rattle.rules.specs.Lists.{any, is_none}
use Rattle.basics.specs.Orders.{bytes}
use Rattle.rules.specs.Records.{Id, Commit, SyncPoint, Volume, volume_key}
use Rattle.rules.specs.Tables.{Table, fits, store, volumes_formed, commits_formed, same_id, get_volume, latest_lsn}

-- the identifiers of a new volume: spares of open, and what a copy is given
pub record Ids : Type 0 where
  pub vid : Id
  pub local : Id
  pub remote : Id

-- what was asked, of the same three
pub record Asked : Type 0 where
  pub vid : Option Id
  pub local : Option Id
  pub remote : Option Id

-- the asked volume, if it is stored
abbrev pub asked_volume : Table Volume → Option Id → Option Volume
asked_volume vs none = none
asked_volume vs (some vid) = get_volume vs vid

-- no remote was asked, or it is the volume's
abbrev pub agrees_on : Option Id → Volume → Bool
agrees_on none v = true
agrees_on (some r) v = same_id r v.remote

-- spares stand in for what was not asked
abbrev pub or_spare : Option Id → Id → Id
or_spare none spare = spare
or_spare (some a) spare = a

-- a volume or a commit names the log
unfoldable pub log_named : Table Volume → Table Commit → Id → Bool
log_named vs cs log = any (λ v. same_id log v.local || same_id log v.remote) vs.rows || any (λ c. same_id log c.log) cs.rows

-- a spare vid that stands in is not one of a stored volume
abbrev pub vid_free : Table Volume → Option Id → Id → Bool
vid_free vs none spare = is_none (get_volume vs spare)
vid_free vs (some a) spare = true

-- a spare log that stands in is one that no volume or commit names, and not the other log
abbrev pub log_free : Table Volume → Table Commit → Option Id → Id → Id → Bool
log_free vs cs none spare other = not (log_named vs cs spare) && not (same_id spare other)
log_free vs cs (some a) spare other = true

-- sync is the remote log's latest LSN without watermark, or missing
abbrev pub sync_at : Option ℕ → Option SyncPoint
sync_at none = none
sync_at (some n) = some (record { remote = n; watermark = none })

-- a new volume: 5, then room
abbrev pub opened_new : Table Volume → Table Commit → Asked → Ids → Answer (Volume × Table Volume)
opened_new vs cs a x = do
  let local = or_spare a.local x.local
  let remote = or_spare a.remote x.remote
  ask (vid_free vs a.vid x.vid && log_free vs cs a.local x.local remote && log_free vs cs a.remote x.remote local) 5
  let v : Volume = record { vid = or_spare a.vid x.vid; local = local; remote = remote; sync = sync_at (latest_lsn cs remote); pending = none }
  let vs' = store volume_key bytes v vs
  ask (fits vs') 19
  done (v, vs')

-- the asked volume, or a new one
abbrev pub opened : Table Volume → Table Commit → Asked → Ids → Option Volume → Answer (Volume × Table Volume)
opened vs cs a x (some v) = do
  ask (agrees_on a.remote v) 6
  done (v, vs)
opened vs cs a x none = opened_new vs cs a x

-- open
unfoldable pub open_volume : Table Volume → Table Commit → Asked → Ids → Answer (Volume × Table Volume)
open_volume vs cs a x = do
  ask (volumes_formed vs && commits_formed cs) 20
  opened vs cs a x (asked_volume vs a.vid)
