-- Changes, and sync.
use Rattle.std.specs.Prelude.{ℕ, ◌+◌, Bool, true, cond, ◌&&◌, nat_le, nat_lt}
use Rattle.std.proofs.Math.Option.{Option, none, some}
use Rattle.basics.specs.Answers.{Answer, refused, done, ask, need, ◌>>=◌, ◌>>◌}
use Rattle.basics.specs.Numbers.{counts}
use Rattle.rules.specs.Lists.{is_none, given}
use Rattle.basics.specs.Orders.{bytes}
use Rattle.rules.specs.Records.{Id, Commit, Volume, volume_key}
use Rattle.rules.specs.Tables.{Table, store, volumes_formed, commits_formed, get_volume, latest_lsn}
use Rattle.rules.specs.Snapshots.{watermark_of, remote_of}

-- changes are base+1 (or 1) to head when the base is missing or below the head, nothing when both are missing or the base is not below; base without head is 16
unfoldable pub changed : Option ℕ → Option ℕ → Answer (Option (ℕ × ℕ))
changed none none = done none
changed none (some h) = done (some (1, h))
changed (some b) none = refused 16
changed (some b) (some h) = done (cond (nat_lt b h) (some (b + 1, h)) none)

-- changes, as a call
unfoldable pub changes : Option ℕ → Option ℕ → Answer (Option (ℕ × ℕ))
changes base head = do
  ask (given counts base && given counts head) 1
  changed base head

-- sync.remote moves to the remote's latest, the watermark stays
abbrev pub moved_volume : Volume → ℕ → Volume
moved_volume v n = record { vid = v.vid; local = v.local; remote = v.remote; sync = some (record { remote = n; watermark = watermark_of v.sync }); pending = v.pending }

-- 17: the remote is older than the sync point
abbrev pub not_older : Option ℕ → ℕ → Bool
not_older none n = true
not_older (some b) n = nat_le b n

-- no remote changes, done, the local side not looked at. Local changes too: 8. Then 17
abbrev pub sync_by : Table Volume → Table Commit → Volume → Option (ℕ × ℕ) → Answer (Table Volume)
sync_by vs cs v none = done vs
sync_by vs cs v (some r) = do
  here ← changed (watermark_of v.sync) (latest_lsn cs v.local)
  ask (is_none here) 8
  ask (not_older (remote_of v.sync) r.1) 17
  done (store volume_key bytes (moved_volume v r.1) vs)

-- sync; the remote is worked out first
unfoldable pub sync : Table Volume → Table Commit → Id → Answer (Table Volume)
sync vs cs vid = do
  ask (volumes_formed vs && commits_formed cs) 20
  v ← need (get_volume vs vid) 4
  there ← changed (remote_of v.sync) (latest_lsn cs v.remote)
  sync_by vs cs v there
