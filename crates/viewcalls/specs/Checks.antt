-- The latest check of a snapshot by value, and its test of one range by what the local log's latest LSN is.
use Rattle.std.specs.Prelude.{ℕ, Bool, cond, ◌&&◌}
use Rattle.std.proofs.Math.Option.{Option}
use Rattle.basics.specs.Answers.{Answer, ask, ◌>>=◌, ◌>>◌}
use Rattle.rules.specs.Records.{Id, Commit, Volume, Range}
use Rattle.rules.specs.Tables.{Table, same_id}
use Rattle.rules.specs.Arguments.{snapshot_lsns, snapshot_order}
use Rattle.rules.specs.Snapshots.{remote_of, is_at, latest_check}
use Rattle.volume.specs.Snapshots.{snapshot_says, in_form}
use Rattle.volume.specs.declared.snapshot.Snapshot.{Snapshot}

-- a range names the local log (tested first) and ends at its latest LSN, which is o, or names the remote and ends at sync.remote
abbrev pub latest_by : Volume → Option ℕ → Range → Bool
latest_by v o r = cond (same_id v.local r.log) (is_at o r.end) (same_id v.remote r.log && is_at (remote_of v.sync) r.end)

-- latest check: the rule on what the snapshot says, and 3 in its turn for a snapshot that is not in form
unfoldable pub checked : Table Volume → Table Commit → Id → Snapshot → Answer Bool
checked vs cs vid s = do
  ask (snapshot_lsns (snapshot_says s)) 1
  ask (snapshot_order (snapshot_says s)) 2
  ask (in_form s) 3
  latest_check vs cs vid (snapshot_says s)
