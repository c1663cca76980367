-- The house rule, as a caller of `sync` sees it: the desk's list moves in only while the tester holds nothing unsent; when both have moved it is 8, and no byte changes.
use Rattle.std.specs.Prelude.{◌≡◌, ℕ, true, List, ◌≢◌}
use Rattle.std.proofs.Math.Option.{some}
use Rattle.rules.specs.Records.{Id, Commit, Volume}
use Rattle.rules.specs.Tables.{get_volume, latest_lsn}
use Rattle.rules.specs.Snapshots.{remote_of}
use Rattle.rules.specs.Promises.{Moved, Unsent}
use Rattle.layout.specs.Tables.{volumes_in, volumes_ok, commits_in, commits_ok}
use Rattle.arguments.specs.declared.Reply.{Reply}
use Rattle.arguments.specs.Replies.{none_under}

-- the bytes of volumes and commits that are lent, the volume that is asked for, the reply, and the bytes of volumes afterwards
pub record HouseRule (volumes commits : List ℕ) (vid : Id) (r : Reply) (left : List ℕ) : Type 0 where
  -- a byte of volumes changes only while every commit of the volume's local log was sent
  pub nothing_unsent : (v : Volume) → get_volume (volumes_in volumes) vid ≡ some v → (left ≢ volumes) → (c : Commit) → Unsent (commits_in commits) v c → ⊥
  -- both have moved, the remote's list and the tester's: 8, and every byte as found
  pub both_moved : volumes_ok volumes ≡ true → commits_ok commits ≡ true → (v : Volume) → get_volume (volumes_in volumes) vid ≡ some v
      → Moved (remote_of v.sync) (latest_lsn (commits_in commits) v.remote) → (c : Commit) → Unsent (commits_in commits) v c → (r ≡ none_under 8) × (left ≡ volumes)
