-- A snapshot in bytes that a call is given, in document 01's order: 1 and 2 look at its ranges, 3 at its size and its form.
use Rattle.std.specs.Prelude.{ℕ, List}
use Rattle.basics.specs.Answers.{Answer, done, ask, ◌>>=◌, ◌>>◌}
use Rattle.rules.specs.Records.{Snapshot}
use Rattle.rules.specs.Arguments.{snapshot_lsns, snapshot_order}
use Rattle.arguments.specs.Snapshots.{snapshot_in, snapshot_formed}

-- the snapshot that bytes spell, or the number of what is wrong with them
unfoldable pub snapshot_given : List ℕ → Answer Snapshot
snapshot_given b = do
  ask (snapshot_lsns (snapshot_in b)) 1
  ask (snapshot_order (snapshot_in b)) 2
  ask (snapshot_formed b) 3
  done (snapshot_in b)

-- a rule on it
abbrev pub on_snapshot : {A : Type 0} → List ℕ → (Snapshot → Answer A) → Answer A
on_snapshot b rule = snapshot_given b >>= rule
