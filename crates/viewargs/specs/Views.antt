-- What a reader sees of a volume, in bytes: a snapshot to a lent place, and the latest check of a snapshot in bytes.
use Rattle.std.specs.Prelude.{ℕ, Bool, cond, List, ◌==◌}
use Rattle.basics.specs.Answers.{Answer, refused, done, ask, ◌>>=◌, ◌>>◌}
use Rattle.rules.specs.Records.{Id, Commit, Volume}
use Rattle.rules.specs.Tables.{Table}
use Rattle.rules.specs.Arguments.{snapshot_lsns, snapshot_order}
use Rattle.rules.specs.Snapshots.{latest_check}
use Rattle.arguments.specs.Snapshots.{snapshot_in, snapshot_formed}

-- latest check of a snapshot in bytes: 1 and 2 look at the ranges that they spell; 3 asks their size and their form, before 4
unfoldable pub latest_in : Table Volume → Table Commit → Id → List ℕ → Answer Bool
latest_in vs cs vid b = do
  ask (snapshot_lsns (snapshot_in b)) 1
  ask (snapshot_order (snapshot_in b)) 2
  ask (snapshot_formed b) 3
  latest_check vs cs vid (snapshot_in b)

-- the number of a snapshot's call whose place has another length: 20 stays, all else is 3
abbrev pub misplaced : ℕ → ℕ
misplaced n = cond (n == 20) 20 3

-- the answer of the check where the bytes are not in form: 3 stands for 4, yes and no
abbrev pub unformed : Answer Bool → Answer Bool
unformed (refused n) = refused (cond (n == 4) 3 n)
unformed (done b) = refused 3
