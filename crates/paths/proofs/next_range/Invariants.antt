-- The invariant: the ranges passed over have no commit, so what was left begins with them and then what is left now.
use Rattle.std.proofs.Common.{◌≡◌, ◌+◌, map, take, drop}
use Rattle.layout.specs.Tables.{commits_in}
use Rattle.volume.specs.Snapshots.{range_says}
use Rattle.paths.specs.Left.{leading}
use Rattle.paths.proofs.next_range.Given as goal

abbrev pub invariant-loop-at : goal.invariant-loop-at
invariant-loop-at l =
    (l.left.at + leading (commits_in l.commits) (map range_says (drop l.left.at (take l.left.len l.left.path))) ≡ l.at + leading (commits_in l.commits) (map range_says (drop l.at (take l.left.len l.left.path))))
