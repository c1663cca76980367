-- The invariant: what was counted and what is left make up all.
use Rattle.std.proofs.Common.{◌≡◌, ◌+◌, map, length, take, drop}
use Rattle.rules.specs.Walk.{path_commits}
use Rattle.layout.specs.Tables.{commits_in}
use Rattle.volume.specs.Snapshots.{range_says}
use Rattle.paths.proofs.commits_left.Given as goal

abbrev pub invariant-loop-at : goal.invariant-loop-at
invariant-loop-at l =
    (length (path_commits (commits_in l.commits) (map range_says (drop l.left.at (take l.left.len l.left.path)))) ≡ l.n + length (path_commits (commits_in l.commits) (map range_says (drop l.at (take l.left.len l.left.path)))))
