-- The invariant: whether a commit left lists it is whether one of all does.
use Rattle.std.proofs.Common.{◌≡◌, length}
use Rattle.rules.specs.Lists.{any}
use Rattle.rules.specs.Walk.{path_commits}
use Rattle.layout.specs.Tables.{commits_in}
use Rattle.paths.specs.Left.{is_left, left_says}
use Rattle.copies.specs.Copied.{lists}
use Rattle.copies.proofs.room.listed_later.Given as goal

abbrev pub invariant-loop-k : goal.invariant-loop-k
invariant-loop-k l =
    is_left l.rest × (l._k ≡ length (path_commits (commits_in l.commits) (left_says l.rest)))
    × (any (lists l.lsn) (path_commits (commits_in l.commits) (left_says l.rest)) ≡ any (lists l.lsn) (path_commits (commits_in l.commits) (left_says l.initial.rest)))
