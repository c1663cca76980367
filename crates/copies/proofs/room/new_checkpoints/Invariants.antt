-- The invariant: what was counted and what the commits left add make up the whole.
use Rattle.std.proofs.Common.{◌≡◌, ◌+◌, ◌*◌, ◌≤◌, length}
use Rattle.basics.specs.Orders.{log_lsn}
use Rattle.rules.specs.Records.{checkpoint_key}
use Rattle.rules.specs.Write.{checkpoints_of}
use Rattle.rules.specs.Room.{news, each}
use Rattle.rules.specs.Walk.{path_commits}
use Rattle.rules.specs.Copies.{renumbered}
use Rattle.layout.specs.Tables.{commits_in, checkpoints_in}
use Rattle.paths.specs.Left.{is_left, left_says}
use Rattle.copies.proofs.room.new_checkpoints.Given as goal

abbrev pub invariant-loop-k : goal.invariant-loop-k
invariant-loop-k l =
    is_left l.rest × (l.k ≡ length (path_commits (commits_in l.commits) (left_says l.rest))) × (l.total + 8 * l.k ≤ 8 * l.n)
    × (news checkpoint_key log_lsn (each checkpoints_of (renumbered l.log (path_commits (commits_in l.commits) (left_says l.initial.rest)))) (checkpoints_in l.checkpoints).rows
    ≡ l.total + news checkpoint_key log_lsn (each checkpoints_of (renumbered l.log (path_commits (commits_in l.commits) (left_says l.rest)))) (checkpoints_in l.checkpoints).rows)
