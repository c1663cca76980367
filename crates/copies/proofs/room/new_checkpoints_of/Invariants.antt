-- The invariant: what was counted and what the LSNs from here on add make up the whole.
use Rattle.std.proofs.Common.{◌≡◌, ℕ, ◌+◌, ◌*◌, ◌≤◌, List, ◌++◌, map, length}
use Rattle.basics.specs.Orders.{log_lsn}
use Rattle.rules.specs.Records.{Checkpoint, checkpoint_key}
use Rattle.rules.specs.Write.{checkpoints_of}
use Rattle.rules.specs.Room.{news, each}
use Rattle.rules.specs.Walk.{path_commits}
use Rattle.rules.specs.Copies.{renumbered}
use Rattle.layout.specs.Tables.{commits_in, checkpoints_in}
use Rattle.commitbytes.specs.Laid.{lsns_at}
use Rattle.indexing.specs.Rows.{checkpoint}
use Rattle.paths.specs.declared.Left.{Left}
use Rattle.paths.specs.Left.{left_says}
use Rattle.copies.proofs.room.new_checkpoints_of.Given as goal

-- what the commits left name, and what is stored
abbrev others : List ℕ → List ℕ → Left → List ℕ → List Checkpoint
others commits checkpoints left log = each checkpoints_of (renumbered log (path_commits (commits_in commits) (left_says left))) ++ (checkpoints_in checkpoints).rows

abbrev pub invariant-loop-m : goal.invariant-loop-m
invariant-loop-m l =
    (l.from + l.m * 8 ≤ length l.commits) × (l.total + l.m ≤ 8)
    × (news checkpoint_key log_lsn (map (checkpoint l.log) (lsns_at l.n l.initial.from l.commits)) (others l.commits l.checkpoints l.left l.log)
    ≡ l.total + news checkpoint_key log_lsn (map (checkpoint l.log) (lsns_at l.m l.from l.commits)) (others l.commits l.checkpoints l.left l.log))
