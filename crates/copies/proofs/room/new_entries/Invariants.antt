-- The invariant: what was counted and what the commits left add make up the whole.
use Rattle.std.proofs.Common.{◌≡◌, ◌+◌, ◌*◌, ◌≤◌, length}
use Rattle.basics.specs.Orders.{log_page_lsn}
use Rattle.rules.specs.Records.{entry_key}
use Rattle.rules.specs.Write.{entries_of}
use Rattle.rules.specs.Room.{news, each}
use Rattle.rules.specs.Walk.{path_commits}
use Rattle.rules.specs.Copies.{renumbered}
use Rattle.layout.specs.Tables.{commits_in, index_in}
use Rattle.paths.specs.Left.{is_left, left_says}
use Rattle.copies.proofs.room.new_entries.Given as goal

abbrev pub invariant-loop-k : goal.invariant-loop-k
invariant-loop-k l =
    is_left l.rest × (l.k ≡ length (path_commits (commits_in l.commits) (left_says l.rest))) × (l.total + 2048 * l.k ≤ 2048 * l.n)
    × (news entry_key log_page_lsn (each entries_of (renumbered l.log (path_commits (commits_in l.commits) (left_says l.initial.rest)))) (index_in l.index).rows
    ≡ l.total + news entry_key log_page_lsn (each entries_of (renumbered l.log (path_commits (commits_in l.commits) (left_says l.rest)))) (index_in l.index).rows)
