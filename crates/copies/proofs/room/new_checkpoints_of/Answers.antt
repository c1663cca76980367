-- The invariant: what was counted and what the LSNs from here on add make up the whole.
use Rattle.std.proofs.Common.{ℕ, ◌+◌, ◌-◌, List, ◌++◌, map, ap, arith}
use Rattle.basics.specs.Orders.{log_lsn}
use Rattle.rules.specs.Records.{Checkpoint, checkpoint_key}
use Rattle.rules.specs.Write.{checkpoints_of}
use Rattle.rules.specs.Room.{news, each}
use Rattle.rules.specs.Walk.{path_commits}
use Rattle.rules.specs.Copies.{renumbered}
use Rattle.layout.specs.Tables.{commits_in, checkpoints_in}
use Rattle.commitbytes.specs.Laid.{lsns_at}
use Rattle.indexing.specs.Rows.{checkpoint}
use Rattle.paths.specs.declared.Left.{Left}
use Rattle.paths.specs.Left.{left_says}
use Rattle.copies.proofs.RoomLaws.{lacks_le}
use Rattle.copies.proofs.Counting.{row_lists, news_next, news_end}
use Rattle.copies.proofs.room.new_checkpoints_of.Goals as goal

-- what the commits left name, and what is stored
abbrev others : List ℕ → List ℕ → Left → List ℕ → List Checkpoint
others commits checkpoints left log = each checkpoints_of (renumbered log (path_commits (commits_in commits) (left_says left))) ++ (checkpoints_in checkpoints).rows

pub overflow_add-at : goal.overflow_add-at
overflow_add-at c = omega (arith, c.row-at.ensures)

pub count_read-n-requires : goal.count_read-n-requires
count_read-n-requires c = omega (arith, c.row-at.ensures)

pub overflow_add-from : goal.overflow_add-from
overflow_add-from c = omega (arith, c.row-at.ensures)

pub loop-m-init : goal.loop-m-init
loop-m-init c = (omega (arith, c.row-at.ensures, c.count_read-n.ensures), omega (arith, c.count_read-n.ensures), omega arith)

pub load64-lsn-requires : goal.load64-lsn-requires
load64-lsn-requires c = omega (arith, c.loop-m.invariant.0)

pub overflow_add-from-in-loop-m : goal.overflow_add-from-in-loop-m
overflow_add-from-in-loop-m c = omega (arith, c.loop-m.invariant.0)

pub new_checkpoint-total-requires : goal.new_checkpoint-total-requires
new_checkpoint-total-requires c = record { commits_value = (c.requires.commits_value.0, c.requires.commits_value.1, omega (arith, c.loop-m.invariant.0)); is_left = c.requires.is_left }

pub overflow_add-total : goal.overflow_add-total
overflow_add-total c = omega (arith, c.loop-m.invariant.1, c.new_checkpoint-total.ensures, lacks_le checkpoint_key log_lsn (c.args.log, c.load64-lsn.result) (map (checkpoint c.args.log) (lsns_at (c.loop-m.m - 1) (c.loop-m.from + 8) c.args.commits.now) ++ others c.args.commits.now c.args.checkpoints.now c.args.left c.args.log))

pub loop-m-preserved : goal.loop-m-preserved
loop-m-preserved c =
    let e = news_next c.load64-lsn.result c.loop-m.m (c.loop-m.m - 1) c.loop-m.from c.args.commits.now (omega arith) c.load64-lsn.result c.load64-lsn.ensures c.args.log (others c.args.commits.now c.args.checkpoints.now c.args.left c.args.log) c.new_checkpoint-total.result c.new_checkpoint-total.ensures in (
      omega (arith, c.loop-m.invariant.0),
      omega (arith, c.loop-m.invariant.1, c.new_checkpoint-total.ensures, lacks_le checkpoint_key log_lsn (c.args.log, c.load64-lsn.result) (map (checkpoint c.args.log) (lsns_at (c.loop-m.m - 1) (c.loop-m.from + 8) c.args.commits.now) ++ others c.args.commits.now c.args.checkpoints.now c.args.left c.args.log)),
      omega (arith, e, c.loop-m.invariant.2),
    )

pub returns : goal.returns
returns c =
    let z = news_end c.args.log c.loop-m.from c.loop-m.m c.args.commits.now (others c.args.commits.now c.args.checkpoints.now c.args.left c.args.log) (omega arith) in
    let w = ap (λ (ns : List ℕ). news checkpoint_key log_lsn (map (checkpoint c.args.log) ns) (others c.args.commits.now c.args.checkpoints.now c.args.left c.args.log)) (row_lists c.args.commits.now c.args.row c.row-at.result c.count_read-n.result c.row-at.ensures.0 c.row-at.ensures.1 c.count_read-n.ensures) in
    (omega (arith, z, w, c.loop-m.invariant.2), omega (arith, c.loop-m.invariant.1))
