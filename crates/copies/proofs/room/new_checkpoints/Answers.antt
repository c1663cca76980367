-- The invariant: what was counted and what the commits left add make up the whole.
use Rattle.std.proofs.Common.{◌-◌, arith}
use Rattle.layout.specs.Tables.{checkpoints_in}
use Rattle.paths.specs.Left.{is_left}
use Rattle.paths.proofs.LeftLaws.{places, left_small}
use Rattle.copies.proofs.Counting.{one_fewer, checkpoints_next, checkpoints_end}
use Rattle.copies.proofs.room.new_checkpoints.Goals as goal

pub loop-k-init : goal.loop-k-init
loop-k-init c = (c.requires.is_left.0, c.requires.is_left.1, omega arith, omega arith)

pub next_commit-met-requires : goal.next_commit-met-requires
next_commit-met-requires c = record { commits_value = (c.requires.commits_value.0, c.loop-k.invariant.0); nonzero = omega (arith, c.loop-k.invariant.1) }

pub new_checkpoints_of-total-requires : goal.new_checkpoints_of-total-requires
new_checkpoints_of-total-requires c = record { commits_value = (c.requires.commits_value.0, c.requires.commits_value.1, c.next_commit-met.ensures.inside); is_left = ((c.next_commit-met.ensures.is_left, one_fewer c.args.commits.now c.loop-k.rest c.loop-k.k c.loop-k.invariant.1 c.next_commit-met.result c.next_commit-met.ensures (c.loop-k.k - 1) (omega arith))) }

pub overflow_add-total : goal.overflow_add-total
overflow_add-total c =
    omega (arith, c.new_checkpoints_of-total.ensures.1, c.loop-k.invariant.2, c.requires.is_left.1, left_small c.args.commits.now c.requires.commits_value.0 c.args.left (places c.args.left _ c.well_formed.1.1.0))

pub loop-k-preserved : goal.loop-k-preserved
loop-k-preserved c =
    let e = checkpoints_next c.args.commits.now c.loop-k.rest c.loop-k.k c.loop-k.invariant.1 c.next_commit-met.result c.next_commit-met.ensures c.args.log (checkpoints_in c.args.checkpoints.now).rows c.new_checkpoints_of-total.result c.new_checkpoints_of-total.ensures.0 in (
      c.next_commit-met.ensures.is_left,
      one_fewer c.args.commits.now c.loop-k.rest c.loop-k.k c.loop-k.invariant.1 c.next_commit-met.result c.next_commit-met.ensures (c.loop-k.k - 1) (omega arith),
      omega (arith, c.new_checkpoints_of-total.ensures.1, c.loop-k.invariant.2),
      omega (arith, e, c.loop-k.invariant.3),
    )

pub returns : goal.returns
returns c =
    let e = checkpoints_end c.args.commits.now c.loop-k.rest c.loop-k.k c.loop-k.invariant.1 (omega arith) c.args.log (checkpoints_in c.args.checkpoints.now).rows in
    omega (arith, e, c.loop-k.invariant.3)
