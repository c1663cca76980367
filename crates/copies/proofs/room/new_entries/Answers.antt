-- The invariant: what was counted and what the commits left add make up the whole.
use Rattle.std.proofs.Common.{◌≡◌, ◌+◌, ◌-◌, arith}
use Rattle.layout.specs.Tables.{index_in}
use Rattle.paths.specs.Left.{is_left}
use Rattle.paths.proofs.LeftLaws.{places, left_small}
use Rattle.copies.proofs.Counting.{one_fewer, entries_next, entries_end}
use Rattle.copies.proofs.room.new_entries.Goals as goal

pub loop-k-init : goal.loop-k-init
loop-k-init c = (c.requires.is_left.0, c.requires.is_left.1, omega arith, omega arith)

pub next_commit-met-requires : goal.next_commit-met-requires
next_commit-met-requires c = record { commits_value = (c.requires.commits_value.0, c.loop-k.invariant.0); nonzero = omega (arith, c.loop-k.invariant.1) }

pub copied_row-c-requires : goal.copied_row-c-requires
copied_row-c-requires c = (c.requires.commits_value.0, c.next_commit-met.ensures.inside, omega arith)

pub new_entries_of-total-requires : goal.new_entries_of-total-requires
new_entries_of-total-requires c = (c.requires.commits_value.1, c.copied_row-c.ensures.0)

pub overflow_add-total : goal.overflow_add-total
overflow_add-total c =
    omega (arith, c.new_entries_of-total.ensures.1, c.loop-k.invariant.2, c.requires.is_left.1, left_small c.args.commits.now c.requires.commits_value.0 c.args.left (places c.args.left _ c.well_formed.1.1.0))

pub loop-k-preserved : goal.loop-k-preserved
loop-k-preserved c =
    let z : (c.loop-k.k - 1) + 1 ≡ c.loop-k.k = omega arith in
    let is = rw z at c.copied_row-c.ensures.1 in
    let e = entries_next c.args.commits.now c.loop-k.rest c.loop-k.k c.loop-k.invariant.1 c.next_commit-met.result c.next_commit-met.ensures c.args.log (index_in c.args.index.now).rows c.copied_row-c.result is c.new_entries_of-total.result c.new_entries_of-total.ensures.0 in (
      c.next_commit-met.ensures.is_left,
      one_fewer c.args.commits.now c.loop-k.rest c.loop-k.k c.loop-k.invariant.1 c.next_commit-met.result c.next_commit-met.ensures (c.loop-k.k - 1) (omega arith),
      omega (arith, c.new_entries_of-total.ensures.1, c.loop-k.invariant.2),
      omega (arith, e, c.loop-k.invariant.3),
    )

pub returns : goal.returns
returns c =
    let e = entries_end c.args.commits.now c.loop-k.rest c.loop-k.k c.loop-k.invariant.1 (omega arith) c.args.log (index_in c.args.index.now).rows in
    omega (arith, e, c.loop-k.invariant.3)
