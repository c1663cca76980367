-- The invariant: whether a commit left lists it is whether one of all does.
use Rattle.std.proofs.Common.{◌-◌, sym, refl, ◌∙◌, arith}
use Rattle.copies.proofs.Counting.{one_fewer, later_here, later_next, later_end}
use Rattle.copies.proofs.room.listed_later.Goals as goal

pub loop-k-init : goal.loop-k-init
loop-k-init c = (c.requires.commits_value.1, c.requires.n_value, refl)

pub next_commit-met-requires : goal.next_commit-met-requires
next_commit-met-requires c = record { commits_value = (c.requires.commits_value.0, c.loop-k.invariant.0); nonzero = omega (arith, c.loop-k.invariant.1) }

pub lists_lsn-requires : goal.lists_lsn-requires
lists_lsn-requires c = (c.requires.commits_value.0, c.next_commit-met.ensures.inside)

pub returns-then-lists_lsn : goal.returns-then-lists_lsn
returns-then-lists_lsn c =
    sym (later_here c.args.commits.now c.loop-k.rest c.loop-k._k c.loop-k.invariant.1 c.next_commit-met.result c.next_commit-met.ensures c.args.lsn (sym c.lists_lsn.ensures ∙ c.if-lists_lsn.true)) ∙ c.loop-k.invariant.2

pub loop-k-preserved : goal.loop-k-preserved
loop-k-preserved c = (
  c.next_commit-met.ensures.is_left,
  one_fewer c.args.commits.now c.loop-k.rest c.loop-k._k c.loop-k.invariant.1 c.next_commit-met.result c.next_commit-met.ensures (c.loop-k._k - 1) (omega arith),
  later_next c.args.commits.now c.loop-k.rest c.loop-k._k c.loop-k.invariant.1 c.next_commit-met.result c.next_commit-met.ensures c.args.lsn (sym c.lists_lsn.ensures ∙ c.if-lists_lsn.false) ∙ c.loop-k.invariant.2,
)

pub returns : goal.returns
returns c = sym (later_end c.args.commits.now c.loop-k.rest c.loop-k._k c.loop-k.invariant.1 (omega arith) c.args.lsn) ∙ c.loop-k.invariant.2
