-- The LSNs that a stored commit lists are those that stand in its row.
use Rattle.std.proofs.Common.{ℕ, eqb, List, sym, ap, ◌∙◌, arith}
use Rattle.rules.specs.Lists.{any}
use Rattle.copies.proofs.Counting.{row_lists}
use Rattle.copies.proofs.room.lists_lsn.Goals as goal

pub overflow_add-at : goal.overflow_add-at
overflow_add-at c = omega (arith, c.row-at.ensures)

pub count_read-n-requires : goal.count_read-n-requires
count_read-n-requires c = omega (arith, c.row-at.ensures)

pub overflow_add-at-2 : goal.overflow_add-at-2
overflow_add-at-2 c = omega (arith, c.row-at.ensures)

pub listed_at-requires : goal.listed_at-requires
listed_at-requires c = omega (arith, c.row-at.ensures, c.count_read-n.ensures)

pub returns : goal.returns
returns c = c.listed_at.ensures ∙ ap (λ (ns : List ℕ). any (eqb c.args.lsn) ns) (sym (row_lists c.args.commits.now c.args.row c.row-at.result c.count_read-n.result c.row-at.ensures.0 c.row-at.ensures.1 c.count_read-n.ensures))
