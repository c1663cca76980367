-- `indexing::count_entries` meets its contract. The invariant: the walk over the set's pages (`Walking`), and the count so far and that of the pages that are left
-- among the records that are left are the whole (`Counting`); the measure: n, the pages that are left.
use Rattle.std.proofs.Common.{◌+◌, ◌-◌, ◌≤◌}
use Rattle.table.specs.Table.{recs}
use Rattle.batch.specs.Batch.{fresh}
use Rattle.pagesdown.specs.Down.{pages_left}
use Rattle.pagesdown.proofs.Walks.{Walking}
use Rattle.indexing.proofs.EntryTurns.{page_rows, Counting}
use Rattle.indexing.proofs.count_entries.Given as goal

abbrev pub invariant-loop-n : goal.invariant-loop-n
invariant-loop-n l =
    (l.c + l.n ≤ 4294967295)
    × Walking (record { len = l.initial.i; windows = l.ws }) l.i l.w l.n
    × Counting l.row l.t (fresh 29 (page_rows l.row (pages_left l.ws l.initial.i l.initial.w)) (recs 29 l.t)) l.c (pages_left l.ws l.i l.w) l.held

abbrev pub decreases-loop-n : goal.decreases-loop-n
decreases-loop-n l = l.n
