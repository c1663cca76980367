-- `indexing::put_entries` meets its contract. The invariant: the walk over the set's pages (`Walking`), and the state of the merge with the rows of the pages that
-- are left still to come (`Entering`); the measure: n, the pages that are left.
use Rattle.std.proofs.Common.{◌≡◌, ◌-◌, length}
use Rattle.pagesdown.specs.Down.{pages_left}
use Rattle.pagesdown.proofs.Walks.{Walking}
use Rattle.indexing.proofs.EntryMerges.{Entering}
use Rattle.indexing.proofs.put_entries.Given as goal

abbrev pub invariant-loop-n : goal.invariant-loop-n
invariant-loop-n l =
    (length l.t ≡ length l.initial.t)
    × Walking (record { len = l.initial.i; windows = l.ws }) l.i l.w l.n
    × Entering l.row l.fresh (pages_left l.ws l.initial.i l.initial.w) (pages_left l.ws l.i l.w) l.initial.t l.held l.coming l.t

abbrev pub decreases-loop-n : goal.decreases-loop-n
decreases-loop-n l = l.n
