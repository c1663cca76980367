-- The invariant: the walk over the set's pages (`Walking`), and that the rows of the pages that are left, put at the place reached, make all of the rows put at the
-- first place; the measure: n, the pages that are left.
use Rattle.std.proofs.Common.{◌≡◌, ◌+◌, ◌-◌, ◌*◌, ◌≤◌, reverse, length}
use Rattle.octets.specs.Bytes as B
use Rattle.table.specs.Table.{join}
use Rattle.pagesdown.specs.Down.{pages_left}
use Rattle.pagesdown.proofs.Walks.{Walking}
use Rattle.saves.specs.Added.{page_rows}
use Rattle.saves.proofs.fill_pages.Given as goal

abbrev pub invariant-loop-n : goal.invariant-loop-n
invariant-loop-n l =
    (length l.t ≡ length l.initial.t)
    × (l.to + l.n * 21 ≤ length l.t)
    × Walking (record { len = l.initial.i; windows = l.ws }) l.i l.w l.n
    × (B.put l.to (join (page_rows l.sid (reverse (pages_left l.ws l.i l.w)))) l.t ≡ B.put l.at (join (page_rows l.sid (reverse (pages_left l.ws l.initial.i l.initial.w)))) l.initial.t)

abbrev pub decreases-loop-n : goal.decreases-loop-n
decreases-loop-n l = l.n
