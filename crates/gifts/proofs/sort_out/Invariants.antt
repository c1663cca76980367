-- So many windows are sorted, and noted (`Sorting`). A turn sorts the next window by what the notes tell of it.
use Rattle.setbytes.specs.Laid.{windows_at}
use Rattle.gifts.proofs.SortLaws.{Sorting}
use Rattle.gifts.proofs.sort_out.Given as goal

abbrev pub invariant-loop-i : goal.invariant-loop-i
invariant-loop-i l = Sorting (windows_at l.n l.at l.commits) l.count.0 l.initial.notes l.notes l.left l.ask l.i
