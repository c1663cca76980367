-- `values::is_pages` meets its contract. The invariant: the text is in the form exactly if what is left of it, from a place on, rises above the last page read. The measure: what is left of the text. Assumes nothing.
use Rattle.std.proofs.Common.{◌≡◌, ◌-◌, ◌≤◌, length, drop}
use Rattle.callline.specs.Texts.{split}
use Rattle.callline.specs.Values.{pages_of, rising}
use Rattle.callline.specs.Says.{is_done}
use Rattle.callline.specs.Texts.{split}
use Rattle.callline.proofs.values.is_pages.Given as goal

abbrev pub invariant-loop-first : goal.invariant-loop-first
invariant-loop-first l = (l.at ≤ length l.s) × (is_done (pages_of l.s) ≡ is_done (rising l.low (split 44 (drop l.at l.s))))

abbrev pub decreases-loop-first : goal.decreases-loop-first
decreases-loop-first l = length l.s - l.at
