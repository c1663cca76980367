-- `page_set` meets its contract. The invariant: the set has the pages of the ranges before a place of the text, all up to the last of them, and the ranges that are left, from that place on, rise above it. The measure: what is left of the text. Assumes nothing.
use Rattle.std.proofs.Common.{◌-◌, ◌≤◌, length, drop}
use Rattle.callline.specs.Texts.{split}
use Rattle.callpages.proofs.PartLaws.{Part}
use Rattle.callline.specs.Texts.{split}
use Rattle.callpages.proofs.page_set.Given as goal

abbrev pub invariant-loop-first : goal.invariant-loop-first
invariant-loop-first l = (l.at ≤ length l.text) × Part l.text (split 44 (drop l.at l.text)) l.set

abbrev pub decreases-loop-first : goal.decreases-loop-first
decreases-loop-first l = length l.text - l.at
