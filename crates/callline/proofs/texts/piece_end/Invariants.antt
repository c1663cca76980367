-- `texts::piece_end` meets its contract. The invariant: no byte from the place up to i equals the one sought, so the first that does is as far from i as it is from the place, less what was passed. The measure: what is left of the text. Assumes nothing.
use Rattle.std.proofs.Common.{◌≡◌, ◌+◌, ◌-◌, ◌≤◌, length, drop}
use Rattle.callline.specs.Texts.{before}
use Rattle.callline.proofs.texts.piece_end.Given as goal

abbrev pub invariant-loop-i : goal.invariant-loop-i
invariant-loop-i l = (l.at ≤ l.i) × (l.i ≤ length l.s) × (l.at + before l.sep (drop l.at l.s) ≡ l.i + before l.sep (drop l.i l.s))

abbrev pub decreases-loop-i : goal.decreases-loop-i
decreases-loop-i l = length l.s - l.i
