-- `texts::starts_with` meets its contract. The invariant: the text begins with the key exactly if what is left of it begins with what is left of the key. The measure: what is left of the key. Assumes nothing.
use Rattle.std.proofs.Common.{◌≡◌, ◌-◌, ◌≤◌, length, drop}
use Rattle.callline.specs.Texts.{starts}
use Rattle.callline.proofs.texts.starts_with.Given as goal

abbrev pub invariant-loop-i : goal.invariant-loop-i
invariant-loop-i l = (l.i ≤ length l.key) × (length l.key ≤ length l.s) × (starts l.key l.s ≡ starts (drop l.i l.key) (drop l.i l.s))

abbrev pub decreases-loop-i : goal.decreases-loop-i
decreases-loop-i l = length l.key - l.i
