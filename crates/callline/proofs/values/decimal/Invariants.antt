-- `values::decimal` meets its contract. The invariant: n is at most the limit, and what is left of the text, behind the digits of n, gives what the whole text gives. A number above the limit only grows. The measure: what is left of the text. Assumes nothing.
use Rattle.std.proofs.Common.{◌≡◌, ◌-◌, ◌≤◌, true, length, drop}
use Rattle.callline.specs.Values.{leads}
use Rattle.callline.proofs.ValueLaws.{tail}
use Rattle.callline.proofs.values.decimal.Given as goal

abbrev pub invariant-loop-i : goal.invariant-loop-i
invariant-loop-i l = (l.i ≤ length l.s) × (l.n ≤ l.limit) × (leads l.s ≡ true) × (tail l.limit 0 l.s ≡ tail l.limit l.n (drop l.i l.s))

abbrev pub decreases-loop-i : goal.decreases-loop-i
decreases-loop-i l = length l.s - l.i
