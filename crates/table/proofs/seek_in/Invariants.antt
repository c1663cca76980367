-- `table::seek_in` meets its contract. The invariant: the place lies from low up to high; the measure: high - low.
use Prim.Native.Nat.{◌-◌, ◌≤◌}
use Rattle.table.specs.Records.{spot, place}
use Rattle.table.specs.Table.{runs}
use Rattle.table.proofs.seek_in.Given as goal

abbrev pub invariant-loop-low : goal.invariant-loop-low
invariant-loop-low l =
    (l.low ≤ place (spot l.klen l.key (runs l.n l.stride 2 l.t))) × (place (spot l.klen l.key (runs l.n l.stride 2 l.t)) ≤ l.high) × (l.high ≤ l.n)

abbrev pub decreases-loop-low : goal.decreases-loop-low
decreases-loop-low l = l.high - l.low
