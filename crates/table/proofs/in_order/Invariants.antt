-- `table::in_order` meets its contract. The invariant: the keys of all rise where those from record i - 1 on do.
use mathlib.Core.Path.{◌≡◌}
use Rattle.table.specs.Records.{rises}
use Rattle.table.specs.Table.{runs}
use Rattle.table.proofs.Checks.{ahead}
use Rattle.table.proofs.in_order.Given as goal

abbrev pub invariant-loop-i : goal.invariant-loop-i
invariant-loop-i l = rises l.klen (runs l.n l.stride 2 l.t) ≡ ahead l.stride l.klen l.n l.i l.t
