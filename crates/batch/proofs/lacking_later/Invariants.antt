-- `batch::lacking_later` meets its contract. The invariant: the key is lacking among all where it is among the records from i on.
use mathlib.Core.Path.{◌≡◌}
use Prim.Native.Nat.{◌+◌, ◌-◌, ◌*◌}
use Rattle.octets.specs.Bytes.{part}
use Rattle.table.specs.Table.{runs}
use Rattle.batch.specs.Batch.{lacks}
use Rattle.batch.proofs.lacking_later.Given as goal

abbrev pub invariant-loop-i : goal.invariant-loop-i
invariant-loop-i l = lacks l.klen (part l.from l.stride l.batch) (runs (l.n - l.i) l.stride (l.first + l.i * l.stride) l.batch) ≡ lacks l.klen (part l.from l.stride l.batch) (runs l.n l.stride l.first l.batch)
