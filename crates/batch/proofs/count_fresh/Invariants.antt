-- `batch::count_fresh` meets its contract. The invariant: the count so far and that of the records from i on are the whole.
use mathlib.Core.Path.{◌≡◌}
use Prim.Native.Nat.{◌+◌, ◌-◌, ◌*◌, ◌≤◌}
use Rattle.table.specs.Table.{runs, recs}
use Rattle.batch.specs.Batch.{fresh}
use Rattle.batch.proofs.count_fresh.Given as goal

abbrev pub invariant-loop-i : goal.invariant-loop-i
invariant-loop-i l = record {
  small : l.c ≤ l.i;
  whole : l.c + fresh l.klen (runs (l.n - l.i) l.stride (l.i * l.stride) l.batch) (recs l.stride l.t) ≡ fresh l.klen (runs l.n l.stride 0 l.batch) (recs l.stride l.t);
}
