-- `batch::put_all` meets its contract. The invariant: the bytes are the table after the first i puts, laid over the bytes at entry.
use mathlib.Core.Path.{◌≡◌}
use lib.ListN.{length}
use Rattle.table.specs.Table.{runs, recs, laid}
use Rattle.batch.specs.Batch.{put_all}
use Rattle.batch.proofs.put_all.Given as goal

abbrev pub invariant-loop-i : goal.invariant-loop-i
invariant-loop-i l = record {
  size : length l.t ≡ length l.initial.t;
  bytes : l.t ≡ laid (put_all l.klen (runs l.i l.stride 0 l.batch) (recs l.stride l.initial.t)) l.initial.t;
}
