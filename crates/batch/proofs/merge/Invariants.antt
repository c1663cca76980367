-- `batch::merge` meets its contract. The invariant: the state of the merge (`Merging`), with the first i records still to come.
use Prim.Native.Nat.{◌+◌}
use Rattle.table.specs.Table.{runs, count_of}
use Rattle.batch.proofs.Merges.{Merging}
use Rattle.batch.proofs.merge.Given as goal

abbrev pub invariant-loop-i : goal.invariant-loop-i
invariant-loop-i l = Merging l.stride l.klen (count_of l.initial.t + l.c) l.held l.coming (runs l.i l.stride 0 l.batch) (runs l.n l.stride 0 l.batch) l.initial.t l.t
