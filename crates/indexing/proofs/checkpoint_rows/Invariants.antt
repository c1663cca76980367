-- `indexing::checkpoint_rows` meets its contract. The invariant: the first i rows are those of the first i LSNs.
use Rattle.std.proofs.Common.{◌≡◌, length}
use Rattle.table.specs.Table.{runs}
use Rattle.indexing.specs.Rows.{listed, checkpoint_rows}
use Rattle.indexing.proofs.checkpoint_rows.Given as goal

abbrev pub invariant-loop-i : goal.invariant-loop-i
invariant-loop-i l = (length l.rows ≡ 200) × (runs l.i 25 0 l.rows ≡ checkpoint_rows l.log (listed l.lsns l.i))
