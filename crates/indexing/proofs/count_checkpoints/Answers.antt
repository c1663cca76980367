-- `indexing::count_checkpoints` meets its contract: the rows are those of the checkpoints.
use Rattle.indexing.proofs.count_checkpoints.Goals as goal

pub returns : goal.returns
returns c = rw c.checkpoint_rows-rows.ensures at c.count_new.ensures.0
