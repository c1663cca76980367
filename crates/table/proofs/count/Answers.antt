-- `table::count` meets its contract: the first two bytes, by the definition.
use Rattle.table.specs.Table.{count_of}
use Rattle.table.proofs.count.Goals as goal

pub returns : goal.returns
unfolding count_of
returns c = c.load16.ensures
