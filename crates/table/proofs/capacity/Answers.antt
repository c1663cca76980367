-- `table::capacity` meets its contract, by the definition.
use Rattle.std.proofs.Common.{rules}
use Rattle.table.specs.Table.{cap_of}
use Rattle.table.proofs.capacity.Goals as goal

pub returns : goal.returns
unfolding cap_of
returns c = search rules
