-- The run of the range: its first row, unless it is empty.
use Rattle.std.proofs.Common.{arith}
use Rattle.paths.proofs.LeftLaws.{first_missing, first_there}
use Rattle.paths.proofs.first_in.Goals as goal

pub returns-then-run-from : goal.returns-then-run-from
returns-then-run-from c = first_missing _ _ _ _ c.range_run-run.ensures c.if-run-from.true

pub returns : goal.returns
returns c = first_there _ _ _ _ c.range_run-run.ensures (omega (arith, c.if-run-from.false))
