-- The run that the table has; one that ends before it begins has no commit. Assumes nothing.
use Rattle.std.proofs.Common.{arith}
use Rattle.volume.specs.Snapshots.{range_says}
use Rattle.listcalls.proofs.RangeLaws.{places_none}
use Rattle.listcalls.proofs.places_of.Goals as goal

pub returns : goal.returns
returns c = places_none c.args.commits.now (range_says c.args.range) c.range_run-run.result.from c.range_run-run.result.to c.range_run-run.ensures (omega arith)
