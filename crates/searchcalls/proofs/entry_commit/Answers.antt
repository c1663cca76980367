-- The place that the lookup answers is the commit's, or there is none.
use Rattle.searchcalls.proofs.PathLaws.{stored, unstored}
use Rattle.searchcalls.proofs.entry_commit.Goals as goal

pub returns-in-Some : goal.returns-in-Some
returns-in-Some c = stored c.args.commits.now c.args.log c.args.lsn.0 _ c.find_commit.ensures _ c.in-Some.is

pub returns-in-None : goal.returns-in-None
returns-in-None c = unstored c.args.commits.now c.args.log c.args.lsn.0 _ c.find_commit.ensures c.in-None.is
