-- By the place of the log's latest commit.
use Rattle.std.proofs.Common.{ap}
use Rattle.rules.specs.Lists.{is_none}
use Rattle.commits.proofs.LookLaws.{place_at_lem, place_missing}
use Rattle.copycalls.proofs.log_free.Goals as goal

pub returns-in-Some : goal.returns-in-Some
returns-in-Some c = ap is_none (place_at_lem c.args.commits.now _ _ c.latest.ensures _ c.in-Some.is).0

pub returns-in-None : goal.returns-in-None
returns-in-None c = ap is_none (place_missing c.args.commits.now _ _ c.latest.ensures c.in-None.is)
