-- What is pending becomes the sync point; where nothing is, there is nothing to show.
use Rattle.std.proofs.Common.{ap}
use Rattle.rules.proofs.TableLaws.{missing}
use Rattle.volume.specs.Volumes.{pending_says}
use Rattle.pushcalls.proofs.Ends.{pushed_says}
use Rattle.pushcalls.proofs.pushed.Goals as goal

pub returns-in_default : goal.returns-in_default
returns-in_default c = λ p e. absurd (missing (ap pending_says c.in_default.is) e)

pub returns : goal.returns
returns c = pushed_says c.args.v _ _ _ c.in-Some.is c.with_sync-moved.ensures c.with_pending_commit.ensures
