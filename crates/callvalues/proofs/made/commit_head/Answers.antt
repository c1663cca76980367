-- The fields of the bytes.
use Rattle.callvalues.proofs.Values.{commit_in_lem}
use Rattle.callvalues.proofs.made.commit_head.Goals as goal

pub returns : goal.returns
returns c = commit_in_lem c.args.b.now c.commit_log-log.result c.commit_lsn.result.0 c.requires c.commit_log-log.ensures c.commit_lsn.ensures
