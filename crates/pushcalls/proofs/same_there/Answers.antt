-- By the place of the commit at that log and LSN: none passes, and one with the hash.
use Rattle.commits.proofs.LookLaws.{place_at_lem, place_missing}
use Rattle.pushcalls.proofs.Ends.{there_none, there_some}
use Rattle.pushcalls.proofs.same_there.Goals as goal

pub returns-in_default : goal.returns-in_default
returns-in_default c = there_none c.args.c.now c.requires.1 c.args.commits.now c.args.hash _ _ c.commit_log-log.ensures c.commit_lsn-lsn.ensures (place_missing c.args.commits.now _ _ c.find_commit.ensures c.in_default.is)

pub hash_is-requires : goal.hash_is-requires
hash_is-requires c = (c.requires.0, (place_at_lem c.args.commits.now _ _ c.find_commit.ensures c.in-Some.i c.in-Some.is).1)

pub returns : goal.returns
returns c = there_some c.args.c.now c.requires.1 c.args.commits.now c.args.hash _ _ c.commit_log-log.ensures c.commit_lsn-lsn.ensures _ (place_at_lem c.args.commits.now _ _ c.find_commit.ensures c.in-Some.i c.in-Some.is).0 _ c.hash_is.ensures
