-- By the LSN, then by the hash.
use Rattle.pushcalls.proofs.Ends.{other_lsn, hash_decides}
use Rattle.pushcalls.proofs.is_pending.Goals as goal

pub returns-then-own-lsn : goal.returns-then-own-lsn
returns-then-own-lsn c = other_lsn c.args.c.now c.requires c.args.lsn c.args.hash _ c.commit_lsn-own.ensures c.if-own-lsn.true

pub returns : goal.returns
returns c = hash_decides c.args.c.now c.requires c.args.lsn c.args.hash _ c.commit_lsn-own.ensures c.if-own-lsn.false _ c.commit_hash_is.ensures
