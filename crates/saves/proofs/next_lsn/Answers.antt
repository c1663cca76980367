-- The LSN after that of the commit that stands at the place of the log's latest.
use Rattle.std.proofs.Common.{arith}
use Rattle.commits.specs.Places.{commit_at}
use Rattle.commits.proofs.LookLaws.{place_at_lem, place_missing}
use Rattle.saves.proofs.Asks.{first_lsn, no_lsn, next_lsn_lem}
use Rattle.saves.proofs.next_lsn.Goals as goal

pub returns-in_default : goal.returns-in_default
returns-in_default c = first_lsn _ (place_missing c.args.commits.now _ _ c.latest.ensures c.in_default.is)

pub lsn_at-n-requires : goal.lsn_at-n-requires
lsn_at-n-requires c = (c.requires, (place_at_lem c.args.commits.now _ _ c.latest.ensures c.in-Some.i c.in-Some.is).1)

pub returns-then-n : goal.returns-then-n
returns-then-n c = no_lsn _ (commit_at c.args.commits.now c.in-Some.i) (place_at_lem c.args.commits.now _ _ c.latest.ensures c.in-Some.i c.in-Some.is).0 c.lsn_at-n.result c.lsn_at-n.ensures c.if-n.true

pub returns : goal.returns
returns c = next_lsn_lem _ (commit_at c.args.commits.now c.in-Some.i) (place_at_lem c.args.commits.now _ _ c.latest.ensures c.in-Some.i c.in-Some.is).0 c.lsn_at-n.result c.lsn_at-n.ensures c.if-n.false (omega arith)
