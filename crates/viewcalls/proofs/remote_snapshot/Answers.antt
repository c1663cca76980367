-- By whether there is a sync, and whether the commit at sync.remote is stored.
use Rattle.std.proofs.Common.{sym, ap, ◌∙◌}
use Rattle.layout.specs.Tables.{commits_in}
use Rattle.volume.specs.Volumes.{maybe_lsn_says, volume_says}
use Rattle.volume.specs.Snapshots.{laid}
use Rattle.commits.specs.Places.{commit_at}
use Rattle.commits.proofs.LookLaws.{place_at_lem, place_missing}
use Rattle.viewcalls.proofs.Ends.{not_synced, not_stored, stored}
use Rattle.viewcalls.proofs.remote_snapshot.Goals as goal

pub returns-in_default : goal.returns-in_default
returns-in_default c = c.empty.ensures ∙ ap laid (not_synced (commits_in c.args.commits.now) (volume_says c.args.v) _ (ap maybe_lsn_says (sym c.in_default.is) ∙ c.remote_of.ensures))

pub returns-in_default-find_commit : goal.returns-in_default-find_commit
returns-in_default-find_commit c = c.empty-in_default-find_commit.ensures ∙ ap laid (not_stored (commits_in c.args.commits.now) (volume_says c.args.v) _ c.in-Some.lsn.0 (ap maybe_lsn_says (sym c.in-Some.is) ∙ c.remote_of.ensures) (place_missing c.args.commits.now _ _ c.find_commit.ensures c.in_default-find_commit.is))

pub lsn_at-requires : goal.lsn_at-requires
lsn_at-requires c = (c.requires, (place_at_lem c.args.commits.now _ _ c.find_commit.ensures c.in-Some-find_commit.i c.in-Some-find_commit.is).1)

pub count_at-requires : goal.count_at-requires
count_at-requires c = (c.requires, (place_at_lem c.args.commits.now _ _ c.find_commit.ensures c.in-Some-find_commit.i c.in-Some-find_commit.is).1)

pub returns : goal.returns
returns c = c.one_range.ensures ∙ ap laid (stored (commits_in c.args.commits.now) (volume_says c.args.v) _ c.in-Some.lsn.0 (ap maybe_lsn_says (sym c.in-Some.is) ∙ c.remote_of.ensures) (commit_at c.args.commits.now c.in-Some-find_commit.i) (place_at_lem c.args.commits.now _ _ c.find_commit.ensures c.in-Some-find_commit.i c.in-Some-find_commit.is).0 c.lsn_at.result c.count_at.result c.lsn_at.ensures c.count_at.ensures)
