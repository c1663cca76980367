-- An empty path by itself; else all ranges, and then whether one is remote.
use Rattle.std.proofs.Common.{sym, ◌∙◌}
use Rattle.layout.specs.Tables.{commits_in}
use Rattle.volume.specs.Volumes.{maybe_lsn_says, volume_says}
use Rattle.volume.proofs.SnapshotLaws.{places}
use Rattle.viewcalls.proofs.CheckLaws.{empty_latest, path_old, path_latest_lem}
use Rattle.viewcalls.proofs.is_latest.Goals as goal

pub returns-then-len-eq0 : goal.returns-then-len-eq0
returns-then-len-eq0 c = c.is_fresh.ensures ∙ empty_latest (commits_in c.args.commits.now) (volume_says c.args.v) c.args.s (places c.args.s _ c.well_formed.1.1.0) (maybe_lsn_says c.latest_of-head.result) c.latest_of-head.ensures c.if-len-eq0.true

pub returns-then-not-all_latest : goal.returns-then-not-all_latest
returns-then-not-all_latest c = path_old (commits_in c.args.commits.now) (volume_says c.args.v) c.args.s (places c.args.s _ c.well_formed.1.1.0) (maybe_lsn_says c.latest_of-head.result) c.latest_of-head.ensures c.if-len-eq0.false (sym c.all_latest.ensures ∙ c.if-not-all_latest.true)

pub returns : goal.returns
returns c = c.fits_sync.ensures ∙ path_latest_lem (commits_in c.args.commits.now) (volume_says c.args.v) c.args.s (places c.args.s _ c.well_formed.1.1.0) (maybe_lsn_says c.latest_of-head.result) c.latest_of-head.ensures c.if-len-eq0.false (sym c.all_latest.ensures ∙ c.if-not-all_latest.false) c.any_remote.result c.any_remote.ensures
