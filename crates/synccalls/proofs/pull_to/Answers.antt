-- By the changes of the local log since the watermark.
use Rattle.std.proofs.Common.{◌≡◌, sym, ap, ◌∙◌, Option, Ok, Err}
use Rattle.std.proofs.lemmas.Result.{err_from_is_err_and}
use Rattle.layout.specs.Tables.{commits_in}
use Rattle.volume.specs.Volumes.{volume_says}
use Rattle.volume.specs.declared.volume.LsnRange.{LsnRange}
use Rattle.synccalls.proofs.Ends.{local_changes, local_refused, local_same, local_moved}
use Rattle.synccalls.proofs.pull_to.Goals as goal

pub latest_lsn-head-requires : goal.latest_lsn-head-requires
latest_lsn-head-requires c = c.requires.commits_value.0

pub returns-in_err-changes : goal.returns-in_err-changes
returns-in_err-changes c =
    let told = local_changes c.args.commits.now c.requires.commits_value.0 (volume_says c.args.v) c.requires.commits_value.1 c.changes.result _ _ c.changes.ensures c.watermark_of-watermark.ensures c.latest_lsn-head.ensures in
    let p = err_from_is_err_and c.from_residual.result c.from_residual.ensures.1 in
    rw (p.1, p.2) (local_refused (commits_in c.args.commits.now) (volume_says c.args.v) c.changes.result told c.args.end _ c.in_err-changes.was)

pub returns-in-None : goal.returns-in-None
returns-in-None c =
    let told = local_changes c.args.commits.now c.requires.commits_value.0 (volume_says c.args.v) c.requires.commits_value.1 c.changes.result _ _ c.changes.ensures c.watermark_of-watermark.ensures c.latest_lsn-head.ensures in
    local_same (commits_in c.args.commits.now) (volume_says c.args.v) c.changes.result told c.args.end (c.in_ok-changes.was ∙ ap (λ (o : Option LsnRange). Ok o) c.in-None.is) c.requires.end_value.0 c.requires.end_value.1

pub returns-in-Some : goal.returns-in-Some
returns-in-Some c =
    let told = local_changes c.args.commits.now c.requires.commits_value.0 (volume_says c.args.v) c.requires.commits_value.1 c.changes.result _ _ c.changes.ensures c.watermark_of-watermark.ensures c.latest_lsn-head.ensures in
    local_moved (commits_in c.args.commits.now) (volume_says c.args.v) c.changes.result told c.args.end _ (c.in_ok-changes.was ∙ ap (λ (o : Option LsnRange). Ok o) c.in-Some.is)
