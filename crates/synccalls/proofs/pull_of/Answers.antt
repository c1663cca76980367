-- By the changes of the remote since sync.remote.
use Rattle.std.proofs.Common.{◌≡◌, sym, ap, ◌∙◌, Option, Ok, Err}
use Rattle.std.proofs.lemmas.Result.{err_from_is_err_and}
use Rattle.layout.specs.Tables.{commits_in}
use Rattle.volume.specs.Volumes.{volume_says}
use Rattle.volume.specs.declared.volume.LsnRange.{LsnRange}
use Rattle.synccalls.proofs.Ends.{remote_changes, remote_refused, remote_same, remote_moved, remote_end}
use Rattle.synccalls.proofs.pull_of.Goals as goal

pub latest_lsn-head-requires : goal.latest_lsn-head-requires
latest_lsn-head-requires c = c.requires.0

pub pull_to-requires : goal.pull_to-requires
pull_to-requires c =
    let told = remote_changes c.args.commits.now c.requires.0 (volume_says c.args.v) c.requires.1 c.changes.result _ _ c.changes.ensures c.remote_of-synced.ensures c.latest_lsn-head.ensures in
    record { commits_value = c.requires; end_value = remote_end c.args.commits.now c.requires.0 (volume_says c.args.v) c.changes.result told _ (c.in_ok-changes.was ∙ ap (λ (o : Option LsnRange). Ok o) c.in-Some.is) }

pub returns-in_err-changes : goal.returns-in_err-changes
returns-in_err-changes c =
    let told = remote_changes c.args.commits.now c.requires.0 (volume_says c.args.v) c.requires.1 c.changes.result _ _ c.changes.ensures c.remote_of-synced.ensures c.latest_lsn-head.ensures in
    let p = err_from_is_err_and c.from_residual.result c.from_residual.ensures.1 in
    rw (p.1, p.2) (remote_refused (commits_in c.args.commits.now) (volume_says c.args.v) c.changes.result told _ c.in_err-changes.was)

pub returns-in-None : goal.returns-in-None
returns-in-None c =
    let told = remote_changes c.args.commits.now c.requires.0 (volume_says c.args.v) c.requires.1 c.changes.result _ _ c.changes.ensures c.remote_of-synced.ensures c.latest_lsn-head.ensures in
    remote_same (commits_in c.args.commits.now) (volume_says c.args.v) c.changes.result told (c.in_ok-changes.was ∙ ap (λ (o : Option LsnRange). Ok o) c.in-None.is)

pub returns-in-Some : goal.returns-in-Some
returns-in-Some c =
    let told = remote_changes c.args.commits.now c.requires.0 (volume_says c.args.v) c.requires.1 c.changes.result _ _ c.changes.ensures c.remote_of-synced.ensures c.latest_lsn-head.ensures in
    remote_moved (commits_in c.args.commits.now) (volume_says c.args.v) c.changes.result told _ (c.in_ok-changes.was ∙ ap (λ (o : Option LsnRange). Ok o) c.in-Some.is) c.pull_to.result c.pull_to.ensures
