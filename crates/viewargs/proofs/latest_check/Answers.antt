-- By value the check has the numbers of the snapshot that the bytes spell; their form is asked after it, and 3 stands for all that comes after 2.
use Rattle.std.proofs.Common.{sym, ◌∙◌}
use Rattle.viewargs.proofs.ViewLaws.{check_formed, check_unformed}
use Rattle.viewargs.proofs.latest_check.Goals as goal

pub returns-then-not-snapshot_ok : goal.returns-then-not-snapshot_ok
returns-then-not-snapshot_ok c = c.unformed.ensures ∙ check_unformed c.args.volumes.now c.args.commits.now c.args.vid c.args.snapshot.now c.snapshot_arg.result _ c.snapshot_arg.ensures c.latest_check-a.ensures (sym c.snapshot_ok.ensures ∙ c.if-not-snapshot_ok.true)

pub returns : goal.returns
returns c = check_formed c.args.volumes.now c.args.commits.now c.args.vid c.args.snapshot.now c.snapshot_arg.result _ c.snapshot_arg.ensures c.latest_check-a.ensures (sym c.snapshot_ok.ensures ∙ c.if-not-snapshot_ok.false)
