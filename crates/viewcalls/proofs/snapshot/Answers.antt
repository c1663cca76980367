-- 20 where a table is not formed, 4 where the volume is not found; else the snapshot of the one that is.
use Rattle.std.proofs.Common.{sym, ap, ◌∙◌}
use Rattle.volume.specs.Snapshots.{laid_answer}
use Rattle.table.proofs.Ends.{at_in}
use Rattle.volumecalls.proofs.Ends.{here, nowhere}
use Rattle.viewcalls.proofs.Ends.{no_volumes, no_commits, no_snapshot, snapshot_found}
use Rattle.viewcalls.proofs.snapshot.Goals as goal

pub returns-then-not-volumes_formed : goal.returns-then-not-volumes_formed
returns-then-not-volumes_formed c = ap laid_answer (sym (no_volumes c.args.volumes.now c.args.commits.now _ (sym c.volumes_formed.ensures ∙ c.if-not-volumes_formed.true)))

pub returns-then-not-commits_formed : goal.returns-then-not-commits_formed
returns-then-not-commits_formed c = ap laid_answer (sym (no_commits c.args.volumes.now c.args.commits.now _ (sym c.commits_formed.ensures ∙ c.if-not-commits_formed.true)))

pub find_volume-requires : goal.find_volume-requires
find_volume-requires c = (sym c.volumes_formed.ensures ∙ c.if-not-volumes_formed.false)

pub returns-in_default : goal.returns-in_default
returns-in_default c = ap laid_answer (no_snapshot c.args.volumes.now c.args.commits.now c.args.vid (sym c.volumes_formed.ensures ∙ c.if-not-volumes_formed.false) (sym c.commits_formed.ensures ∙ c.if-not-commits_formed.false) (nowhere c.args.volumes.now c.args.vid (sym c.volumes_formed.ensures ∙ c.if-not-volumes_formed.false) _ _ c.find_volume.ensures.says c.in_default.is))

pub volume_at-requires : goal.volume_at-requires
volume_at-requires c = ((sym c.volumes_formed.ensures ∙ c.if-not-volumes_formed.false), at_in 117 17 c.args.volumes.now _ _ _ c.find_volume.ensures.place c.in-Ok.is)

pub snapshot_of-requires : goal.snapshot_of-requires
snapshot_of-requires c = (sym c.commits_formed.ensures ∙ c.if-not-commits_formed.false)

pub returns : goal.returns
returns c = snapshot_found c.args.volumes.now c.args.commits.now c.args.vid (sym c.volumes_formed.ensures ∙ c.if-not-volumes_formed.false) (sym c.commits_formed.ensures ∙ c.if-not-commits_formed.false) c.in-Ok.i c.volume_at.result c.snapshot_of.result (here c.args.volumes.now c.args.vid (sym c.volumes_formed.ensures ∙ c.if-not-volumes_formed.false) _ _ c.find_volume.ensures.says c.in-Ok.is) c.volume_at.ensures c.snapshot_of.ensures
