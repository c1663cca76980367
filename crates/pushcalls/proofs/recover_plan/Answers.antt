-- The volume, then what it decides.
use Rattle.table.proofs.Ends.{at_in}
use Rattle.volumecalls.proofs.Ends.{nowhere}
use Rattle.pushcalls.proofs.Ends.{volumes_ok_lem, logs_ok_lem, is_found, stands, recover_nowhere, recover_at}
use Rattle.pushcalls.proofs.recover_plan.Goals as goal

pub find_volume-requires : goal.find_volume-requires
find_volume-requires c = (volumes_ok_lem c.args.volumes.now c.args.commits.now c.args.checkpoints.now c.args.index.now c.requires)

pub returns-in_default : goal.returns-in_default
returns-in_default c = recover_nowhere c.args.volumes.now c.args.commits.now c.args.checkpoints.now c.args.index.now c.requires c.args.vid (nowhere c.args.volumes.now c.args.vid (volumes_ok_lem c.args.volumes.now c.args.commits.now c.args.checkpoints.now c.args.index.now c.requires) _ _ c.find_volume.ensures.says c.in_default.is)

pub volume_at-v-requires : goal.volume_at-v-requires
volume_at-v-requires c = ((volumes_ok_lem c.args.volumes.now c.args.commits.now c.args.checkpoints.now c.args.index.now c.requires), at_in 117 17 c.args.volumes.now _ _ _ c.find_volume.ensures.place c.in-Ok.is)

pub recover_found-requires : goal.recover_found-requires
recover_found-requires c = logs_ok_lem c.args.volumes.now c.args.commits.now c.args.checkpoints.now c.args.index.now c.requires

pub returns : goal.returns
returns c = recover_at c.args.volumes.now c.args.commits.now c.args.checkpoints.now c.args.index.now c.requires c.args.vid _ _ (stands c.args.volumes.now c.args.vid (volumes_ok_lem c.args.volumes.now c.args.commits.now c.args.checkpoints.now c.args.index.now c.requires) _ _ c.find_volume.ensures.place c.find_volume.ensures.says c.in-Ok.is _ c.volume_at-v.ensures) (is_found c.args.volumes.now c.args.vid (volumes_ok_lem c.args.volumes.now c.args.commits.now c.args.checkpoints.now c.args.index.now c.requires) _ _ c.find_volume.ensures.place c.find_volume.ensures.says c.in-Ok.is _ c.volume_at-v.ensures) c.recover_found.result c.recover_found.ensures
