-- The commit by itself, then the volume, then what it decides.
use Rattle.std.proofs.Common.{sym, ◌∙◌}
use Rattle.table.proofs.Ends.{at_in}
use Rattle.layout.specs.Tables.{volumes_in}
use Rattle.volumecalls.proofs.Ends.{nowhere}
use Rattle.pushcalls.proofs.Ends.{volumes_ok_lem, logs_ok_lem, commit_good, bad_commit, success_nowhere, is_found, stands, same_fits, plan_refuses, plan_goes}
use Rattle.pushcalls.proofs.success_plan.Goals as goal

pub returns-then-number-ne0 : goal.returns-then-number-ne0
returns-then-number-ne0 c = bad_commit c.args.volumes.now c.args.commits.now c.args.checkpoints.now c.args.index.now c.requires c.args.vid c.args.c.now _ c.commit_number-number.ensures c.if-number-ne0.true

pub find_volume-requires : goal.find_volume-requires
find_volume-requires c = (volumes_ok_lem c.args.volumes.now c.args.commits.now c.args.checkpoints.now c.args.index.now c.requires)

pub returns-in_default : goal.returns-in_default
returns-in_default c = success_nowhere c.args.volumes.now c.args.commits.now c.args.checkpoints.now c.args.index.now c.requires c.args.vid c.args.c.now (sym c.commit_number-number.ensures ∙ c.if-number-ne0.false) (nowhere c.args.volumes.now c.args.vid (volumes_ok_lem c.args.volumes.now c.args.commits.now c.args.checkpoints.now c.args.index.now c.requires) _ _ c.find_volume.ensures.says c.in_default.is)

pub volume_at-v-requires : goal.volume_at-v-requires
volume_at-v-requires c = ((volumes_ok_lem c.args.volumes.now c.args.commits.now c.args.checkpoints.now c.args.index.now c.requires), at_in 117 17 c.args.volumes.now _ _ _ c.find_volume.ensures.place c.in-Ok.is)

pub push_number-refusal-requires : goal.push_number-refusal-requires
push_number-refusal-requires c = record { commits_value = logs_ok_lem c.args.volumes.now c.args.commits.now c.args.checkpoints.now c.args.index.now c.requires; commit = (commit_good c.args.c.now (sym c.commit_number-number.ensures ∙ c.if-number-ne0.false)).0 }

pub returns-then-refusal-ne0 : goal.returns-then-refusal-ne0
returns-then-refusal-ne0 c = plan_refuses c.args.volumes.now c.args.commits.now c.args.checkpoints.now c.args.index.now c.requires c.args.vid c.args.c.now (sym c.commit_number-number.ensures ∙ c.if-number-ne0.false) _ _ (stands c.args.volumes.now c.args.vid (volumes_ok_lem c.args.volumes.now c.args.commits.now c.args.checkpoints.now c.args.index.now c.requires) _ _ c.find_volume.ensures.place c.find_volume.ensures.says c.in-Ok.is _ c.volume_at-v.ensures) (is_found c.args.volumes.now c.args.vid (volumes_ok_lem c.args.volumes.now c.args.commits.now c.args.checkpoints.now c.args.index.now c.requires) _ _ c.find_volume.ensures.place c.find_volume.ensures.says c.in-Ok.is _ c.volume_at-v.ensures) _ (c.push_number-refusal.ensures (volumes_in c.args.volumes.now) (same_fits c.args.volumes.now _ _ (stands c.args.volumes.now c.args.vid (volumes_ok_lem c.args.volumes.now c.args.commits.now c.args.checkpoints.now c.args.index.now c.requires) _ _ c.find_volume.ensures.place c.find_volume.ensures.says c.in-Ok.is _ c.volume_at-v.ensures) (volumes_ok_lem c.args.volumes.now c.args.commits.now c.args.checkpoints.now c.args.index.now c.requires))) c.if-refusal-ne0.true

pub returns : goal.returns
returns c = plan_goes c.args.volumes.now c.args.commits.now c.args.checkpoints.now c.args.index.now c.requires c.args.vid c.args.c.now (sym c.commit_number-number.ensures ∙ c.if-number-ne0.false) _ _ (stands c.args.volumes.now c.args.vid (volumes_ok_lem c.args.volumes.now c.args.commits.now c.args.checkpoints.now c.args.index.now c.requires) _ _ c.find_volume.ensures.place c.find_volume.ensures.says c.in-Ok.is _ c.volume_at-v.ensures) (is_found c.args.volumes.now c.args.vid (volumes_ok_lem c.args.volumes.now c.args.commits.now c.args.checkpoints.now c.args.index.now c.requires) _ _ c.find_volume.ensures.place c.find_volume.ensures.says c.in-Ok.is _ c.volume_at-v.ensures) (sym (c.push_number-refusal.ensures (volumes_in c.args.volumes.now) (same_fits c.args.volumes.now _ _ (stands c.args.volumes.now c.args.vid (volumes_ok_lem c.args.volumes.now c.args.commits.now c.args.checkpoints.now c.args.index.now c.requires) _ _ c.find_volume.ensures.place c.find_volume.ensures.says c.in-Ok.is _ c.volume_at-v.ensures) (volumes_ok_lem c.args.volumes.now c.args.commits.now c.args.checkpoints.now c.args.index.now c.requires))) ∙ c.if-refusal-ne0.false)
