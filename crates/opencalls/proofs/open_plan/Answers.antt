-- By the asked volume where it is stored, else by the new one.
use Rattle.std.proofs.Common.{sym, ◌∙◌}
use Rattle.rules.specs.Open.{asked_volume}
use Rattle.layout.specs.Tables.{volumes_in, commits_in}
use Rattle.opencalls.specs.Opens.{asked_says}
use Rattle.opencalls.specs.Opens.{asked, spares}
use Rattle.opencalls.proofs.Ends.{not_stored, other_remote, stored_goes}
use Rattle.opencalls.proofs.open_plan.Goals as goal

pub asked_spot-requires : goal.asked_spot-requires
asked_spot-requires c = c.requires.0

pub new_plan-requires : goal.new_plan-requires
new_plan-requires c = c.requires

pub returns-in_default : goal.returns-in_default
returns-in_default c = not_stored c.args.volumes.now (commits_in c.args.commits.now) (asked c.args.vid c.args.local c.args.remote) (spares c.args.vid c.args.local c.args.remote) (asked_volume (volumes_in c.args.volumes.now) (asked_says c.args.vid)) c.asked_spot.result c.asked_spot.ensures _ c.in_default.is c.new_plan.result c.new_plan.ensures

pub volume_at-v-requires : goal.volume_at-v-requires
volume_at-v-requires c = (c.requires.0, c.asked_spot.ensures.inside _ c.in-Ok.is)

pub returns-then-not-agrees : goal.returns-then-not-agrees
returns-then-not-agrees c = other_remote c.args.volumes.now (commits_in c.args.commits.now) (asked c.args.vid c.args.local c.args.remote) (spares c.args.vid c.args.local c.args.remote) (asked_volume (volumes_in c.args.volumes.now) (asked_says c.args.vid)) c.asked_spot.result c.asked_spot.ensures _ c.in-Ok.is _ c.volume_at-v.ensures (sym c.agrees.ensures ∙ c.if-not-agrees.true)

pub returns : goal.returns
returns c = stored_goes c.args.volumes.now (commits_in c.args.commits.now) (asked c.args.vid c.args.local c.args.remote) (spares c.args.vid c.args.local c.args.remote) (asked_volume (volumes_in c.args.volumes.now) (asked_says c.args.vid)) c.asked_spot.result c.asked_spot.ensures _ c.in-Ok.is _ c.volume_at-v.ensures (sym c.agrees.ensures ∙ c.if-not-agrees.false)
