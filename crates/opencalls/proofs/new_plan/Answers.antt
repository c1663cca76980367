-- What stands in, then room.
use Rattle.std.proofs.Common.{sym, ◌∙◌}
use Rattle.layout.specs.Tables.{commits_in}
use Rattle.volume.specs.Volumes.{volume_says}
use Rattle.opencalls.specs.Opens.{asked, spares}
use Rattle.opencalls.proofs.Ends.{in_use, no_room, new_goes}
use Rattle.opencalls.proofs.new_plan.Goals as goal

pub all_free-requires : goal.all_free-requires
all_free-requires c = c.requires

pub returns-then-not-all_free : goal.returns-then-not-all_free
returns-then-not-all_free c = in_use c.args.volumes.now (commits_in c.args.commits.now) (asked c.args.vid c.args.local c.args.remote) (spares c.args.vid c.args.local c.args.remote) (sym c.all_free.ensures ∙ c.if-not-all_free.true)

pub new_volume-v-requires : goal.new_volume-v-requires
new_volume-v-requires c = c.requires.1

pub room_for_volume-requires : goal.room_for_volume-requires
room_for_volume-requires c = (c.requires.0, c.new_volume-v.ensures.1)

pub returns-then-not-room_for_volume : goal.returns-then-not-room_for_volume
returns-then-not-room_for_volume c = no_room c.args.volumes.now (commits_in c.args.commits.now) (asked c.args.vid c.args.local c.args.remote) (spares c.args.vid c.args.local c.args.remote) (sym c.all_free.ensures ∙ c.if-not-all_free.false) (volume_says c.new_volume-v.result) c.new_volume-v.ensures.0 (sym c.room_for_volume.ensures ∙ c.if-not-room_for_volume.true)

pub returns : goal.returns
returns c = new_goes c.args.volumes.now (commits_in c.args.commits.now) (asked c.args.vid c.args.local c.args.remote) (spares c.args.vid c.args.local c.args.remote) (sym c.all_free.ensures ∙ c.if-not-all_free.false) (volume_says c.new_volume-v.result) c.new_volume-v.ensures.0 (sym c.room_for_volume.ensures ∙ c.if-not-room_for_volume.false)
