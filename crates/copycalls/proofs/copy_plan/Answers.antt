-- 5, then room for the volume, then for the copies: the first that fails is the number.
use Rattle.std.proofs.Common.{sym, ap, ◌∙◌}
use Rattle.layout.specs.Tables.{volumes_in, commits_in}
use Rattle.writecalls.specs.Written.{logs_in}
use Rattle.paths.specs.Left.{left_says}
use Rattle.copycalls.specs.Making.{ids}
use Rattle.basics.specs.Orders.{bytes}
use Rattle.rules.specs.Records.{Volume, volume_key}
use Rattle.rules.specs.Tables.{fits, store}
use Rattle.copycalls.proofs.Asks.{local_free}
use Rattle.copycalls.proofs.Ends.{in_use, no_volume_room, no_copy_room, all_room}
use Rattle.copycalls.proofs.copy_plan.Goals as goal

pub copy_free-requires : goal.copy_free-requires
copy_free-requires c = (c.requires.volumes_value.0, c.requires.volumes_value.1)

pub returns-then-not-copy_free : goal.returns-then-not-copy_free
returns-then-not-copy_free c = in_use (volumes_in c.args.volumes.now) (logs_in c.args.commits.now c.args.checkpoints.now c.args.index.now) (left_says c.args.left) (ids c.args.vid c.args.local c.args.remote) (sym c.copy_free.ensures ∙ c.if-not-copy_free.true)

pub room_for_volume-requires : goal.room_for_volume-requires
room_for_volume-requires c = (c.requires.volumes_value.0, c.new_volume-v.ensures.1)

pub returns-then-not-room_for_volume : goal.returns-then-not-room_for_volume
returns-then-not-room_for_volume c = no_volume_room (volumes_in c.args.volumes.now) (logs_in c.args.commits.now c.args.checkpoints.now c.args.index.now) (left_says c.args.left) (ids c.args.vid c.args.local c.args.remote) (sym c.copy_free.ensures ∙ c.if-not-copy_free.false) (ap (λ (v : Volume). fits (store volume_key bytes v (volumes_in c.args.volumes.now))) (sym c.new_volume-v.ensures.0) ∙ sym c.room_for_volume.ensures ∙ c.if-not-room_for_volume.true)

pub commits_left-n-requires : goal.commits_left-n-requires
commits_left-n-requires c = (c.requires.volumes_value.1, c.requires.is_left)

pub room_for_copies-requires : goal.room_for_copies-requires
room_for_copies-requires c = record { commits_value = (c.requires.volumes_value.1, c.requires.volumes_value.2, c.requires.volumes_value.3); is_left = (c.requires.is_left, c.commits_left-n.ensures, local_free (volumes_in c.args.volumes.now) (commits_in c.args.commits.now) (ids c.args.vid c.args.local c.args.remote) (sym c.copy_free.ensures ∙ c.if-not-copy_free.false)) }

pub returns-then-not-room_for_copies : goal.returns-then-not-room_for_copies
returns-then-not-room_for_copies c = no_copy_room (volumes_in c.args.volumes.now) (logs_in c.args.commits.now c.args.checkpoints.now c.args.index.now) (left_says c.args.left) (ids c.args.vid c.args.local c.args.remote) (sym c.copy_free.ensures ∙ c.if-not-copy_free.false) (ap (λ (v : Volume). fits (store volume_key bytes v (volumes_in c.args.volumes.now))) (sym c.new_volume-v.ensures.0) ∙ sym c.room_for_volume.ensures ∙ c.if-not-room_for_volume.false) (sym c.room_for_copies.ensures ∙ c.if-not-room_for_copies.true)

pub returns : goal.returns
returns c = all_room (volumes_in c.args.volumes.now) (logs_in c.args.commits.now c.args.checkpoints.now c.args.index.now) (left_says c.args.left) (ids c.args.vid c.args.local c.args.remote) (sym c.copy_free.ensures ∙ c.if-not-copy_free.false) (ap (λ (v : Volume). fits (store volume_key bytes v (volumes_in c.args.volumes.now))) (sym c.new_volume-v.ensures.0) ∙ sym c.room_for_volume.ensures ∙ c.if-not-room_for_volume.false) (sym c.room_for_copies.ensures ∙ c.if-not-room_for_copies.false)
