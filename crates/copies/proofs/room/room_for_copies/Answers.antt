-- Room is asked table by table: the first that has none decides, and else the checkpoints do.
use Rattle.std.proofs.Common.{sym, ◌∙◌}
use Rattle.rows.proofs.Tables.{commits, checkpoints, index}
use Rattle.rows.proofs.News.{ready}
use Rattle.copies.proofs.Counting.{commits_room, index_room, checkpoints_room, no_commits, no_entries, checkpoints_decide}
use Rattle.copies.proofs.room.room_for_copies.Goals as goal

pub room_for-requires : goal.room_for-requires
room_for-requires c = ready commits c.args.commits.now c.requires.commits_value.0

pub returns-then-not-room_for : goal.returns-then-not-room_for
returns-then-not-room_for c =
    no_commits c.args.commits.now c.args.checkpoints.now c.args.index.now c.requires.commits_value c.args.left c.args.log
    (sym (commits_room c.args.commits.now c.args.checkpoints.now c.args.index.now c.requires.commits_value c.args.left c.args.log c.args.n c.requires.is_left.1 c.requires.is_left.2 c.room_for.result c.room_for.ensures) ∙ c.if-not-room_for.true)

pub new_entries-requires : goal.new_entries-requires
new_entries-requires c = record { commits_value = (c.requires.commits_value.0, c.requires.commits_value.2); is_left = (c.requires.is_left.0, c.requires.is_left.1) }

pub room_for-requires-2 : goal.room_for-requires-2
room_for-requires-2 c = ready index c.args.index.now c.requires.commits_value.2

pub returns-then-not-room_for-2 : goal.returns-then-not-room_for-2
returns-then-not-room_for-2 c =
    no_entries c.args.commits.now c.args.checkpoints.now c.args.index.now c.requires.commits_value c.args.left c.args.log
    (sym (index_room c.args.commits.now c.args.checkpoints.now c.args.index.now c.requires.commits_value c.args.left c.args.log c.new_entries.result c.new_entries.ensures c.room_for-2.result c.room_for-2.ensures) ∙ c.if-not-room_for-2.true)

pub new_checkpoints-requires : goal.new_checkpoints-requires
new_checkpoints-requires c = record { commits_value = (c.requires.commits_value.0, c.requires.commits_value.1); is_left = (c.requires.is_left.0, c.requires.is_left.1) }

pub room_for-requires-3 : goal.room_for-requires-3
room_for-requires-3 c = ready checkpoints c.args.checkpoints.now c.requires.commits_value.1

pub returns : goal.returns
returns c =
    checkpoints_room c.args.commits.now c.args.checkpoints.now c.args.index.now c.requires.commits_value c.args.left c.args.log c.new_checkpoints.result c.new_checkpoints.ensures c.room_for-3.result c.room_for-3.ensures
    ∙ checkpoints_decide c.args.commits.now c.args.checkpoints.now c.args.index.now c.requires.commits_value c.args.left c.args.log
    (sym (commits_room c.args.commits.now c.args.checkpoints.now c.args.index.now c.requires.commits_value c.args.left c.args.log c.args.n c.requires.is_left.1 c.requires.is_left.2 c.room_for.result c.room_for.ensures) ∙ c.if-not-room_for.false)
    (sym (index_room c.args.commits.now c.args.checkpoints.now c.args.index.now c.requires.commits_value c.args.left c.args.log c.new_entries.result c.new_entries.ensures c.room_for-2.result c.room_for-2.ensures) ∙ c.if-not-room_for-2.false)
