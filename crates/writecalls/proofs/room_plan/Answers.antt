-- Room is asked table by table: the first that has none decides, and else the index does, by the number of its new entries.
use Rattle.std.proofs.Common.{sym, ◌∙◌}
use Rattle.rows.proofs.Tables.{index}
use Rattle.rows.proofs.News.{ready}
use Rattle.writecalls.proofs.Writes.{fresh_room, no_commit, no_checkpoints, entries_decide, plan_full, plan_room}
use Rattle.writecalls.proofs.room_plan.Goals as goal

pub returns-then-not-room_for_commit : goal.returns-then-not-room_for_commit
returns-then-not-room_for_commit c = plan_full c.args.commits.now c.args.checkpoints.now c.args.index.now c.args.c.now (sym (no_commit c.args.commits.now c.args.checkpoints.now c.args.index.now c.args.c.now (sym c.room_for_commit.ensures ∙ c.if-not-room_for_commit.true))) _

pub returns-then-not-room_for_checkpoints : goal.returns-then-not-room_for_checkpoints
returns-then-not-room_for_checkpoints c = plan_full c.args.commits.now c.args.checkpoints.now c.args.index.now c.args.c.now (sym (no_checkpoints c.args.commits.now c.args.checkpoints.now c.args.index.now c.args.c.now (sym c.room_for_commit.ensures ∙ c.if-not-room_for_commit.false) (sym c.room_for_checkpoints.ensures ∙ c.if-not-room_for_checkpoints.true))) _

pub room_for-requires : goal.room_for-requires
room_for-requires c = ready index c.args.index.now c.requires.commits_value.2

pub returns-then-not-room_for : goal.returns-then-not-room_for
returns-then-not-room_for c = plan_full c.args.commits.now c.args.checkpoints.now c.args.index.now c.args.c.now (sym (entries_decide c.args.commits.now c.args.checkpoints.now c.args.index.now c.args.c.now (sym c.room_for_commit.ensures ∙ c.if-not-room_for_commit.false) (sym c.room_for_checkpoints.ensures ∙ c.if-not-room_for_checkpoints.false)) ∙ sym (fresh_room c.args.index.now c.args.c.now c.requires.commits_value.2 c.requires.commit _ c.fresh_entries-fresh.result c.fresh_entries-fresh.ensures c.room_for.ensures) ∙ c.if-not-room_for.true) _

pub returns : goal.returns
returns c = plan_room c.args.commits.now c.args.checkpoints.now c.args.index.now c.args.c.now (sym (entries_decide c.args.commits.now c.args.checkpoints.now c.args.index.now c.args.c.now (sym c.room_for_commit.ensures ∙ c.if-not-room_for_commit.false) (sym c.room_for_checkpoints.ensures ∙ c.if-not-room_for_checkpoints.false)) ∙ sym (fresh_room c.args.index.now c.args.c.now c.requires.commits_value.2 c.requires.commit _ c.fresh_entries-fresh.result c.fresh_entries-fresh.ensures c.room_for.ensures) ∙ c.if-not-room_for.false) _ c.fresh_entries-fresh.result c.fresh_entries-fresh.ensures
