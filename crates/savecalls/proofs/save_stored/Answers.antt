-- The commit's bytes are those of the rules' commit. Room is asked of the logs and then of the pages; after the stores the commits are formed, and the snapshot is read of them.
use Rattle.std.proofs.Common.{sym, ◌∙◌, arith}
use Rattle.pageset.specs.Sets.{shown}
use Rattle.volume.specs.Volumes.{volume_says}
use Rattle.savecalls.proofs.Stores.{no_logs, no_pages, is_commit, same_room, still_formed, snapshot_formed_lem, leaves}
use Rattle.savecalls.proofs.Ends.{left_alone}
use Rattle.savecalls.proofs.save_stored.Goals as goal

pub write_room-requires : goal.write_room-requires
write_room-requires c = let a = c.args in record { commits_value = (c.requires.commits_value.0, c.requires.commits_value.1, c.requires.commits_value.2); commit = is_commit a.commits.now a.checkpoints.now a.index.now a.presence.now a.out.now (volume_says a.p.volume) a.p.lsn.0 a.count.0 a.sid (shown a.set) c.write_saved.ensures.set_value c.write_saved.new.bytes c.write_saved.ensures.bytes_after }

pub returns-then-not-write_room : goal.returns-then-not-write_room
returns-then-not-write_room c =
    let a = c.args in
    left_alone a.commits.now a.checkpoints.now a.index.now a.presence.now a.out.now _ 19 (no_logs a.commits.now a.checkpoints.now a.index.now a.presence.now a.out.now (volume_says a.p.volume) a.p.lsn.0 a.count.0 a.sid (shown a.set) (sym (c.if-not-write_room.true) ∙ c.write_room.ensures ∙ same_room a.commits.now a.checkpoints.now a.index.now a.presence.now a.out.now (volume_says a.p.volume) a.p.lsn.0 a.count.0 a.sid (shown a.set) c.write_saved.ensures.set_value c.write_saved.new.bytes c.write_saved.ensures.bytes_after))

pub returns-then-not-room_for_pages : goal.returns-then-not-room_for_pages
returns-then-not-room_for_pages c =
    let a = c.args in
    left_alone a.commits.now a.checkpoints.now a.index.now a.presence.now a.out.now _ 19 (no_pages a.commits.now a.checkpoints.now a.index.now a.presence.now a.out.now (volume_says a.p.volume) a.p.lsn.0 a.count.0 a.sid (shown a.set) (sym (c.if-not-write_room.false) ∙ c.write_room.ensures ∙ same_room a.commits.now a.checkpoints.now a.index.now a.presence.now a.out.now (volume_says a.p.volume) a.p.lsn.0 a.count.0 a.sid (shown a.set) c.write_saved.ensures.set_value c.write_saved.new.bytes c.write_saved.ensures.bytes_after) (sym (c.if-not-room_for_pages.true) ∙ c.room_for_pages.ensures))

pub write_stored-requires : goal.write_stored-requires
write_stored-requires c = let a = c.args in record { commits_value = (c.requires.commits_value.0, c.requires.commits_value.1, c.requires.commits_value.2); commit = is_commit a.commits.now a.checkpoints.now a.index.now a.presence.now a.out.now (volume_says a.p.volume) a.p.lsn.0 a.count.0 a.sid (shown a.set) c.write_saved.ensures.set_value c.write_saved.new.bytes c.write_saved.ensures.bytes_after; c_value = sym c.write_room.ensures ∙ c.if-not-write_room.false }

pub put_pages-requires : goal.put_pages-requires
put_pages-requires c = record { t_value = (c.requires.commits_value.3, c.requires.volume_value.2); t_value_2 = c.requires.presence_value.0; t_value_3 = sym c.room_for_pages.ensures ∙ c.if-not-room_for_pages.false }

pub snapshot_of-requires : goal.snapshot_of-requires
snapshot_of-requires c =
    let a = c.args in
    still_formed a.commits.now a.checkpoints.now a.index.now a.presence.now a.out.now (volume_says a.p.volume) a.p.lsn.0 a.count.0 a.sid (shown a.set) c.write_saved.ensures.set_value c.write_saved.new.bytes c.write_saved.ensures.bytes_after c.requires.commits_value.0 (sym (c.if-not-write_room.false) ∙ c.write_room.ensures ∙ same_room a.commits.now a.checkpoints.now a.index.now a.presence.now a.out.now (volume_says a.p.volume) a.p.lsn.0 a.count.0 a.sid (shown a.set) c.write_saved.ensures.set_value c.write_saved.new.bytes c.write_saved.ensures.bytes_after) _ c.write_stored.ensures.commits_after

pub snapshot_write-requires : goal.snapshot_write-requires
snapshot_write-requires c =
    let a = c.args in
    (omega (arith, c.requires.presence_value.1), snapshot_formed_lem a.commits.now a.checkpoints.now a.index.now a.presence.now a.out.now (volume_says a.p.volume) a.p.lsn.0 a.count.0 a.sid (shown a.set) c.write_saved.ensures.set_value c.write_saved.new.bytes c.write_saved.ensures.bytes_after c.requires.commits_value.0 (sym (c.if-not-write_room.false) ∙ c.write_room.ensures ∙ same_room a.commits.now a.checkpoints.now a.index.now a.presence.now a.out.now (volume_says a.p.volume) a.p.lsn.0 a.count.0 a.sid (shown a.set) c.write_saved.ensures.set_value c.write_saved.new.bytes c.write_saved.ensures.bytes_after) _ c.write_stored.ensures.commits_after c.snapshot_of.result c.snapshot_of.ensures)

pub returns : goal.returns
returns c =
    let a = c.args in
    leaves a.commits.now a.checkpoints.now a.index.now a.presence.now a.out.now (volume_says a.p.volume) a.p.lsn.0 a.count.0 a.sid (shown a.set) c.write_saved.ensures.set_value c.write_saved.new.bytes c.write_saved.ensures.bytes_after c.requires.commits_value.0 (sym (c.if-not-write_room.false) ∙ c.write_room.ensures ∙ same_room a.commits.now a.checkpoints.now a.index.now a.presence.now a.out.now (volume_says a.p.volume) a.p.lsn.0 a.count.0 a.sid (shown a.set) c.write_saved.ensures.set_value c.write_saved.new.bytes c.write_saved.ensures.bytes_after) _ c.write_stored.ensures.commits_after c.snapshot_of.result c.snapshot_of.ensures _ _ _ _ c.requires.presence_value.1 (sym (c.if-not-room_for_pages.false) ∙ c.room_for_pages.ensures) c.write_stored.ensures.checkpoints_after c.write_stored.ensures.index_after c.put_pages.ensures c.snapshot_write.ensures.s_after c.snapshot_write.ensures.snapshot_len
