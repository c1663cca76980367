-- The rows that are counted are those of the commit's checkpoints, so room for the new ones is room for the store.
use Rattle.rows.proofs.Rows.{formed_well}
use Rattle.writecalls.specs.Written.{commit_in}
use Rattle.rules.specs.Write.{checkpoints_of}
use Rattle.rows.proofs.Tables.{checkpoints}
use Rattle.rules.proofs.Write.{checkpoints_form}
use Rattle.rows.proofs.News.{ready, rows_room}
use Rattle.writecalls.proofs.Rows.{is_form, few, checkpoint_rows_lem}
use Rattle.writecalls.proofs.room_for_checkpoints.Goals as goal

pub count_checkpoints-more-requires : goal.count_checkpoints-more-requires
count_checkpoints-more-requires c = record { t_value = formed_well checkpoints c.args.t.now c.requires.0; n_bound = few c.args.c.now c.requires.1 c.lsns_number-n.result c.lsns_read-ns.result c.lsns_number-n.ensures c.lsns_read-ns.ensures }

pub room_for-requires : goal.room_for-requires
room_for-requires c = ready checkpoints c.args.t.now c.requires.0

pub returns : goal.returns
returns c = rows_room checkpoints c.args.t.now c.requires.0 (checkpoints_of (commit_in c.args.c.now)) (checkpoints_form (commit_in c.args.c.now) (is_form c.args.c.now c.requires.1)) _ (checkpoint_rows_lem c.args.c.now c.requires.1 c.lsns_number-n.result c.lsns_read-ns.result c.lsns_number-n.ensures c.lsns_read-ns.ensures c.commit_log-log.result c.commit_log-log.ensures) c.room_for.result c.count_checkpoints-more.result c.count_checkpoints-more.ensures c.room_for.ensures
