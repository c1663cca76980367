-- The rows that are put in are those of the commit's checkpoints: the laws `rows_fit` and `rows_laid`.
use Rattle.std.proofs.Common.{◌∙◌}
use Rattle.rows.proofs.Rows.{formed_well}
use Rattle.writecalls.specs.Written.{commit_in}
use Rattle.rules.specs.Write.{checkpoints_of}
use Rattle.rows.proofs.Tables.{checkpoints}
use Rattle.rules.proofs.Write.{checkpoints_form}
use Rattle.rows.proofs.News.{rows_fit, rows_laid}
use Rattle.writecalls.proofs.Rows.{is_form, few, checkpoint_rows_lem}
use Rattle.writecalls.proofs.put_checkpoints.Goals as goal

pub put_checkpoints-requires : goal.put_checkpoints-requires
put_checkpoints-requires c = record { t_value = formed_well checkpoints c.args.t.now c.requires.t_value.0; n_bound = few c.args.c.now c.requires.t_value.1 c.lsns_number-n.result c.lsns_read-ns.result c.lsns_number-n.ensures c.lsns_read-ns.ensures; t_value_2 = rows_fit checkpoints c.args.t.now c.requires.t_value.0 (checkpoints_of (commit_in c.args.c.now)) (checkpoints_form (commit_in c.args.c.now) (is_form c.args.c.now c.requires.t_value.1)) _ (checkpoint_rows_lem c.args.c.now c.requires.t_value.1 c.lsns_number-n.result c.lsns_read-ns.result c.lsns_number-n.ensures c.lsns_read-ns.ensures c.commit_log-log.result c.commit_log-log.ensures) ∙ c.requires.t_value_2 }

pub returns : goal.returns
returns c = c.put_checkpoints.ensures ∙ rows_laid checkpoints c.args.t.now c.requires.t_value.0 (checkpoints_of (commit_in c.args.c.now)) (checkpoints_form (commit_in c.args.c.now) (is_form c.args.c.now c.requires.t_value.1)) _ (checkpoint_rows_lem c.args.c.now c.requires.t_value.1 c.lsns_number-n.result c.lsns_read-ns.result c.lsns_number-n.ensures c.lsns_read-ns.ensures c.commit_log-log.result c.commit_log-log.ensures)
