-- The rows that are put in are those of the commit's entries: the laws `rows_fit` and `rows_laid`.
use Rattle.std.proofs.Common.{sym, ◌∙◌}
use Rattle.rows.proofs.Rows.{formed_well}
use Rattle.rows.proofs.Tables.{index}
use Rattle.rules.specs.Write.{entries_of}
use Rattle.writecalls.specs.Written.{commit_in}
use Rattle.rules.proofs.Write.{entries_form}
use Rattle.rows.proofs.News.{rows_fit, rows_laid}
use Rattle.writecalls.proofs.Rows.{is_form, set_normal, entry_rows_lem, fresh_is}
use Rattle.writecalls.proofs.put_entries.Goals as goal

pub put_entries-requires : goal.put_entries-requires
put_entries-requires c = record { t_value = formed_well index c.args.t.now c.requires.t_value.0; set_value = set_normal c.args.c.now c.requires.t_value.1 c.commit_pages-set.result c.commit_pages-set.ensures; fresh_value = c.requires.fresh_value ∙ sym (fresh_is c.args.c.now c.requires.t_value.1 c.commit_pages-set.result c.commit_pages-set.ensures c.commit_log-log.result c.commit_log-log.ensures c.commit_lsn-lsn.result.0 c.commit_lsn-lsn.ensures c.args.t.now); t_value_2 = rows_fit index c.args.t.now c.requires.t_value.0 (entries_of (commit_in c.args.c.now)) (entries_form (commit_in c.args.c.now) (is_form c.args.c.now c.requires.t_value.1)) _ (entry_rows_lem c.args.c.now c.requires.t_value.1 c.commit_pages-set.result c.commit_pages-set.ensures c.commit_log-log.result c.commit_log-log.ensures c.commit_lsn-lsn.result.0 c.commit_lsn-lsn.ensures) ∙ c.requires.t_value_2 }

pub returns : goal.returns
returns c = c.put_entries.ensures ∙ rows_laid index c.args.t.now c.requires.t_value.0 (entries_of (commit_in c.args.c.now)) (entries_form (commit_in c.args.c.now) (is_form c.args.c.now c.requires.t_value.1)) _ (entry_rows_lem c.args.c.now c.requires.t_value.1 c.commit_pages-set.result c.commit_pages-set.ensures c.commit_log-log.result c.commit_log-log.ensures c.commit_lsn-lsn.result.0 c.commit_lsn-lsn.ensures)
