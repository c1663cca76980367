-- The rows that are counted are those of the commit's entries, and as many are new in bytes as in the rules.
use Rattle.rows.proofs.Rows.{formed_well}
use Rattle.rows.proofs.Tables.{index}
use Rattle.writecalls.proofs.Rows.{set_normal}
use Rattle.copies.proofs.Counting.{entries_counted}
use Rattle.copies.proofs.room.new_entries_of.Goals as goal

pub count_entries-requires : goal.count_entries-requires
count_entries-requires c = record { t_value = formed_well index c.args.index.now c.requires.0; set_value = set_normal c.args.c.now c.requires.1 c.commit_pages-set.result c.commit_pages-set.ensures }

pub returns : goal.returns
returns c = entries_counted c.args.c.now c.requires.1 c.args.index.now c.requires.0 c.commit_pages-set.result c.commit_pages-set.ensures c.commit_log-log.result c.commit_log-log.ensures c.commit_lsn-lsn.result.0 c.commit_lsn-lsn.ensures c.count_entries.result c.count_entries.ensures
