-- Room for all is room for each of the three stores, and each leaves its table of the write.
use Rattle.std.proofs.Common.{◌∙◌, arith}
use Rattle.rows.proofs.Rows.{formed_well}
use Rattle.rows.proofs.Tables.{commits}
use Rattle.writecalls.proofs.Writes.{commit_fits, commit_laid_lem, commit_room, checkpoints_room, entries_room, written}
use Rattle.writecalls.proofs.write_fresh.Goals as goal

pub put-requires : goal.put-requires
put-requires c = record { stride_nonzero = (omega arith, omega arith, c.requires.commit.0); t_value = formed_well commits c.args.commits.now c.requires.commits_value.0; t_value_2 = commit_fits c.args.commits.now c.args.c.now c.requires.commits_value.0 c.requires.commit ∙ commit_room c.args.commits.now c.args.checkpoints.now c.args.index.now c.args.c.now c.requires.c_value }

pub put_checkpoints-requires : goal.put_checkpoints-requires
put_checkpoints-requires c = record { t_value = (c.requires.commits_value.1, c.requires.commit); t_value_2 = checkpoints_room c.args.commits.now c.args.checkpoints.now c.args.index.now c.args.c.now c.requires.c_value }

pub put_entries-requires : goal.put_entries-requires
put_entries-requires c = record { t_value = (c.requires.commits_value.2, c.requires.commit); t_value_2 = entries_room c.args.commits.now c.args.checkpoints.now c.args.index.now c.args.c.now c.requires.c_value; fresh_value = c.requires.fresh_value }

pub returns : goal.returns
returns c = let whole = written c.args.commits.now c.args.checkpoints.now c.args.index.now c.args.c.now _ _ _ (c.put.ensures ∙ commit_laid_lem c.args.commits.now c.args.c.now c.requires.commits_value.0 c.requires.commit) c.put_checkpoints.ensures c.put_entries.ensures in
    record { commits_after = whole.0; checkpoints_after = whole.1.0; index_after = whole.1.1 }
