-- Named again in its list or by a later commit it does not count; else the table decides.
use Rattle.std.proofs.Common.{sym, ◌∙◌, arith, rules}
use Rattle.rules.specs.Walk.{path_commits}
use Rattle.layout.specs.Tables.{commits_in, checkpoints_in}
use Rattle.rows.proofs.Rows.{formed_well}
use Rattle.rows.proofs.Tables.{checkpoints}
use Rattle.commitbytes.specs.Laid.{lsns_at}
use Rattle.paths.specs.Left.{left_says}
use Rattle.copies.proofs.RoomLaws.{named_again, named_later, table_decides}
use Rattle.copies.proofs.Counting.{lacking_is}
use Rattle.copies.proofs.room.new_checkpoint.Goals as goal

pub returns-then-listed_at : goal.returns-then-listed_at
returns-then-listed_at c =
    named_again c.args.log c.args.lsn (lsns_at c.args.m c.args.at c.args.commits.now) (path_commits (commits_in c.args.commits.now) (left_says c.args.left)) (checkpoints_in c.args.checkpoints.now).rows
    (sym c.listed_at.ensures ∙ c.if-listed_at.true)

pub listed_later-requires : goal.listed_later-requires
listed_later-requires c = record { commits_value = (c.requires.commits_value.0, c.requires.is_left.0); n_value = c.requires.is_left.1 }

pub returns-then-listed_later : goal.returns-then-listed_later
returns-then-listed_later c =
    named_later c.args.log c.args.lsn (lsns_at c.args.m c.args.at c.args.commits.now) (path_commits (commits_in c.args.commits.now) (left_says c.args.left)) (checkpoints_in c.args.checkpoints.now).rows
    (sym c.listed_at.ensures ∙ c.if-listed_at.false) (sym c.listed_later.ensures ∙ c.if-listed_later.true)

pub lacking-requires : goal.lacking-requires
lacking-requires c = record { stride_nonzero = (omega arith, omega arith, search rules); t_value = formed_well checkpoints c.args.checkpoints.now c.requires.commits_value.1 }

pub returns : goal.returns
returns c =
    lacking_is c.args.checkpoints.now c.requires.commits_value.1 c.args.log (search rules) c.args.lsn (search rules) _ c.log_key-key.ensures c.lacking.result c.lacking.ensures.0
    ∙ table_decides c.args.log c.args.lsn (lsns_at c.args.m c.args.at c.args.commits.now) (path_commits (commits_in c.args.commits.now) (left_says c.args.left)) (checkpoints_in c.args.checkpoints.now).rows
    (sym c.listed_at.ensures ∙ c.if-listed_at.false) (sym c.listed_later.ensures ∙ c.if-listed_later.false)
