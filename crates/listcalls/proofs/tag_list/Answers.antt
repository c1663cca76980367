-- 20, then the rows of the table, which are its records. Assumes nothing.
use Rattle.std.proofs.Common.{sym, ap, ◌∙◌}
use Rattle.layout.specs.Records.{tag_bytes}
use Rattle.layout.proofs.LentLaws.{lent_no}
use Rattle.rows.proofs.Tables.{tags}
use Rattle.resultlists.specs.Lists.{list_left}
use Rattle.resultlists.proofs.AnswerLaws.{left_refused}
use Rattle.listcalls.proofs.TableLaws.{rows_ready, rows_left, tags_listed}
use Rattle.listcalls.proofs.tag_list.Goals as goal

pub returns-then-not-tags_formed : goal.returns-then-not-tags_formed
returns-then-not-tags_formed c = left_refused tag_bytes _ _ _ 20 (lent_no _ _ (sym c.tags_formed.ensures ∙ c.if-not-tags_formed.true))

pub put_rows-requires : goal.put_rows-requires
put_rows-requires c = rows_ready tags _ (sym c.tags_formed.ensures ∙ c.if-not-tags_formed.false)

pub returns : goal.returns
returns c =
    let ok = sym c.tags_formed.ensures ∙ c.if-not-tags_formed.false in
    c.put_rows.ensures ∙ rows_left tags _ ok _ _ ∙ ap (list_left tag_bytes c.args.list.now c.args.items.now) (sym (tags_listed _ _ ok))
