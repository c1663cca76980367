-- 20, then the rows of the table, which are its records. Assumes nothing.
use Rattle.std.proofs.Common.{sym, ap, ◌∙◌}
use Rattle.layout.specs.Records.{volume_bytes}
use Rattle.layout.proofs.LentLaws.{lent_no}
use Rattle.rows.proofs.Tables.{volumes}
use Rattle.resultlists.specs.Lists.{list_left}
use Rattle.resultlists.proofs.AnswerLaws.{left_refused}
use Rattle.listcalls.proofs.TableLaws.{rows_ready, rows_left, volumes_listed}
use Rattle.listcalls.proofs.volume_list.Goals as goal

pub returns-then-not-volumes_formed : goal.returns-then-not-volumes_formed
returns-then-not-volumes_formed c = left_refused volume_bytes _ _ _ 20 (lent_no _ _ (sym c.volumes_formed.ensures ∙ c.if-not-volumes_formed.true))

pub put_rows-requires : goal.put_rows-requires
put_rows-requires c = rows_ready volumes _ (sym c.volumes_formed.ensures ∙ c.if-not-volumes_formed.false)

pub returns : goal.returns
returns c =
    let ok = sym c.volumes_formed.ensures ∙ c.if-not-volumes_formed.false in
    c.put_rows.ensures ∙ rows_left volumes _ ok _ _ ∙ ap (list_left volume_bytes c.args.list.now c.args.items.now) (sym (volumes_listed _ _ ok))
