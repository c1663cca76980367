-- 20 where the table is not formed; else whether the lookup found the volume.
use Rattle.std.proofs.Common.{sym, ap, ◌∙◌}
use mathlib.Core.Option.{Option}
use Rattle.basics.specs.Answers.{done}
use Rattle.layout.proofs.LentLaws.{lent_no}
use Rattle.rules.specs.Records.{Volume}
use Rattle.rules.specs.Lists.{is_some}
use Rattle.volumecalls.proofs.Ends.{here, nowhere, exists_is}
use Rattle.rows.proofs.Finds.{row_nth}
use Rattle.rows.proofs.Tables.{volumes}
use Rattle.table.proofs.Ends.{at_in}
use Rattle.volumecalls.proofs.volume_exists.Goals as goal

pub returns-then-not-volumes_formed : goal.returns-then-not-volumes_formed
returns-then-not-volumes_formed c = sym (lent_no _ _ (sym c.volumes_formed.ensures ∙ c.if-not-volumes_formed.true))

pub find_volume-requires : goal.find_volume-requires
find_volume-requires c = (sym c.volumes_formed.ensures ∙ c.if-not-volumes_formed.false)

pub returns-in-Ok : goal.returns-in-Ok
returns-in-Ok c = sym (exists_is c.args.volumes.now c.args.vid (sym c.volumes_formed.ensures ∙ c.if-not-volumes_formed.false) ∙ ap (λ (o : Option Volume). done (is_some o)) (sym (here c.args.volumes.now c.args.vid (sym c.volumes_formed.ensures ∙ c.if-not-volumes_formed.false) _ _ c.find_volume.ensures.says c.in-Ok.is) ∙ row_nth volumes c.args.volumes.now _ (at_in 117 17 c.args.volumes.now _ _ _ c.find_volume.ensures.place c.in-Ok.is)))

pub returns-in-Err : goal.returns-in-Err
returns-in-Err c = sym (exists_is c.args.volumes.now c.args.vid (sym c.volumes_formed.ensures ∙ c.if-not-volumes_formed.false) ∙ ap (λ (o : Option Volume). done (is_some o)) (nowhere c.args.volumes.now c.args.vid (sym c.volumes_formed.ensures ∙ c.if-not-volumes_formed.false) _ _ c.find_volume.ensures.says c.in-Err.is))
