-- The first that is not formed decides: the volumes, then the three tables of commits; and else the presence does.
use Rattle.std.proofs.Common.{sym, ◌∙◌}
use Rattle.rules.proofs.TableLaws.{and_both}
use Rattle.layout.proofs.PlaceLaws.{stops, goes_on}
use Rattle.savecalls.specs.Saving.{save_ok}
use Rattle.savecalls.proofs.tables_formed.Goals as goal

pub returns-then-not-volumes_formed : goal.returns-then-not-volumes_formed
unfolding save_ok
returns-then-not-volumes_formed c = stops _ (sym (stops _ (sym c.volumes_formed.ensures ∙ c.if-not-volumes_formed.true)))

pub returns-then-not-logs_formed : goal.returns-then-not-logs_formed
unfolding save_ok
returns-then-not-logs_formed c =
    stops _ (sym (goes_on _ _ (sym c.volumes_formed.ensures ∙ c.if-not-volumes_formed.false) (sym (sym c.logs_formed.ensures ∙ c.if-not-logs_formed.true))))

pub returns : goal.returns
unfolding save_ok
returns c =
    goes_on _ _
    (and_both (sym c.volumes_formed.ensures ∙ c.if-not-volumes_formed.false) (sym c.logs_formed.ensures ∙ c.if-not-logs_formed.false))
    c.presence_formed.ensures
