-- The first table that is not formed decides, and else the index does.
use Rattle.std.proofs.Common.{sym, ◌∙◌}
use Rattle.rules.proofs.TableLaws.{and_both}
use Rattle.layout.proofs.PlaceLaws.{stops, goes_on}
use Rattle.writecalls.specs.Written.{logs_ok}
use Rattle.writecalls.proofs.logs_formed.Goals as goal

pub returns-then-not-commits_formed : goal.returns-then-not-commits_formed
unfolding logs_ok
returns-then-not-commits_formed c = stops _ (sym (stops _ (sym c.commits_formed.ensures ∙ c.if-not-commits_formed.true)))

pub returns-then-not-checkpoints_formed : goal.returns-then-not-checkpoints_formed
unfolding logs_ok
returns-then-not-checkpoints_formed c =
    stops _ (sym (goes_on _ _ (sym c.commits_formed.ensures ∙ c.if-not-commits_formed.false) (sym (sym c.checkpoints_formed.ensures ∙ c.if-not-checkpoints_formed.true))))

pub returns : goal.returns
unfolding logs_ok
returns c =
    goes_on _ _
    (and_both (sym c.commits_formed.ensures ∙ c.if-not-commits_formed.false) (sym c.checkpoints_formed.ensures ∙ c.if-not-checkpoints_formed.false))
    c.index_formed.ensures
