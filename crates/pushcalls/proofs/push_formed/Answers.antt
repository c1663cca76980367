-- The volumes decide where they are not formed, and else the three tables of commits do.
use Rattle.std.proofs.Common.{sym, ◌∙◌}
use Rattle.layout.proofs.PlaceLaws.{stops, goes_on}
use Rattle.pushcalls.specs.Pushes.{push_ok}
use Rattle.pushcalls.proofs.push_formed.Goals as goal

pub returns-then-not-volumes_formed : goal.returns-then-not-volumes_formed
unfolding push_ok
returns-then-not-volumes_formed c = stops _ (sym c.volumes_formed.ensures ∙ c.if-not-volumes_formed.true)

pub returns : goal.returns
unfolding push_ok
returns c = goes_on _ _ (sym c.volumes_formed.ensures ∙ c.if-not-volumes_formed.false) c.logs_formed.ensures
