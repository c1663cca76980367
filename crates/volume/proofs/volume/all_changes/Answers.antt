-- Both ways out are clauses of the rule. Assumes nothing.
use Rattle.rules.specs.Sync.{changed}
use Rattle.volume.proofs.volume.all_changes.Goals as goal

pub returns-in-None : goal.returns-in-None
unfolding changed
returns-in-None c = cc

pub returns-in-Some : goal.returns-in-Some
unfolding changed
returns-in-Some c = cc
