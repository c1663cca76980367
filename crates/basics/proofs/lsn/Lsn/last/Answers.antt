-- The number is the definition. Assumes nothing.
use mathlib.Core.Path.{refl}
use Rattle.basics.specs.Numbers.{last_lsn}
use Rattle.basics.proofs.lsn.Lsn.last.Goals as goal

pub returns : goal.returns
unfolding last_lsn
returns c = refl
