-- The record is the definition. Assumes nothing.
use Rattle.std.proofs.Common.{refl}
use Rattle.arguments.specs.Args.{not_aset}
use Rattle.arguments.proofs.sets.not_a_set.Goals as goal

pub returns : goal.returns
unfolding not_aset
returns c = refl
