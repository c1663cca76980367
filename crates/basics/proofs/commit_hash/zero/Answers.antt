-- The number of zeros is the definition's. Assumes nothing.
use mathlib.Core.Path.{refl}
use Rattle.basics.specs.Hashes.{zero_hash}
use Rattle.basics.proofs.commit_hash.zero.Goals as goal

pub returns : goal.returns
unfolding zero_hash
returns c = refl
