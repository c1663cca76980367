-- The number is the definition. Assumes nothing.
use mathlib.Core.Path.{refl}
use Rattle.basics.specs.Numbers.{last_page}
use Rattle.basics.proofs.pageidx.PageIdx.last.Goals as goal

pub returns : goal.returns
unfolding last_page
returns c = refl
