-- No set has page 0, so the pages from 1 to n are those up to n. Assumes nothing.
use Rattle.std.proofs.Common.{◌≡◌, ℕ, zero, suc, false, ◌&&◌, leb, arith, le-leb}
use Rattle.pageset.specs.declared.PageSet.{PageSet}
use Rattle.pageset.specs.Sets.{member}
use Rattle.pageset.proofs.FormLaws.{normal_fact}
use Rattle.pageset.proofs.ResultLaws.{set_same}
use Rattle.pageset.proofs.sets.truncate.Goals as goal

from_one : (s : PageSet) → member s 0 ≡ false → (n p : ℕ) → (member s p && (leb 1 p && leb p n)) ≡ (member s p && leb p n)
from_one s z n zero = rw z
from_one s z n (suc p) = rw (le-leb 1 (suc p) (omega arith))

pub returns : goal.returns
returns c = let s = c.args.s in set_same _ _ _ (from_one s (normal_fact s c.requires).no_zero c.args.n.0) c.selected.ensures
