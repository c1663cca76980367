-- A difference of numbers ends at 0. Assumes nothing.
use native.Mathlib.Omega.{arith}
use Rattle.basics.specs.Numbers.{prev_count}
use Rattle.basics.proofs.page_count.PageCount.saturating_decr.Goals as goal

pub returns : goal.returns
unfolding prev_count
returns c = omega arith
