-- `pagesdown::take_last` meets its contract: the highest bit of a mask that is not 0 is within the mask, and is the window's last page.
use native.Mathlib.Omega.{arith}
use Rattle.pagesdown.proofs.LastLaws.{bit_small, bit_reach, taken}
use Rattle.pagesdown.proofs.take_last.Goals as goal

pub overflow_sub-b : goal.overflow_sub-b
overflow_sub-b c = omega (arith, (bit_small c.args.w c.requires.0 (omega arith)).0)

pub overflow_sub-rest : goal.overflow_sub-rest
overflow_sub-rest c = bit_reach c.args.w c.requires.0 (omega arith)

pub returns : goal.returns
returns c = taken c.args.w c.requires.0 (omega arith)
