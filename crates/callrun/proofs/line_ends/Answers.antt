-- The step prints at most 84 bytes, and there is room for 96.
use Rattle.std.proofs.Common.{arith}
use Rattle.callrun.proofs.Short.{printed_short}
use Rattle.callrun.proofs.line_ends.Goals as goal

pub overflow_add-result : goal.overflow_add-result
overflow_add-result g c = omega (arith, (printed_short _ _ _ _ _ _ _ c.step_printed-n.ensures), c.in_ok-at.ensures)

pub returns : goal.returns
returns g c = omega (arith, (printed_short _ _ _ _ _ _ _ c.step_printed-n.ensures), c.in_ok-at.ensures)
