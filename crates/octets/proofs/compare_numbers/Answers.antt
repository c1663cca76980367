-- `octets::compare_numbers` meets its contract: the definition goes by the same two tests.
use native.Mathlib.Omega.{arith}
use mathlib.Core.Path.{sym}
use Rattle.octets.proofs.Orders.{order_less, order_equal, order_greater}
use Rattle.octets.proofs.compare_numbers.Goals as goal

pub returns-then-x-y : goal.returns-then-x-y
returns-then-x-y c = sym (order_less _ _ c.if-x-y.true)

pub returns-then-y-x : goal.returns-then-y-x
returns-then-y-x c = sym (order_greater _ _ c.if-y-x.true)

pub returns : goal.returns
returns c = sym (order_equal _ _ (omega arith))
