-- `octets::compare_bytes` meets its contract. The invariant: the first i bytes are the same.
use mathlib.Core.Path.{◌≡◌}
use Rattle.octets.specs.Bytes.{part}
use Rattle.octets.specs.Order.{lex}
use Rattle.std.proofs.Common.{Equal}
use Rattle.octets.proofs.compare_bytes.Given as goal

abbrev pub invariant-loop-i : goal.invariant-loop-i
invariant-loop-i l = lex (part l.at l.i l.a) (part l.bt l.i l.b) ≡ Equal
