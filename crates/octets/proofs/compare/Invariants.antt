-- `octets::compare` meets its contract. The invariant: the words so far are the same.
use mathlib.Core.Path.{◌≡◌}
use Prim.Native.Nat.{◌*◌}
use Rattle.octets.specs.Bytes.{part}
use Rattle.octets.specs.Order.{lex}
use Rattle.std.proofs.Common.{Equal}
use Rattle.octets.proofs.compare.Given as goal

abbrev pub invariant-loop-word : goal.invariant-loop-word
invariant-loop-word l = lex (part l.at (8 * l.word) l.a) (part l.bt (8 * l.word) l.b) ≡ Equal
