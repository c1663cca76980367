-- `digits` meets its contract. The invariant: the digits of what is left of the number, with those at the end of the bytes, are its decimal, and there is room for them. The measure: what is left of the number. Assumes nothing.
use mathlib.Core.Path.{◌≡◌}
use Prim.Native.Nat.{◌-◌, ◌^◌, ◌<◌, ◌≤◌}
use mathlib.Core.List.{◌++◌}
use lib.ListN.{length, drop}
use Rattle.calltext.specs.Output.{digits, decimal}
use Rattle.calltext.proofs.digits.Given as goal

abbrev pub invariant-loop-rest : goal.invariant-loop-rest
invariant-loop-rest l = (0 < l.at) × (l.at ≤ 20) × (l.rest < 10 ^ l.at) × (length l.bytes ≡ 20) × (digits l.at l.rest ++ drop l.at l.bytes ≡ decimal l.n)

abbrev pub decreases-loop-rest : goal.decreases-loop-rest
decreases-loop-rest l = l.rest
