-- `digits` meets its contract. The invariant: the digits of what is left of the number, with those at the end of the bytes, are its decimal, and there is room for them. The measure: what is left of the number. Assumes nothing.
use native.Mathlib.Omega.{arith}
use mathlib.Core.Path.{◌≡◌, refl, sym, ◌∙◌}
use Prim.Native.Nat.{suc, ◌-◌}
use lib.ListN.{length-set}
use Rattle.calltext.proofs.DigitLaws.{turn, last_digit, two_left, tenth, none_yet}
use Rattle.calltext.proofs.digits.Goals as goal

pub loop-rest-init : goal.loop-rest-init
loop-rest-init c = (omega arith, omega arith, omega arith, refl, none_yet (c).args.n)

pub loop-rest-preserved : goal.loop-rest-preserved
loop-rest-preserved c = let l = c.loop-rest in let e : l.at ≡ suc (l.at - 1) = omega arith in (omega (arith, two_left l.at l.rest l.invariant.2 (omega arith)), omega arith, tenth l.at (l.at - 1) l.rest e l.invariant.2, simp length-set l.invariant.3, sym (turn l.at (l.at - 1) l.rest l.bytes e (omega arith) (omega arith)) ∙ l.invariant.4)

pub returns : goal.returns
returns c = let l = c.loop-rest in let e : l.at ≡ suc (l.at - 1) = omega arith in (omega arith, sym (last_digit l.at (l.at - 1) l.rest l.bytes e (omega arith) (omega arith)) ∙ l.invariant.4, simp length-set l.invariant.3)
