-- What is done of the masks, with what the others that are left make of the rest, is what all others make of all masks.
use Prim.Native.Nat.{ℕ, ◌-◌}
use mathlib.Core.Path.{◌≡◌, sym, ap, ◌∙◌}
use native.Mathlib.Omega.{arith}
use Rattle.masks.specs.Masks.{more_masks}
use Rattle.masks.proofs.MaskLaws.{more_done, more_turn}
use Rattle.masks.proofs.more.Goals as goal

pub loop-i-init : goal.loop-i-init
loop-i-init c =
    let e : c.args.n - 0 ≡ c.args.n = omega arith in
    ap (λ (k : ℕ). more_masks k c.args.masks.now c.args.others.now) e

pub loop-i-preserved : goal.loop-i-preserved
loop-i-preserved c =
    let a = c.args in
    let l = c.loop-i in
    more_turn a.n a.others.now l.i l.masks (omega arith) (omega arith) (omega arith) ∙ l.invariant

pub returns : goal.returns
returns c = sym (more_done c.args.n c.args.others.now c.loop-i.i c.loop-i.masks (omega arith)) ∙ c.loop-i.invariant
