-- What is done of the masks, with what the windows that are left make of the rest, is what all windows make of all masks. The lower first window of the two sets is passed; two of one index take the one's pages
-- from the other's mask. The measure is the windows that are left of both.
use Prim.Native.Nat.{◌+◌, ◌-◌, ◌*◌}
use mathlib.Core.Path.{◌≡◌, refl, sym, ap, ◌∙◌}
use native.Mathlib.Omega.{arith}
use lib.Bits.{bit_and}
use lib.ListN.{get_or, length-set}
use Rattle.octets.specs.Bytes.{be, part}
use Rattle.rules.specs.Pages.{without}
use Rattle.masks.proofs.MaskLaws.{less_done, less_over, less_lower, less_same, less_higher, and_not_lem}
use Rattle.masks.proofs.less.Goals as goal

pub loop-i-init : goal.loop-i-init
loop-i-init c = (omega arith, omega arith, omega arith, refl)

pub returns-then-m-j : goal.returns-then-m-j
returns-then-m-j c =
    let l = c.loop-i in
    sym (less_over c.args.n c.args.at c.args.m c.args.other c.args.s.now l.i l.j l.masks c.if-m-j.true) ∙ l.invariant.3

pub loop-i-preserved-then-x-y : goal.loop-i-preserved-then-x-y
loop-i-preserved-then-x-y c =
    let l = c.loop-i in
    (omega arith, omega arith, l.invariant.2, less_lower c.args.n c.args.at c.args.m c.args.other c.args.s.now l.i l.j l.masks c.requires.s_value.0 c.requires.s_value.1 (omega arith) (omega arith) (omega arith) (omega (arith, c.load32-x.ensures, c.load32-y.ensures)) ∙ l.invariant.3)

pub loop-i-preserved-then-x-y-2 : goal.loop-i-preserved-then-x-y-2
loop-i-preserved-then-x-y-2 c =
    let l = c.loop-i in
    let x = get_or l.masks l.i 0 in
    let y = c.load64.result in
    let e : bit_and x (18446744073709551615 - y) ≡ without x (be (part (c.args.other + l.j * 12 + 4) 8 c.args.s.now)) =
    and_not_lem x y (omega (arith, c.slice_known-then-x-y-2-1.given l.i)) (omega arith) ∙ ap (without x) c.load64.ensures in (
      omega arith,
      omega arith,
      simp length-set l.invariant.2,
      less_same c.args.n c.args.at c.args.m c.args.other c.args.s.now l.i l.j l.masks c.requires.s_value.0 c.requires.s_value.1 (omega arith) (omega arith) (omega arith) (bit_and x (18446744073709551615 - y)) (omega (arith, c.load32-x.ensures, c.load32-y.ensures)) e ∙ l.invariant.3,
    )

pub loop-i-preserved : goal.loop-i-preserved
loop-i-preserved c =
    let l = c.loop-i in
    (omega arith, omega arith, l.invariant.2, less_higher c.args.n c.args.at c.args.m c.args.other c.args.s.now l.i l.j l.masks c.requires.s_value.0 c.requires.s_value.1 (omega arith) (omega arith) (omega arith) (omega (arith, c.load32-x.ensures, c.load32-y.ensures)) ∙ l.invariant.3)

pub returns : goal.returns
returns c =
    let l = c.loop-i in
    sym (less_done c.args.n c.args.at c.args.m c.args.other c.args.s.now l.i l.j l.masks (omega arith)) ∙ l.invariant.3
