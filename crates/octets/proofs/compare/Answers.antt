-- `octets::compare` meets its contract. The invariant: the words so far are the same.
use native.Mathlib.Omega.{arith}
use mathlib.Core.Path.{◌≡◌, sym, ◌∙◌}
use Prim.Native.Nat.{◌+◌, ◌-◌, ◌*◌, ◌%◌}
use Rattle.octets.specs.Bytes.{AreBytes}
use Rattle.octets.specs.Order.{order}
use Rattle.octets.proofs.Orders.{order_equal, order_differs}
use Rattle.octets.proofs.Turns.{no_bytes, decided, rest, by_word}
use Rattle.octets.proofs.compare.Goals as goal

pub loop-word-init : goal.loop-word-init
loop-word-init c = no_bytes c.args.a.now c.args.b.now c.args.at c.args.bt

pub returns-then-x-y : goal.returns-then-x-y
returns-then-x-y c =
    let a = c.args in
    let l = c.loop-word in
    let p : AreBytes a.a.now = λ j. omega (arith, c.type_inv.a j) in
    let q : AreBytes a.b.now = λ j. omega (arith, c.type_inv.b j) in
    let w = by_word a.a.now a.b.now a.at a.bt p q (8 * l.word) 8 _ _ (omega arith) (omega arith) l.invariant c.load64-x.ensures c.load64-y.ensures in
    c.compare_numbers.ensures ∙ sym (decided a.a.now a.b.now a.at a.bt (8 * l.word + 8) a.n (order c.load64-x.result c.load64-y.result) (omega arith) (omega arith) (omega arith) w (order_differs _ _ c.if-x-y.true))

pub loop-word-preserved : goal.loop-word-preserved
loop-word-preserved c =
    let a = c.args in
    let l = c.loop-word in
    let p : AreBytes a.a.now = λ j. omega (arith, c.type_inv.a j) in
    let q : AreBytes a.b.now = λ j. omega (arith, c.type_inv.b j) in
    let w = by_word a.a.now a.b.now a.at a.bt p q (8 * l.word) 8 _ _ (omega arith) (omega arith) l.invariant c.load64-x.ensures c.load64-y.ensures in
    let e : 8 * (l.word + 1) ≡ 8 * l.word + 8 = omega arith in
    rw e (w ∙ order_equal _ _ c.if-x-y.false)

pub returns : goal.returns
returns c =
    let a = c.args in
    let l = c.loop-word in
    let e : 8 * l.word ≡ a.n - a.n % 8 = omega arith in
    let d : a.n - (a.n - a.n % 8) ≡ a.n % 8 = omega arith in
    c.compare_bytes.ensures ∙ (rw d at (rest a.a.now a.b.now a.at a.bt (a.n - a.n % 8) a.n (omega arith) (omega arith) (omega arith) (rw e at l.invariant)))
