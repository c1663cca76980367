-- `octets::compare_bytes` meets its contract. The invariant: the first i bytes are the same.
use native.Mathlib.Omega.{arith}
use mathlib.Core.Path.{◌≡◌, refl, sym, ◌∙◌}
use Prim.Native.Nat.{◌+◌}
use Rattle.octets.specs.Bytes.{part, AreBytes}
use Rattle.octets.specs.Order.{order, lex}
use Rattle.std.proofs.Common.{Less, Greater}
use Rattle.octets.proofs.Orders.{order_less, order_equal, order_greater}
use Rattle.octets.proofs.Turns.{no_bytes, decided, by_word}
use Rattle.octets.proofs.compare_bytes.Goals as goal

pub loop-i-init : goal.loop-i-init
loop-i-init c = no_bytes c.args.a.now c.args.b.now c.args.at c.args.bt

pub returns-then-x-y : goal.returns-then-x-y
returns-then-x-y c =
    -- after i bytes that are the same, those up to i + 1 stand as the next byte
    let byte : let a = c.args in let i = c.loop-i.i in lex (part a.at (i + 1) a.a.now) (part a.bt (i + 1) a.b.now) ≡ order c.load8-x.result c.load8-y.result = let a = c.args in
    let p : AreBytes a.a.now = λ j. omega (arith, c.type_inv.a j) in
    let q : AreBytes a.b.now = λ j. omega (arith, c.type_inv.b j) in
    let l = c.loop-i in
    by_word a.a.now a.b.now a.at a.bt p q l.i 1 _ _ (omega arith) (omega arith) l.invariant c.load8-x.ensures c.load8-y.ensures in
    let a = c.args in
    let i = c.loop-i.i in
    sym (decided a.a.now a.b.now a.at a.bt (i + 1) a.n Less (omega arith) (omega arith) (omega arith) (byte ∙ order_less _ _ c.if-x-y.true) refl)

pub returns-then-y-x : goal.returns-then-y-x
returns-then-y-x c =
    let byte : let a = c.args in let i = c.loop-i.i in lex (part a.at (i + 1) a.a.now) (part a.bt (i + 1) a.b.now) ≡ order c.load8-x.result c.load8-y.result = let a = c.args in
    let p : AreBytes a.a.now = λ j. omega (arith, c.type_inv.a j) in
    let q : AreBytes a.b.now = λ j. omega (arith, c.type_inv.b j) in
    let l = c.loop-i in
    by_word a.a.now a.b.now a.at a.bt p q l.i 1 _ _ (omega arith) (omega arith) l.invariant c.load8-x.ensures c.load8-y.ensures in
    let a = c.args in
    let i = c.loop-i.i in
    sym (decided a.a.now a.b.now a.at a.bt (i + 1) a.n Greater (omega arith) (omega arith) (omega arith) (byte ∙ order_greater _ _ c.if-y-x.true) refl)

pub loop-i-preserved : goal.loop-i-preserved
loop-i-preserved c =
    let byte : let a = c.args in let i = c.loop-i.i in lex (part a.at (i + 1) a.a.now) (part a.bt (i + 1) a.b.now) ≡ order c.load8-x.result c.load8-y.result = let a = c.args in
    let p : AreBytes a.a.now = λ j. omega (arith, c.type_inv.a j) in
    let q : AreBytes a.b.now = λ j. omega (arith, c.type_inv.b j) in
    let l = c.loop-i in
    by_word a.a.now a.b.now a.at a.bt p q l.i 1 _ _ (omega arith) (omega arith) l.invariant c.load8-x.ensures c.load8-y.ensures in
    byte ∙ order_equal _ _ (omega arith)

pub returns : goal.returns
returns c =
    let l = c.loop-i in
    let e : l.i ≡ c.args.n = omega arith in
    sym (rw e at l.invariant)
