-- `texts::starts_with` meets its contract. The invariant: the text begins with the key exactly if what is left of it begins with what is left of the key. The measure: what is left of the key. Assumes nothing.
use Rattle.std.proofs.Common.{◌-◌, drop, sym, refl, ◌∙◌, arith, rules}
use Rattle.callline.proofs.TextLaws.{starts_short, starts_step, starts_differs, starts_end}
use Rattle.callline.proofs.texts.starts_with.Goals as goal

pub returns-then-s-key : goal.returns-then-s-key
returns-then-s-key c = let s = c.args.s.now in let key = c.args.key.now in sym (starts_short key s (search rules))

pub loop-i-init : goal.loop-i-init
loop-i-init c = (search rules, search rules, refl)

pub returns-then-s-i : goal.returns-then-s-i
returns-then-s-i c = let s = c.args.s.now in let key = c.args.key.now in let i = c.loop-i.i in sym (c.loop-i.invariant.2 ∙ starts_differs key s i (omega arith) (omega arith) c.if-s-i.true)

pub loop-i-preserved : goal.loop-i-preserved
loop-i-preserved c = let s = c.args.s.now in let key = c.args.key.now in let i = c.loop-i.i in (search rules, search rules, c.loop-i.invariant.2 ∙ starts_step key s i (omega arith) (omega arith) c.if-s-i.false)

pub returns : goal.returns
returns c = let s = c.args.s.now in let key = c.args.key.now in let i = c.loop-i.i in sym (c.loop-i.invariant.2 ∙ starts_end key (drop i s) i (omega arith))
