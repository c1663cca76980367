-- `texts::piece_end` meets its contract. The invariant: no byte from the place up to i equals the one sought, so the first that does is as far from i as it is from the place, less what was passed. The measure: what is left of the text. Assumes nothing.
use Rattle.std.proofs.Common.{◌-◌, arith, rules}
use Rattle.callline.proofs.TextLaws.{before_end, before_found, before_step}
use Rattle.callline.proofs.texts.piece_end.Goals as goal

pub returns-then-s-i : goal.returns-then-s-i
returns-then-s-i c = let s = c.args.s.now in let sep = c.args.sep in let i = c.loop-i.i in (omega (arith, before_found sep s i (search rules) c.if-s-i.true, c.loop-i.invariant.2), search rules)

pub loop-i-preserved : goal.loop-i-preserved
loop-i-preserved c = let s = c.args.s.now in let sep = c.args.sep in let i = c.loop-i.i in (search rules, search rules, omega (arith, before_step sep s i (search rules) c.if-s-i.false, c.loop-i.invariant.2))

pub returns : goal.returns
returns c = let s = c.args.s.now in let sep = c.args.sep in let i = c.loop-i.i in (omega (arith, before_end sep s i (search rules), c.loop-i.invariant.2), search rules)
