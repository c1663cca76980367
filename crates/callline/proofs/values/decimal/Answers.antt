-- `values::decimal` meets its contract. The invariant: n is at most the limit, and what is left of the text, behind the digits of n, gives what the whole text gives. A number above the limit only grows. The measure: what is left of the text. Assumes nothing.
use Rattle.std.proofs.Common.{◌-◌, true, sym, refl, ◌∙◌, arith, rules}
use Rattle.callline.proofs.ValueLaws.{below, above, large, step, spent, led, unled}
use Rattle.callline.proofs.values.decimal.Goals as goal

pub returns-then-not-has_lead : goal.returns-then-not-has_lead
returns-then-not-has_lead c = sym (unled c.args.limit c.args.s.now (sym c.has_lead.ensures ∙ c.if-not-has_lead.true))

pub loop-i-init : goal.loop-i-init
loop-i-init c = (search rules, search rules, sym c.has_lead.ensures ∙ c.if-not-has_lead.false, refl)

pub returns-then-b-lt48 : goal.returns-then-b-lt48
returns-then-b-lt48 c = let l = c.loop-i in let s = c.args.s.now in let k = c.args.limit in sym (led k s l.invariant.2 ∙ l.invariant.3 ∙ below k l.n s l.i (omega arith) (omega arith))

pub returns-then-b-gt57 : goal.returns-then-b-gt57
returns-then-b-gt57 c = let l = c.loop-i in let s = c.args.s.now in let k = c.args.limit in sym (led k s l.invariant.2 ∙ l.invariant.3 ∙ above k l.n s l.i (omega arith) (omega arith))

pub returns-then-limit-digit : goal.returns-then-limit-digit
returns-then-limit-digit c = let l = c.loop-i in let s = c.args.s.now in let k = c.args.limit in sym (led k s l.invariant.2 ∙ l.invariant.3 ∙ large k l.n s l.i (omega arith) (omega arith))

pub returns-then-limit-digit-2 : goal.returns-then-limit-digit-2
returns-then-limit-digit-2 c = let l = c.loop-i in let s = c.args.s.now in let k = c.args.limit in sym (led k s l.invariant.2 ∙ l.invariant.3 ∙ large k l.n s l.i (omega arith) (omega arith))

pub loop-i-preserved : goal.loop-i-preserved
loop-i-preserved c = let l = c.loop-i in let s = c.args.s.now in let k = c.args.limit in (omega arith, omega arith, l.invariant.2, l.invariant.3 ∙ step k l.n s l.i (omega arith) (omega arith) (omega arith))

pub returns : goal.returns
returns c = let l = c.loop-i in let s = c.args.s.now in let k = c.args.limit in sym (led k s l.invariant.2 ∙ l.invariant.3 ∙ spent k l.n s l.i (omega arith) l.invariant.1)
