-- `with_range` meets its contract: a range that alone needs over 32 windows does so with the set; else the union answers. Assumes nothing.
use Rattle.std.proofs.Common.{Bool, ◌||◌, ap}
use Rattle.pageset.specs.Sets.{member}
use Rattle.pageset.specs.Rules.{within}
use Rattle.callpages.proofs.SubsetLaws.{still_22, its_set, same_pages}
use Rattle.callpages.proofs.PartLaws.{or_and}
use Rattle.callpages.proofs.with_range.Goals as goal

pub returns-then-part-ne0 : goal.returns-then-part-ne0
returns-then-part-ne0 c = let s = c.args.s in let f = c.args.first.0 in let l = c.args.last.0 in let part = c.from_range-part.result in still_22 (within f l) part c.from_range-part.ensures c.if-part-ne0.true (λ p. member s p || within f l p) f l c.requires.1 (λ p. or_and (member s p) (within f l p))

pub union-requires : goal.union-requires
union-requires c = let s = c.args.s in let f = c.args.first.0 in let l = c.args.last.0 in let part = c.from_range-part.result in record { a_value = c.requires.0; b_value = (its_set (within f l) part c.from_range-part.ensures c.if-part-ne0.false).normal }

pub returns : goal.returns
returns c = let s = c.args.s in let f = c.args.first.0 in let l = c.args.last.0 in let part = c.from_range-part.result in same_pages (λ p. member s p || member part.set p) c.union.result c.union.ensures (λ p. member s p || within f l p) (λ p. ap (λ (b : Bool). member s p || b) ((its_set (within f l) part c.from_range-part.ensures c.if-part-ne0.false).pages p))
