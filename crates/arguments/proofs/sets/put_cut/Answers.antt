-- The tests are those of the definition, in its order; a set in normal form fills its lent slice. Assumes nothing.
use Rattle.setbytes.proofs.LaidLaws.{laid_says}
use Rattle.std.proofs.Common.{ℕ, List, ◌∙◌, ap₂, rules}
use Rattle.arguments.specs.Sets.{told}
use Rattle.arguments.proofs.SetLaws.{fills, cut_refused, cut_short, cut_short_2, cut_sets}
use Rattle.arguments.proofs.sets.put_cut.Goals as goal

pub returns-then-code-ne0 : goal.returns-then-code-ne0
returns-then-code-ne0 c = cut_refused _ _ _ c.if-code-ne0.true

pub returns-then-common-ne-SET : goal.returns-then-common-ne-SET
returns-then-common-ne-SET c = cut_short _ _ _ c.if-code-ne0.false c.if-common-ne-SET.true

pub returns-then-rest-ne-SET : goal.returns-then-rest-ne-SET
returns-then-rest-ne-SET c = cut_short_2 _ _ _ c.if-code-ne0.false c.if-common-ne-SET.false c.if-rest-ne-SET.true

pub set_write-requires : goal.set_write-requires
set_write-requires c = record { at_in_bounds = search rules; x_value = laid_says c.args.a.common c.requires.0 }

pub set_write-requires-2 : goal.set_write-requires-2
set_write-requires-2 c = record { at_in_bounds = search rules; x_value = laid_says c.args.a.left c.requires.1 }

pub returns : goal.returns
returns c = ap₂ (λ (b d : List ℕ). (told 1, (b, d))) (c.set_write.ensures ∙ fills _ _ c.requires.0 c.if-common-ne-SET.false) (c.set_write-2.ensures ∙ fills _ _ c.requires.1 c.if-rest-ne-SET.false) ∙ cut_sets _ _ c.args.a c.if-code-ne0.false c.if-common-ne-SET.false c.if-rest-ne-SET.false
