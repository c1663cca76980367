-- The tests are those of the definition, in its order; a set in normal form fills the lent slice. Assumes nothing.
use Rattle.setbytes.proofs.LaidLaws.{laid_says}
use Rattle.std.proofs.Common.{ℕ, List, sym, ap, ◌∙◌, rules}
use Rattle.arguments.specs.Sets.{told}
use Rattle.arguments.proofs.SetLaws.{fills, put_early, put_short, put_22, put_set}
use Rattle.arguments.proofs.sets.put_set.Goals as goal

pub returns-then-is_early : goal.returns-then-is_early
returns-then-is_early c = put_early _ _ _ (sym c.is_early.ensures ∙ c.if-is_early.true)

pub returns-then-out-ne-SET : goal.returns-then-out-ne-SET
returns-then-out-ne-SET c = put_short _ _ _ (sym c.is_early.ensures ∙ c.if-is_early.false) c.if-out-ne-SET.true

pub returns-then-code-ne0 : goal.returns-then-code-ne0
returns-then-code-ne0 c = put_22 _ _ _ (sym c.is_early.ensures ∙ c.if-is_early.false) c.if-out-ne-SET.false c.if-code-ne0.true

pub set_write-requires : goal.set_write-requires
set_write-requires c = record { at_in_bounds = search rules; x_value = laid_says c.args.a.set c.requires }

pub returns : goal.returns
returns c = ap (λ (b : List ℕ). (told c.args.found, b)) (c.set_write.ensures ∙ fills _ _ c.requires c.if-out-ne-SET.false) ∙ put_set _ _ c.args.a (sym c.is_early.ensures ∙ c.if-is_early.false) c.if-out-ne-SET.false c.if-code-ne0.false
