-- The page stands as it is.
use Rattle.std.proofs.Common.{sym, ◌∙◌}
use Rattle.entries.proofs.RowForms.{entry_page}
use Rattle.entries.proofs.entry_page.Goals as goal

pub returns : goal.returns
returns c = c.load32.ensures ∙ sym (entry_page c.args.s.now c.args.at (λ j. (c.type_inv.s j).fits))
