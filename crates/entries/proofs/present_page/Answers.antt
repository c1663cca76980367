-- The bytes hold the complement.
use Rattle.std.proofs.Common.{◌-◌, sym, ap, ◌∙◌}
use Rattle.entries.proofs.RowForms.{present_page}
use Rattle.entries.proofs.present_page.Goals as goal

pub returns : goal.returns
returns c = ap (λ n. 4294967295 - n) c.load32.ensures ∙ sym (present_page c.args.s.now c.args.at (λ j. (c.type_inv.s j).fits))
