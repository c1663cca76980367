-- The bytes hold the complement.
use Rattle.std.proofs.Common.{◌-◌, sym, ap, ◌∙◌}
use Rattle.entries.proofs.RowForms.{checkpoint_lsn_lem}
use Rattle.entries.proofs.checkpoint_lsn.Goals as goal

pub returns : goal.returns
returns c = ap (λ n. 18446744073709551615 - n) c.load64.ensures ∙ sym (checkpoint_lsn_lem c.args.s.now c.args.at (λ j. (c.type_inv.s j).fits))
