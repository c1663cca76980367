-- The law `pending_asked` tests the two LSNs in the order of the code.
use Rattle.std.proofs.Common.{sym, ap, ◌∙◌}
use Rattle.basics.specs.Numbers.{counts}
use Rattle.layout.proofs.PlaceLaws.{stops, goes_on}
use Rattle.volumebytes.proofs.FormLaws.{lsn_zero, lsn_there, pending_asked}
use Rattle.volumebytes.proofs.pending.commit_form.Goals as goal

pub returns-then-load64-eq0 : goal.returns-then-load64-eq0
returns-then-load64-eq0 c =
    let t = c.args in
    stops _ (lsn_zero _ _ c.load64.ensures c.if-load64-eq0.true)
    ∙ sym (pending_asked t.s.now (λ j. (c.type_inv.s j).fits) t.at c.requires)

pub returns : goal.returns
returns c =
    let t = c.args in
    goes_on _ _ (lsn_there _ _ c.load64.ensures c.if-load64-eq0.false) (ap counts c.load64-2.ensures)
    ∙ sym (pending_asked t.s.now (λ j. (c.type_inv.s j).fits) t.at c.requires)
