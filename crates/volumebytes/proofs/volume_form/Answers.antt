-- The law `volume_asked` tests the reserved bytes, the sync point and the pending commit in the order of the code.
use Rattle.std.proofs.Common.{sym, ◌∙◌, eq-eqb, ne_eqb}
use Rattle.layout.proofs.PlaceLaws.{stops, goes_on}
use Rattle.volumebytes.proofs.FormLaws.{volume_asked}
use Rattle.volumebytes.proofs.volume_form.Goals as goal

pub returns-then-load8-ne0 : goal.returns-then-load8-ne0
returns-then-load8-ne0 c =
    let t = c.args in
    stops _ (ne_eqb _ 0 (λ q. c.if-load8-ne0.true (c.load8.ensures ∙ q)))
    ∙ sym (volume_asked t.s.now (λ j. (c.type_inv.s j).fits) t.at c.requires)

pub returns-then-load8-ne0-2 : goal.returns-then-load8-ne0-2
returns-then-load8-ne0-2 c =
    let t = c.args in
    goes_on _ _ (eq-eqb _ 0 (sym c.load8.ensures ∙ c.if-load8-ne0.false)) (stops _ (ne_eqb _ 0 (λ q. c.if-load8-ne0-2.true (c.load8-2.ensures ∙ q))))
    ∙ sym (volume_asked t.s.now (λ j. (c.type_inv.s j).fits) t.at c.requires)

pub returns-then-not-sync_form : goal.returns-then-not-sync_form
returns-then-not-sync_form c =
    let t = c.args in
    goes_on _ _ (eq-eqb _ 0 (sym c.load8.ensures ∙ c.if-load8-ne0.false)) (goes_on _ _ (eq-eqb _ 0 (sym c.load8-2.ensures ∙ c.if-load8-ne0-2.false)) (stops _ (sym c.sync_form.ensures ∙ c.if-not-sync_form.true)))
    ∙ sym (volume_asked t.s.now (λ j. (c.type_inv.s j).fits) t.at c.requires)

pub returns : goal.returns
returns c =
    let t = c.args in
    goes_on _ _ (eq-eqb _ 0 (sym c.load8.ensures ∙ c.if-load8-ne0.false)) (goes_on _ _ (eq-eqb _ 0 (sym c.load8-2.ensures ∙ c.if-load8-ne0-2.false)) (goes_on _ _ (sym c.sync_form.ensures ∙ c.if-not-sync_form.false) c.pending_form.ensures))
    ∙ sym (volume_asked t.s.now (λ j. (c.type_inv.s j).fits) t.at c.requires)
