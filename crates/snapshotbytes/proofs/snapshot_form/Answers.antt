-- Test by test, in the order of the bytes.
use mathlib.Core.Path.{refl}
use Rattle.snapshotbytes.proofs.Reading.{form_reserved, form_over, form_rest}
use Rattle.snapshotbytes.proofs.snapshot_form.Goals as goal

pub returns-then-load8-ne0 : goal.returns-then-load8-ne0
returns-then-load8-ne0 c =
    let a = c.args in
    form_reserved a.s.now a.at c.requires _ refl (λ j. (c.type_inv.s j).fits) _ c.load8.ensures c.if-load8-ne0.true

pub returns-then-load8-gt8 : goal.returns-then-load8-gt8
returns-then-load8-gt8 c =
    let a = c.args in
    form_over a.s.now a.at c.requires _ refl (λ j. (c.type_inv.s j).fits) _ c.load8.ensures c.if-load8-ne0.false _ c.load8-2.ensures c.if-load8-gt8.true

pub returns : goal.returns
returns c =
    let a = c.args in
    form_rest a.s.now a.at c.requires _ c.ranges_at-n.ensures (λ j. (c.type_inv.s j).fits) _ c.load8.ensures c.if-load8-ne0.false _ c.load8-2.ensures c.if-load8-gt8.false _ c.all_zero.ensures
