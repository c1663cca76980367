-- The first test of the law `sync_asked` fails where the remote LSN is 0; past it the answer is that of the watermark.
use Rattle.std.proofs.Common.{sym, ◌∙◌}
use Rattle.layout.proofs.PlaceLaws.{stops, goes_on}
use Rattle.volumebytes.proofs.FormLaws.{lsn_zero, lsn_there, sync_asked}
use Rattle.volumebytes.proofs.sync.point_form.Goals as goal

pub returns-then-load64-eq0 : goal.returns-then-load64-eq0
returns-then-load64-eq0 c =
    let t = c.args in
    stops _ (lsn_zero _ _ c.load64.ensures c.if-load64-eq0.true)
    ∙ sym (sync_asked t.s.now (λ j. (c.type_inv.s j).fits) t.at c.requires)

pub returns : goal.returns
returns c =
    let t = c.args in
    goes_on _ _ (lsn_there _ _ c.load64.ensures c.if-load64-eq0.false) c.watermark_form.ensures
    ∙ sym (sync_asked t.s.now (λ j. (c.type_inv.s j).fits) t.at c.requires)
