-- Test by test, in the order of the definition.
use mathlib.Core.Path.{sym, ◌∙◌}
use Rattle.lookups.proofs.Records.{entry_log, in_other, in_page_not, in_below, in_end}
use mathlib.Core.Path.{ap}
use mathlib.Core.Bool.{not}
use Rattle.lookups.proofs.in_range.Goals as goal

pub returns-then-not-same : goal.returns-then-not-same
returns-then-not-same c =
    let a = c.args in
    in_other _ _ a.page.0 _ (entry_log a.t.now a.at ∙ sym c.load_id.ensures) _ c.same.ensures (ap not c.if-not-same.true)

pub returns-then-page-entry_page : goal.returns-then-page-entry_page
returns-then-page-entry_page c =
    let a = c.args in
    in_page_not _ _ a.page.0 _ (entry_log a.t.now a.at ∙ sym c.load_id.ensures) _ c.same.ensures (ap not c.if-not-same.false) _ c.entry_page.ensures c.if-page-entry_page.true

pub returns-then-lsn-range : goal.returns-then-lsn-range
returns-then-lsn-range c =
    let a = c.args in
    in_below _ _ a.page.0 _ (entry_log a.t.now a.at ∙ sym c.load_id.ensures) _ c.same.ensures (ap not c.if-not-same.false) _ c.entry_page.ensures c.if-page-entry_page.false _ c.entry_lsn-lsn.ensures c.if-lsn-range.true

pub returns : goal.returns
returns c =
    let a = c.args in
    in_end _ _ a.page.0 _ (entry_log a.t.now a.at ∙ sym c.load_id.ensures) _ c.same.ensures (ap not c.if-not-same.false) _ c.entry_page.ensures c.if-page-entry_page.false _ c.entry_lsn-lsn.ensures c.if-lsn-range.false
