-- `parse_fetch` meets its contract: each field is read where the one before it ends, and no word is left. Assumes nothing.
use Rattle.std.proofs.Common.{sym, ◌∙◌}
use Rattle.callline.proofs.LineLaws.{and_fst, fetched}
use Rattle.callline.specs.Texts.{between}
use Rattle.callline.specs.Says.{ranges_in}
use Rattle.callline.proofs.parse_fetch.Goals as goal

pub returns-then-not-is_over : goal.returns-then-not-is_over
returns-then-not-is_over c = record { result_value = let line = c.args.line.now in (fetched line c.args.op c.identifier-log.result.next c.decimal-lsn.result.next c.decimal-count.result.next c.identifier-sid.result.next (record { good = c.pages-pages.result.good; end = c.pages-pages.result.to }) c.decimal-count.result.value c.identifier-sid.result.value (ranges_in (between c.pages-pages.result.from c.pages-pages.result.to line)) c.decimal-count.ensures.result_value c.identifier-sid.ensures.result_value c.pages-pages.ensures.result_value c.identifier-log.result.value c.decimal-lsn.result.value c.identifier-log.ensures.result_value c.decimal-lsn.ensures.result_value).1 (sym c.is_over.ensures ∙ c.if-not-is_over.true); placed = tt }

pub returns : goal.returns
returns c = record { result_value = let line = c.args.line.now in (fetched line c.args.op c.identifier-log.result.next c.decimal-lsn.result.next c.decimal-count.result.next c.identifier-sid.result.next (record { good = c.pages-pages.result.good; end = c.pages-pages.result.to }) c.decimal-count.result.value c.identifier-sid.result.value (ranges_in (between c.pages-pages.result.from c.pages-pages.result.to line)) c.decimal-count.ensures.result_value c.identifier-sid.ensures.result_value c.pages-pages.ensures.result_value c.identifier-log.result.value c.decimal-lsn.result.value c.identifier-log.ensures.result_value c.decimal-lsn.ensures.result_value).0 (sym c.is_over.ensures ∙ c.if-not-is_over.false); placed = c.pages-pages.ensures.in_form (and_fst c.pages-pages.result.good _ (sym c.is_over.ensures ∙ c.if-not-is_over.false)) }
