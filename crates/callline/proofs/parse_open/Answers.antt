-- `parse_open` meets its contract: each field is read where the one before it ends, and no word is left. Assumes nothing.
use Rattle.std.proofs.Common.{sym, ◌∙◌}
use Rattle.callline.proofs.LineLaws.{opened}
use Rattle.callline.proofs.parse_open.Goals as goal

pub returns-then-not-is_over : goal.returns-then-not-is_over
returns-then-not-is_over c = record { result_value = let line = c.args.line.now in (opened line c.args.op c.identifier-vid.result.next c.identifier-local.result.next c.identifier-remote.result.next c.identifier-vid.result.value c.identifier-local.result.value c.identifier-remote.result.value c.identifier-vid.ensures.result_value c.identifier-local.ensures.result_value c.identifier-remote.ensures.result_value).1 (sym c.is_over.ensures ∙ c.if-not-is_over.true); placed = tt }

pub returns : goal.returns
returns c = record { result_value = let line = c.args.line.now in (opened line c.args.op c.identifier-vid.result.next c.identifier-local.result.next c.identifier-remote.result.next c.identifier-vid.result.value c.identifier-local.result.value c.identifier-remote.result.value c.identifier-vid.ensures.result_value c.identifier-local.ensures.result_value c.identifier-remote.ensures.result_value).0 (sym c.is_over.ensures ∙ c.if-not-is_over.false); placed = tt }
