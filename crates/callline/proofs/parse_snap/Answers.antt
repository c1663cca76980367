-- `parse_snap` meets its contract: each field is read where the one before it ends, and no word is left. Assumes nothing.
use Rattle.std.proofs.Common.{sym, ◌∙◌}
use Rattle.callline.proofs.LineLaws.{snapped}
use Rattle.callline.proofs.parse_snap.Goals as goal

pub returns-then-not-is_over : goal.returns-then-not-is_over
returns-then-not-is_over c = record { result_value = let line = c.args.line.now in (snapped line c.args.op c.identifier-vid.result.next c.decimal-slot.result.next c.identifier-vid.result.value c.decimal-slot.result.value c.identifier-vid.ensures.result_value c.decimal-slot.ensures.result_value).1 (sym c.is_over.ensures ∙ c.if-not-is_over.true); placed = tt }

pub returns : goal.returns
returns c = record { result_value = let line = c.args.line.now in (snapped line c.args.op c.identifier-vid.result.next c.decimal-slot.result.next c.identifier-vid.result.value c.decimal-slot.result.value c.identifier-vid.ensures.result_value c.decimal-slot.ensures.result_value).0 (sym c.is_over.ensures ∙ c.if-not-is_over.false); placed = c.decimal-slot.ensures.value_le_limit }
