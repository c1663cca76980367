-- `fields::value_place` meets its contract: a line that is out of form already; no word left; a word with another key; the value. Assumes nothing.
use Rattle.std.proofs.Common.{◌+◌, sym, ◌∙◌, arith, rules}
use Rattle.callline.proofs.TextLaws.{key_fits}
use Rattle.callline.proofs.LineLaws.{unread, wordless, other_key, its_value}
use Rattle.std.proofs.lemmas.Bool.{not-true, not-false}
use Rattle.callline.proofs.fields.value_place.Goals as goal

pub returns-then-not-c : goal.returns-then-not-c
returns-then-not-c c = let line = c.args.line.now in let key = c.args.key.now in let k = c.args.c in
    record { result_value = rw c.nowhere.ensures (unread line key k (not-true k.good c.if-not-c.true)); from_le_to = rw c.nowhere.ensures (search rules) }

pub returns-then-line-end : goal.returns-then-line-end
returns-then-line-end c = let line = c.args.line.now in let key = c.args.key.now in let k = c.args.c in
    record { result_value = rw c.nowhere-then-line-end.ensures (wordless line key k (not-false k.good c.if-not-c.false) (omega arith)); from_le_to = rw c.nowhere-then-line-end.ensures (search rules) }

pub returns-then-not-starts_with : goal.returns-then-not-starts_with
returns-then-not-starts_with c = let line = c.args.line.now in let key = c.args.key.now in let k = c.args.c in
    record { result_value = rw c.nowhere-then-not-starts_with.ensures (other_key line key k c.piece_end-to.result (not-false k.good c.if-not-c.false) (omega arith) c.piece_end-to.ensures.0 (sym c.starts_with.ensures ∙ c.if-not-starts_with.true)); from_le_to = rw c.nowhere-then-not-starts_with.ensures (search rules) }

pub overflow_add-result : goal.overflow_add-result
overflow_add-result c = let line = c.args.line.now in let key = c.args.key.now in let k = c.args.c in omega (arith, (key_fits key line (k.end + 1) c.piece_end-to.result (omega arith) c.piece_end-to.ensures.1 (sym c.starts_with.ensures ∙ c.if-not-starts_with.false)))

pub returns : goal.returns
returns c = let line = c.args.line.now in let key = c.args.key.now in let k = c.args.c in record { result_value = its_value line key k c.piece_end-to.result (not-false k.good c.if-not-c.false) (omega arith) c.piece_end-to.ensures.0 (sym c.starts_with.ensures ∙ c.if-not-starts_with.false) (key_fits key line (k.end + 1) c.piece_end-to.result (omega arith) c.piece_end-to.ensures.1 (sym c.starts_with.ensures ∙ c.if-not-starts_with.false)) c.piece_end-to.ensures.1; from_le_to = ((key_fits key line (k.end + 1) c.piece_end-to.result (omega arith) c.piece_end-to.ensures.1 (sym c.starts_with.ensures ∙ c.if-not-starts_with.false)), c.piece_end-to.ensures.1) }
