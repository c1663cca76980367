-- `parse` meets its contract: the length, then the first word, then the fields of the call that it names. Assumes nothing.
use Rattle.std.proofs.Common.{sym, ◌∙◌, arith}
use Rattle.callline.specs.Texts.{between, pieces_after}
use Rattle.callline.proofs.LineLaws.{first_word, too_long, call_open, call_snap, call_save, call_find, call_fetch, call_pull, call_none}
use Rattle.callline.proofs.parse.Goals as goal

pub returns-then-line-gt-LINE_BYTES : goal.returns-then-line-gt-LINE_BYTES
returns-then-line-gt-LINE_BYTES c = record { result_value = too_long c.args.line.now (omega arith); placed = tt }

pub returns-then-is_text : goal.returns-then-is_text
returns-then-is_text c = record { result_value = let line = c.args.line.now in let e = c.piece_end-end.result in let first = first_word line e (omega arith) c.piece_end-end.ensures.0 in let w = between 0 e line in let ws = pieces_after 32 line e in c.parse_open.ensures.result_value ∙ sym (first ∙ call_open w ws (sym c.is_text.ensures ∙ c.if-is_text.true)); placed = c.parse_open.ensures.placed }

pub returns-then-is_text-2 : goal.returns-then-is_text-2
returns-then-is_text-2 c = record { result_value = let line = c.args.line.now in let e = c.piece_end-end.result in let first = first_word line e (omega arith) c.piece_end-end.ensures.0 in let w = between 0 e line in let ws = pieces_after 32 line e in c.parse_snap.ensures.result_value ∙ sym (first ∙ call_snap w ws (sym c.is_text.ensures ∙ c.if-is_text.false) (sym c.is_text-2.ensures ∙ c.if-is_text-2.true)); placed = c.parse_snap.ensures.placed }

pub returns-then-is_text-3 : goal.returns-then-is_text-3
returns-then-is_text-3 c = record { result_value = let line = c.args.line.now in let e = c.piece_end-end.result in let first = first_word line e (omega arith) c.piece_end-end.ensures.0 in let w = between 0 e line in let ws = pieces_after 32 line e in c.parse_save.ensures.result_value ∙ sym (first ∙ call_save w ws (sym c.is_text.ensures ∙ c.if-is_text.false) (sym c.is_text-2.ensures ∙ c.if-is_text-2.false) (sym c.is_text-3.ensures ∙ c.if-is_text-3.true)); placed = c.parse_save.ensures.placed }

pub returns-then-is_text-4 : goal.returns-then-is_text-4
returns-then-is_text-4 c = record { result_value = let line = c.args.line.now in let e = c.piece_end-end.result in let first = first_word line e (omega arith) c.piece_end-end.ensures.0 in let w = between 0 e line in let ws = pieces_after 32 line e in c.parse_find.ensures.result_value ∙ sym (first ∙ call_find w ws (sym c.is_text.ensures ∙ c.if-is_text.false) (sym c.is_text-2.ensures ∙ c.if-is_text-2.false) (sym c.is_text-3.ensures ∙ c.if-is_text-3.false) (sym c.is_text-4.ensures ∙ c.if-is_text-4.true)); placed = c.parse_find.ensures.placed }

pub returns-then-is_text-5 : goal.returns-then-is_text-5
returns-then-is_text-5 c = record { result_value = let line = c.args.line.now in let e = c.piece_end-end.result in let first = first_word line e (omega arith) c.piece_end-end.ensures.0 in let w = between 0 e line in let ws = pieces_after 32 line e in c.parse_fetch.ensures.result_value ∙ sym (first ∙ call_fetch w ws (sym c.is_text.ensures ∙ c.if-is_text.false) (sym c.is_text-2.ensures ∙ c.if-is_text-2.false) (sym c.is_text-3.ensures ∙ c.if-is_text-3.false) (sym c.is_text-4.ensures ∙ c.if-is_text-4.false) (sym c.is_text-5.ensures ∙ c.if-is_text-5.true)); placed = c.parse_fetch.ensures.placed }

pub returns-then-is_text-6 : goal.returns-then-is_text-6
returns-then-is_text-6 c = record { result_value = let line = c.args.line.now in let e = c.piece_end-end.result in let first = first_word line e (omega arith) c.piece_end-end.ensures.0 in let w = between 0 e line in let ws = pieces_after 32 line e in c.parse_pull.ensures.result_value ∙ sym (first ∙ call_pull w ws (sym c.is_text.ensures ∙ c.if-is_text.false) (sym c.is_text-2.ensures ∙ c.if-is_text-2.false) (sym c.is_text-3.ensures ∙ c.if-is_text-3.false) (sym c.is_text-4.ensures ∙ c.if-is_text-4.false) (sym c.is_text-5.ensures ∙ c.if-is_text-5.false) (sym c.is_text-6.ensures ∙ c.if-is_text-6.true)); placed = c.parse_pull.ensures.placed }

pub returns : goal.returns
returns c = record { result_value = let line = c.args.line.now in let e = c.piece_end-end.result in let first = first_word line e (omega arith) c.piece_end-end.ensures.0 in let w = between 0 e line in let ws = pieces_after 32 line e in sym (first ∙ call_none w ws (sym c.is_text.ensures ∙ c.if-is_text.false) (sym c.is_text-2.ensures ∙ c.if-is_text-2.false) (sym c.is_text-3.ensures ∙ c.if-is_text-3.false) (sym c.is_text-4.ensures ∙ c.if-is_text-4.false) (sym c.is_text-5.ensures ∙ c.if-is_text-5.false) (sym c.is_text-6.ensures ∙ c.if-is_text-6.false)); placed = tt }
