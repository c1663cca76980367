-- `texts::is_text` meets its contract: the lengths, then the beginning. Assumes nothing.
use Rattle.std.proofs.Common.{length, eq-eqb, ne_eqb}
use Rattle.callline.specs.Texts.{is_text}
use Rattle.callline.proofs.texts.is_text.Goals as goal

pub returns-then-s-key : goal.returns-then-s-key
unfolding is_text
returns-then-s-key c = let s = c.args.s.now in let key = c.args.key.now in rw (ne_eqb (length s) (length key) c.if-s-key.true)

pub returns : goal.returns
unfolding is_text
returns c = let s = c.args.s.now in let key = c.args.key.now in rw (eq-eqb (length s) (length key) c.if-s-key.false) c.starts_with.ensures
