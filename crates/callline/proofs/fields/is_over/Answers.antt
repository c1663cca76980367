-- `fields::is_over` meets its contract: a line out of form, then the end of the text. Assumes nothing.
use Rattle.std.proofs.lemmas.Bool.{not-true, not-false}
use Rattle.callline.proofs.fields.is_over.Goals as goal

pub returns-then-not-c : goal.returns-then-not-c
returns-then-not-c c = rw (not-true c.args.c.good c.if-not-c.true)

pub returns : goal.returns
returns c = rw (not-false c.args.c.good c.if-not-c.false)
