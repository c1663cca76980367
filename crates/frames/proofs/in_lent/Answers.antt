-- The end is compared with the lent length. Assumes nothing.
use Rattle.std.proofs.Common.{arith, le-leb}
use borrow.Author.Tests.{lt-leb}
use Rattle.frames.proofs.in_lent.Goals as goal

pub returns-then-lent-end : goal.returns-then-lent-end
returns-then-lent-end c = record { says = rw (lt-leb _ _ c.if-lent-end.true); within = tt }

pub returns : goal.returns
returns c = record { says = rw (le-leb c.args.run.end c.args.lent (omega arith)); within = omega arith }
