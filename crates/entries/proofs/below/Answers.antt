-- The first numbers that differ decide.
use Rattle.entries.proofs.RowOrders.{by_high, by_low, by_page, by_lsn}
use Rattle.entries.proofs.below.Goals as goal

pub returns-then-x-y : goal.returns-then-x-y
returns-then-x-y c = by_high c.args.x c.args.y c.if-x-y.true

pub returns-then-x-y-2 : goal.returns-then-x-y-2
returns-then-x-y-2 c = by_low c.args.x c.args.y c.if-x-y.false c.if-x-y-2.true

pub returns-then-x-y-3 : goal.returns-then-x-y-3
returns-then-x-y-3 c = by_page c.args.x c.args.y c.if-x-y.false c.if-x-y-2.false c.if-x-y-3.true

pub returns : goal.returns
returns c = by_lsn c.args.x c.args.y c.if-x-y.false c.if-x-y-2.false c.if-x-y-3.false
