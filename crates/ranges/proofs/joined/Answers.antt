-- The union by value is the rules' union, and over 32 windows where it is refused. Assumes nothing.
use Rattle.ranges.proofs.JoinLaws.{joined_over, joined_set}
use Rattle.ranges.proofs.joined.Goals as goal

pub returns-then-all-ne0 : goal.returns-then-all-ne0
returns-then-all-ne0 c = joined_over c.args.left c.args.right c.requires.pages_value c.requires.pages_value_2 _ c.union-all.ensures c.if-all-ne0.true

pub returns : goal.returns
returns c = joined_set c.args.left c.args.right c.requires.pages_value c.requires.pages_value_2 _ c.union-all.ensures c.if-all-ne0.false
