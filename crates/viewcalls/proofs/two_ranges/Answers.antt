-- The ranges in the first two places of an empty path.
use Rattle.viewcalls.proofs.Ends.{two_laid}
use Rattle.viewcalls.proofs.two_ranges.Goals as goal

pub returns : goal.returns
returns c = two_laid _ _ c.empty-none.ensures c.args.range c.args.next
