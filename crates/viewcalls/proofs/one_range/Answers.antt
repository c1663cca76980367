-- The range in the first place of an empty path.
use Rattle.viewcalls.proofs.Ends.{one_laid}
use Rattle.viewcalls.proofs.one_range.Goals as goal

pub returns : goal.returns
returns c = one_laid _ _ c.empty-none.ensures c.args.range
