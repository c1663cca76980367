-- The set is the empty set. Assumes nothing.
use Rattle.commit.proofs.SegmentRange.zero.Goals as goal

pub returns : goal.returns
returns c = rw c.empty-pages.ensures
