-- The frames are sixteen zero frames. Assumes nothing.
use Rattle.commit.proofs.SegmentIdx.new.Goals as goal

pub returns : goal.returns
returns c = rw c.no_frames-frames.ensures
