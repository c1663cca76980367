-- The segment of the empty set and of zeros. Assumes nothing.
use Rattle.std.proofs.Common.{replicate, ap, ◌∙◌}
use Rattle.commit.specs.Builders.{new_segment}
use Rattle.commit.proofs.SegmentIdx.zero.Goals as goal

pub returns : goal.returns
returns c = c.new.ensures ∙ ap (new_segment (replicate 16 0)) c.empty.ensures
