-- The record is the definition. Assumes nothing.
use Rattle.std.proofs.Common.{List, replicate, ap₂}
use Rattle.pageset.specs.declared.PageSet.{PageSet}
use Rattle.commit.specs.declared.Frame.{Frame}
use Rattle.segmentargs.specs.Segments.{not_asegment}
use Rattle.segmentargs.proofs.not_a_segment.Goals as goal

pub returns : goal.returns
unfolding not_asegment
returns c = ap₂ (λ (p : PageSet) (fs : List Frame). record { sid = replicate 16 0; pages = p; len = 0; frames = fs }) c.not_a_set-pages.ensures c.no_frames-frames.ensures
