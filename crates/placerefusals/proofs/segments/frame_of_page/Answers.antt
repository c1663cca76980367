-- Where the answer is a refusal, the contract has the place as it was.
use Rattle.layout.specs.Values.{part_bytes}
use Rattle.frames.specs.Rules.{frame_rule}
use Rattle.segmentargs.specs.Segments.{segment_arg}
use Rattle.layout.specs.Lent.{sized}
use Rattle.refusals.proofs.Laws.{maybe_left}
use Rattle.placerefusals.proofs.segments.frame_of_page.Goals as goal

pub returns : goal.returns
returns c =
    let g = c.args in
    maybe_left part_bytes.spell _ (sized part_bytes.size g.out.now (frame_rule (segment_arg g.segment.now) g.page)) _ _ c.sigatuda_frame_of_page.ensures
