-- Where the answer is a refusal, the contract has the list and the number of its items as they were.
use Rattle.layout.specs.Values.{part_bytes}
use Rattle.frames.specs.Rules.{list_rule}
use Rattle.resultlists.specs.Lists.{roomed}
use Rattle.segmentargs.specs.Segments.{segment_arg}
use Rattle.refusals.proofs.Laws.{list_left_lem}
use Rattle.placerefusals.proofs.segments.frame_list.Goals as goal

pub returns : goal.returns
returns c = let g = c.args in
    let whole = list_left_lem part_bytes _ _ _ _ (roomed part_bytes g.list.now (list_rule (segment_arg g.segment.now))) _ c.sigatuda_frame_list.ensures in
    record { as_found = whole.0; as_found_2 = whole.1 }
