-- Where the answer is a refusal, the contract has the place as it was.
use Rattle.layout.specs.Values.{part_bytes}
use Rattle.basics.specs.Answers.{◌>>=◌}
use Rattle.rules.specs.Frames.{joined_part}
use Rattle.segmentargs.specs.Segments.{range_arg, touch_rule}
use Rattle.layout.specs.Lent.{sized}
use Rattle.refusals.proofs.Laws.{maybe_left}
use Rattle.placerefusals.proofs.segments.join.Goals as goal

pub returns : goal.returns
returns c =
    let g = c.args in
    maybe_left part_bytes.spell _ (sized part_bytes.size g.out.now (touch_rule (range_arg g.a.now) (range_arg g.b.now)) >>= joined_part) _ _ c.sigatuda_join.ensures
