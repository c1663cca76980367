-- Where the answer is a refusal, the contract has the place as it was.
use Rattle.std.proofs.Common.{ℕ, ◌-◌, length, take, drop}
use Rattle.frames.specs.Rules.{bytes_rule, part_bytes}
use Rattle.segmentargs.specs.Segments.{segment_arg}
use Rattle.refusals.proofs.Laws.{maybe_left}
use Rattle.placerefusals.proofs.segments.frame_bytes.Goals as goal

pub returns : goal.returns
returns c =
    let g = c.args in
    maybe_left (λ (x : ℕ × ℕ). take (x.1 - x.0) (drop x.0 g.lent.now)) _ (part_bytes (bytes_rule (segment_arg g.segment.now) g.page (length g.lent.now))) _ _ c.sigatuda_frame_bytes.ensures
