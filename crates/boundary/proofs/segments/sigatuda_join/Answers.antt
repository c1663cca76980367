-- The arguments are read, the call by value answers the rule on them, and its answer is put in bytes. Assumes nothing.
use Rattle.std.proofs.Common.{◌∙◌, ap₂}
use Rattle.segmentargs.specs.Segments.{join_left}
use Rattle.segmentargs.proofs.SegmentLaws.{left_join}
use Rattle.boundary.proofs.segments.sigatuda_join.Goals as goal

pub put_range-requires : goal.put_range-requires
put_range-requires c = c.join.ensures.form

pub returns : goal.returns
returns c =
    c.put_range.ensures ∙ left_join _ c.join.result c.range_arg.result c.range_arg-2.result c.join.ensures ∙ ap₂ (join_left c.args.out.now) c.range_arg.ensures c.range_arg-2.ensures
