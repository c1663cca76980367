-- Only the set is asked for anything. Assumes nothing.
use Rattle.std.proofs.Common.{◌∙◌}
use Rattle.segmentbytes.proofs.SegmentLaws.{range_form_is}
use Rattle.segmentbytes.proofs.range_form.Goals as goal

pub returns : goal.returns
returns c =
    c.set_form.ensures ∙ range_form_is c.args.s.now c.args.at (λ j. (c.type_inv.s j).fits) c.requires
