-- The record is the definition. Assumes nothing.
use Rattle.std.proofs.Common.{replicate, ap}
use Rattle.pageset.specs.declared.PageSet.{PageSet}
use Rattle.segmentargs.specs.Segments.{not_arange}
use Rattle.segmentargs.proofs.not_a_range.Goals as goal

pub returns : goal.returns
unfolding not_arange
returns c = ap (λ (p : PageSet). record { sid = replicate 16 0; start = 0; end = 0; pages = p }) c.not_a_set-pages.ensures
