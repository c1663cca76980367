-- No record is listed, and the path is at its first commit.
use Rattle.std.proofs.Common.{ap, None}
use Rattle.pageset.specs.declared.PageSet.{PageSet}
use Rattle.missingcalls.proofs.start.Goals as goal

pub returns : goal.returns
returns c = ap (λ (x : PageSet). record { at = None; gift = x; frame = 0; next = 0 }) c.empty-gift.ensures
