-- The number, and the empty set. Assumes nothing.
use Rattle.std.proofs.Common.{ap}
use Rattle.pageset.specs.declared.PageSet.{PageSet}
use Rattle.pageset.proofs.sets.refusal.Goals as goal

pub returns : goal.returns
returns c = ap (λ (s : PageSet). record { code = c.args.code; set = s }) c.empty-set.ensures
