-- The number, and empty sets. Assumes nothing.
use Rattle.std.proofs.Common.{ap}
use Rattle.pageset.specs.declared.PageSet.{PageSet}
use Rattle.pagecalls.proofs.no_cut.Goals as goal

pub returns : goal.returns
returns c = (ap (λ (s : PageSet). record { code = c.args.code; set = s }) c.empty-common.ensures, ap (λ (s : PageSet). record { code = c.args.code; set = s }) c.empty-left.ensures)
