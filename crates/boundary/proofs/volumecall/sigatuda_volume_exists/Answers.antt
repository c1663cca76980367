-- The call answers the rule on the table that the bytes hold, and its answer is put as the reply. Assumes nothing.
use Rattle.std.proofs.Common.{ap, ◌∙◌}
use Rattle.arguments.specs.Replies.{yes_or_no}
use Rattle.boundary.proofs.volumecall.sigatuda_volume_exists.Goals as goal

pub returns : goal.returns
returns c = c.yes_or_no.ensures ∙ ap yes_or_no c.volume_exists.ensures
