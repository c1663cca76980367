-- The call below answers yes, no or the number, and its answer is put as the reply.
use Rattle.std.proofs.Common.{ap, ◌∙◌}
use Rattle.arguments.specs.Replies.{yes_or_no}
use Rattle.boundary.proofs.viewcall.sigatuda_latest_check.Goals as goal

pub returns : goal.returns
returns c = c.yes_or_no.ensures ∙ ap yes_or_no c.latest_check.ensures
