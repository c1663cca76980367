-- The call answers the rule's number and leaves the table that the rule says; the number is put as the reply. Assumes nothing.
use Rattle.std.proofs.Common.{ap, ◌∙◌}
use Rattle.arguments.specs.Replies.{numbered_reply}
use Rattle.boundary.proofs.pagecall.sigatuda_page_remove.Goals as goal

pub returns : goal.returns
returns c = record { value = c.numbered.ensures ∙ ap numbered_reply c.page_remove.ensures.value; presence_after = c.page_remove.ensures.presence_after }
