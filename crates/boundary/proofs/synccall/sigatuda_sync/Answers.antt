-- The call below answers the number and leaves the bytes; its number is put as the reply.
use Rattle.std.proofs.Common.{ap, ◌∙◌}
use Rattle.arguments.specs.Replies.{numbered_reply}
use Rattle.boundary.proofs.synccall.sigatuda_sync.Goals as goal

pub returns : goal.returns
returns c = record { value = c.numbered.ensures ∙ ap numbered_reply c.sync.ensures.value; volumes_after = c.sync.ensures.volumes_after }
