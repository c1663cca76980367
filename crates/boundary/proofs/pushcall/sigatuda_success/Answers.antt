-- The call's number as a reply; the bytes are as the call leaves them.
use Rattle.std.proofs.Common.{ap, ◌∙◌}
use Rattle.arguments.specs.Replies.{numbered_reply}
use Rattle.boundary.proofs.pushcall.sigatuda_success.Goals as goal

pub returns : goal.returns
returns c = record {
  value = c.by_number.ensures ∙ ap numbered_reply c.success.ensures.value;
  volumes_after = c.success.ensures.volumes_after;
  commits_after = c.success.ensures.commits_after;
  checkpoints_after = c.success.ensures.checkpoints_after;
  index_after = c.success.ensures.index_after;
}
