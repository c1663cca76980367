-- The call below answers the number and leaves the bytes; its number is put as the reply.
use Rattle.std.proofs.Common.{ap, ◌∙◌}
use Rattle.arguments.specs.Replies.{numbered_reply}
use Rattle.boundary.proofs.writecall.sigatuda_write_commit.Goals as goal

pub returns : goal.returns
returns c = record {
  value = c.numbered.ensures ∙ ap numbered_reply c.write_commit.ensures.value;
  commits_after = c.write_commit.ensures.commits_after;
  checkpoints_after = c.write_commit.ensures.checkpoints_after;
  index_after = c.write_commit.ensures.index_after;
}
