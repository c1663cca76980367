-- The call's number as a reply; the bytes are as the call leaves them.
use Rattle.std.proofs.Common.{ap, ◌∙◌}
use Rattle.arguments.specs.Replies.{numbered_reply}
use Rattle.boundary.proofs.pushcall.sigatuda_open.Goals as goal

pub returns : goal.returns
returns c = record {
  value = c.by_number.ensures ∙ ap numbered_reply c.open.ensures.value;
  volumes_after = c.open.ensures.volumes_after;
  out_after = c.open.ensures.out_after;
}
