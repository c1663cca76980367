-- The call answers the rule on the table that the bytes hold, and its answer is put as the reply. Assumes nothing.
use Rattle.std.proofs.Common.{ap, ◌∙◌}
use Rattle.arguments.specs.Replies.{value_or}
use Rattle.tablereplies.proofs.ReplyLaws.{tagged_at}
use Rattle.boundary.proofs.tagcall.sigatuda_tag_read.Goals as goal

pub returns : goal.returns
returns c = c.put_tagged.ensures ∙ ap (value_or (λ v. v) c.args.vid.now) (tagged_at _ ∙ c.tag_read.ensures)
