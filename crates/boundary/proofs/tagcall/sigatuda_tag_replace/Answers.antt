-- The call answers what the rule says of the earlier volume and leaves the table that the rule says; its answer is put as the reply. Assumes nothing.
use Rattle.std.proofs.Common.{ap, ◌∙◌}
use Rattle.arguments.specs.Replies.{value_or}
use Rattle.tablereplies.proofs.ReplyLaws.{tagged_at}
use Rattle.boundary.proofs.tagcall.sigatuda_tag_replace.Goals as goal

pub returns : goal.returns
returns c = record { earlier_after = c.put_tagged.ensures ∙ ap (value_or (λ v. v) c.args.earlier.now) (tagged_at _ ∙ c.tag_replace.ensures.value); tags_after = c.tag_replace.ensures.tags_after }
