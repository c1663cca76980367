-- The call answers the rule on the table that the bytes hold, and its answer is put as the reply. Assumes nothing.
use Rattle.std.proofs.Common.{ℕ, ap, ◌∙◌}
use Rattle.arguments.specs.Replies.{value_or}
use Rattle.tablereplies.proofs.ReplyLaws.{count_at}
use Rattle.boundary.proofs.commitcall.sigatuda_page_count.Goals as goal

pub returns : goal.returns
returns c = c.put_maybe_count.ensures ∙ ap (value_or (λ (n : ℕ). n) _) (count_at _ ∙ c.page_count.ensures)
