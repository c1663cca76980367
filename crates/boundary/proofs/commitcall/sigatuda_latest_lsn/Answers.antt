-- The call answers the rule on the table that the bytes hold, and its answer is put as the reply. Assumes nothing.
use Rattle.std.proofs.Common.{ℕ, ap, ◌∙◌}
use Rattle.arguments.specs.Replies.{value_or}
use Rattle.boundary.proofs.commitcall.sigatuda_latest_lsn.Goals as goal

pub returns : goal.returns
returns c = c.put_maybe_lsn.ensures ∙ ap (value_or (λ (n : ℕ). n) _) c.latest_lsn.ensures
