-- The call by value answers the rule on what the flags say, and its answer is put as the reply. Assumes nothing.
use Rattle.std.proofs.Common.{ap, ◌∙◌, ap₂}
use Rattle.rules.specs.Sync.{changes}
use Rattle.arguments.specs.Replies.{value_or}
use Rattle.boundary.proofs.logs.sigatuda_changes.Goals as goal

pub returns : goal.returns
returns c = c.put_changes.ensures ∙ ap (value_or (λ m. m) _) (c.changes.ensures ∙ ap₂ changes c.flagged_lsn.ensures c.flagged_lsn-2.ensures)
