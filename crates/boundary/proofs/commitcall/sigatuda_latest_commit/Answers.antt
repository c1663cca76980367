-- The call writes the record that the rule finds, and says whether there is one; that is the reply. Assumes nothing.
use Rattle.std.proofs.Common.{ap, ◌∙◌}
use Rattle.layout.specs.Records.{commit_bytes}
use Rattle.arguments.specs.Replies.{yes_or_no}
use Rattle.tablereplies.proofs.ReplyLaws.{found_at, left_found}
use Rattle.boundary.proofs.commitcall.sigatuda_latest_commit.Goals as goal

pub returns : goal.returns
returns c = left_found commit_bytes c.args.out.now _ _ _ _ (c.found_or_not.ensures ∙ ap yes_or_no (found_at _)) c.latest_commit.ensures
