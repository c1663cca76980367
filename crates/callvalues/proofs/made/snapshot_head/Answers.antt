-- The head of the snapshot that the bytes spell.
use Rattle.std.proofs.Common.{◌∙◌}
use Rattle.callvalues.proofs.Values.{head_in_lem}
use Rattle.callvalues.proofs.made.snapshot_head.Goals as goal

pub returns : goal.returns
returns c = c.short_head.ensures ∙ head_in_lem c.args.b.now c.snapshot_arg.result c.head.result c.snapshot_arg.ensures c.head.ensures
