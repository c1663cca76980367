-- 20, 1, then what the lookup finds.
use Rattle.std.proofs.Common.{sym, ◌∙◌}
use Rattle.searchcalls.proofs.CallLaws.{no_checkpoints, checkpoint_zero, checkpoint_done}
use Rattle.searchcalls.proofs.checkpoint_at.Goals as goal

pub returns-then-not-checkpoints_formed : goal.returns-then-not-checkpoints_formed
returns-then-not-checkpoints_formed c = no_checkpoints c.args.checkpoints.now c.args.log c.args.lsn.0 (sym c.checkpoints_formed.ensures ∙ c.if-not-checkpoints_formed.true)

pub returns-then-lsn-eq0 : goal.returns-then-lsn-eq0
returns-then-lsn-eq0 c = checkpoint_zero c.args.checkpoints.now c.args.log c.args.lsn.0 (sym c.checkpoints_formed.ensures ∙ c.if-not-checkpoints_formed.false) c.if-lsn-eq0.true

pub checkpoint_at-requires : goal.checkpoint_at-requires
checkpoint_at-requires c = sym c.checkpoints_formed.ensures ∙ c.if-not-checkpoints_formed.false

pub returns : goal.returns
returns c = checkpoint_done c.args.checkpoints.now c.args.log c.args.lsn.0 (sym c.checkpoints_formed.ensures ∙ c.if-not-checkpoints_formed.false) c.if-lsn-eq0.false c.checkpoint_at.result c.checkpoint_at.ensures
