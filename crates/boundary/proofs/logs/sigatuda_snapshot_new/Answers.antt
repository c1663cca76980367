-- The call by value answers the rule, and its answer is put in bytes. Assumes nothing.
use Rattle.std.proofs.Common.{ap, ◌∙◌}
use Rattle.rules.specs.Records.{Range}
use Rattle.rules.specs.Arguments.{snapshot_new}
use Rattle.volume.specs.Snapshots.{laid_answer}
use Rattle.arguments.proofs.SnapshotLaws.{answer_formed, left_snapshot, new_few}
use Rattle.boundary.proofs.logs.sigatuda_snapshot_new.Goals as goal

pub put_snapshot-requires : goal.put_snapshot-requires
put_snapshot-requires c = answer_formed c.new.result (snapshot_new _ c.args.count) (new_few _ c.args.count) (c.new.ensures ∙ ap (λ (r : Range). laid_answer (snapshot_new r c.args.count)) c.log_range.ensures)

pub returns : goal.returns
returns c = c.put_snapshot.ensures ∙ left_snapshot _ c.new.result (snapshot_new _ c.args.count) (c.new.ensures ∙ ap (λ (r : Range). laid_answer (snapshot_new r c.args.count)) c.log_range.ensures)
