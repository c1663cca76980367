-- The length, then the form of the whole. Assumes nothing.
use Rattle.std.proofs.Common.{◌∙◌}
use Rattle.arguments.proofs.SnapshotLaws.{formed_short, formed_whole}
use Rattle.arguments.proofs.snapshots.snapshot_ok.Goals as goal

pub returns-then-b-ne-SNAPSHOT : goal.returns-then-b-ne-SNAPSHOT
returns-then-b-ne-SNAPSHOT c = formed_short _ c.if-b-ne-SNAPSHOT.true

pub returns : goal.returns
returns c = c.snapshot_form.ensures ∙ formed_whole _ c.if-b-ne-SNAPSHOT.false
