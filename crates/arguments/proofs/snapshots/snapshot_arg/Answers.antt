-- Of a slice of another length nothing is read; of one of its length the whole. Assumes nothing.
use Rattle.std.proofs.Common.{ap, ◌∙◌}
use Rattle.volume.specs.Snapshots.{laid}
use Rattle.arguments.proofs.SnapshotLaws.{in_short, in_whole}
use Rattle.arguments.proofs.snapshots.snapshot_arg.Goals as goal

pub returns-then-b-ne-SNAPSHOT : goal.returns-then-b-ne-SNAPSHOT
returns-then-b-ne-SNAPSHOT c = c.empty.ensures ∙ ap laid (in_short _ c.if-b-ne-SNAPSHOT.true)

pub returns : goal.returns
returns c = c.snapshot_read.ensures ∙ ap laid (in_whole _ c.if-b-ne-SNAPSHOT.false)
