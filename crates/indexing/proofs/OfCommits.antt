-- The rows are those of the rules: for the log, the LSN and the pages of a commit, and for the LSNs that it lists.
use Rattle.std.proofs.Common.{◌≡◌, map, refl}
use Rattle.rules.specs.Records.{Commit}
use Rattle.rules.specs.Write.{pages_of, checkpoints_of, entries_of}
use Rattle.layout.specs.Records.{entry_bytes, checkpoint_bytes}
use Rattle.indexing.specs.Rows.{entry_rows, checkpoint_rows}

pub entries_of_lem : (c : Commit) → entry_rows c.log c.lsn (pages_of c.segment) ≡ map entry_bytes.spell (entries_of c)
entries_of_lem c = refl

pub checkpoints_of_lem : (c : Commit) → checkpoint_rows c.log c.checkpoints ≡ map checkpoint_bytes.spell (checkpoints_of c)
checkpoints_of_lem c = refl
