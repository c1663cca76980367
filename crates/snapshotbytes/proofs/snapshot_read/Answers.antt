-- A snapshot is read field by field.
use Rattle.snapshotbytes.proofs.Reading.{read_laid}
use Rattle.snapshotbytes.proofs.snapshot_read.Goals as goal

pub returns : goal.returns
returns c =
    let a = c.args in
    read_laid a.s.now a.at c.requires c.ranges_at-len.result c.ranges_at-len.ensures c.path_read-path.result c.load32.result c.path_read-path.ensures c.load32.ensures
