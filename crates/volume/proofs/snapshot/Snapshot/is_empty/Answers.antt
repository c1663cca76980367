-- The path has room for a range, so none is on it exactly where its length is 0. Assumes nothing.
use Rattle.std.proofs.Common.{◌≡◌, length, arith}
use Rattle.volume.proofs.SnapshotLaws.{places}
use Rattle.volume.proofs.PathLaws.{none_on}
use Rattle.volume.proofs.snapshot.Snapshot.is_empty.Goals as goal

pub returns : goal.returns
returns c =
    let l : length c.args.self.path ≡ 8 = places c.args.self _ c.well_formed.0 in
    none_on c.args.self.path c.args.self.len (omega arith)
