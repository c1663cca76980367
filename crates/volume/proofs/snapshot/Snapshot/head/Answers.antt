-- A path of at least one range has a first. Assumes nothing.
use Rattle.std.proofs.Common.{◌≡◌, ◌<◌, length, arith}
use Rattle.volume.proofs.SnapshotLaws.{places}
use Rattle.volume.proofs.PathLaws.{first_end_lem}
use Rattle.volume.proofs.snapshot.Snapshot.head.Goals as goal

pub returns-then-self-eq0 : goal.returns-then-self-eq0
returns-then-self-eq0 c = rw c.if-self-eq0.true

pub returns : goal.returns
returns c =
    let l : length c.args.self.path ≡ 8 = places c.args.self _ c.well_formed.0 in
    let n : 0 < c.args.self.len = omega arith in
    first_end_lem c.args.self.path _ c.args.self.len n (omega arith)
