-- `batch::record` meets its contract: the bytes at the record's place.
use Rattle.std.proofs.Common.{◌*◌, refl}
use Rattle.octets.proofs.Places.{length_part, part_slice}
use Rattle.batch.proofs.record.Goals as goal

pub returns : goal.returns
returns c =
    let a = c.args in
    let e = part_slice (a.i * a.stride) _ a.stride a.batch.now refl in
    (e, rw e (length_part (a.i * a.stride) a.stride a.batch.now c.requires))
