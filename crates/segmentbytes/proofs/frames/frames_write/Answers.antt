-- The count is stored, and the array behind it. Assumes nothing.
use Rattle.std.proofs.Common.{◌≡◌, length, arith, rules}
use Rattle.segmentbytes.proofs.FrameLaws.{laid_16, frames_stored}
use Rattle.segmentbytes.proofs.frames.frames_write.Goals as goal

pub overflow_cast-n : goal.overflow_cast-n
overflow_cast-n c =
    let long : length c.args.fs ≡ 16 = search rules in
    omega (arith, laid_16 c.args.n c.args.fs c.requires.laid (long))

pub returns : goal.returns
returns c =
    let long : length c.args.fs ≡ 16 = search rules in
    frames_stored c.args.at c.args.n c.args.fs c.args.s.now _ _ c.requires.laid (long) (omega arith) c.store8.ensures c.all_write.ensures
