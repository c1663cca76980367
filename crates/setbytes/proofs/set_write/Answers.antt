-- The count is stored, and the array behind it. Assumes nothing.
use Rattle.std.proofs.Common.{◌≡◌, length, arith}
use Rattle.pageset.proofs.WalkLaws.{long_of}
use Rattle.setbytes.proofs.LaidLaws.{laid_few}
use Rattle.setbytes.proofs.SetLaws.{set_stored}
use Rattle.setbytes.proofs.set_write.Goals as goal

pub overflow_cast-n : goal.overflow_cast-n
overflow_cast-n c =
    let long : length c.args.x.windows ≡ 32 = long_of c.args.x _ c.well_formed.1.1.0 in
    omega (arith, laid_few c.args.x c.requires.x_value (long))

pub returns : goal.returns
returns c =
    let long : length c.args.x.windows ≡ 32 = long_of c.args.x _ c.well_formed.1.1.0 in
    set_stored c.args.at c.args.x c.args.s.now _ _ c.requires.x_value (long) (omega arith) c.store8.ensures c.windows_write.ensures
