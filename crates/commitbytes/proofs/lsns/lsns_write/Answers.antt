-- The count is stored, and the array behind it. Assumes nothing.
use Rattle.std.proofs.Common.{◌≡◌, length, arith, rules}
use Rattle.commitbytes.proofs.LsnLaws.{laid_8, lsns_stored}
use Rattle.commitbytes.proofs.lsns.lsns_write.Goals as goal

pub overflow_cast-n : goal.overflow_cast-n
overflow_cast-n c =
    let long : length c.args.ns ≡ 8 = search rules in
    omega (arith, laid_8 c.args.n c.args.ns c.requires.laid (long))

pub returns : goal.returns
returns c =
    let long : length c.args.ns ≡ 8 = search rules in
    lsns_stored c.args.at c.args.n c.args.ns c.args.s.now _ _ c.requires.laid (long) (omega arith) c.store8.ensures c.all_write.ensures
