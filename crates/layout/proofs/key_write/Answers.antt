-- The three stores stand side by side. Assumes nothing.
use Rattle.std.proofs.Common.{◌≡◌, length, arith, rules}
use Rattle.layout.proofs.PlaceLaws.{key_stored}
use Rattle.layout.proofs.key_write.Goals as goal

pub returns : goal.returns
returns c =
    let long : length c.args.log ≡ 16 = search rules in
    key_stored c.args.at c.args.lsn c.args.log c.args.s.now _ _ _ (long) (omega arith) c.store8.ensures c.store_id.ensures c.store64.ensures
