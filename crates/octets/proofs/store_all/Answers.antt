-- `octets::store_all` meets its contract: the part is what was copied over it.
use Rattle.std.proofs.Common.{arith}
use Rattle.octets.proofs.Places.{put_mid_put}
use Rattle.octets.proofs.store_all.Goals as goal

pub returns : goal.returns
returns c =
    let a = c.args in
    rw c.copy_from_slice.ensures.after (put_mid_put a.at _ a.b.now a.s.now (omega arith))
