-- The two stores stand side by side. Assumes nothing.
use Rattle.std.proofs.Common.{arith}
use Rattle.setbytes.proofs.WindowLaws.{window_stored}
use Rattle.setbytes.proofs.window_write.Goals as goal

pub returns : goal.returns
returns c =
    let a = c.args in
    window_stored a.at a.w a.s.now _ _ (omega arith) c.store32.ensures c.store64.ensures
