-- The two stores stand side by side. Assumes nothing.
use Rattle.std.proofs.Common.{arith}
use Rattle.segmentbytes.proofs.FrameLaws.{frame_stored}
use Rattle.segmentbytes.proofs.frames.frame_write.Goals as goal

pub returns : goal.returns
returns c =
    let a = c.args in
    frame_stored a.at a.f a.s.now _ _ (omega arith) c.store64.ensures c.store32.ensures
