-- A shift and a mask read one bit. Assumes nothing.
use Rattle.pageset.proofs.BitLaws.{shifted_bit}
use Rattle.pageset.proofs.bits.has_bit.Goals as goal

pub returns : goal.returns
returns c = shifted_bit _ _
