-- One range, and then the ranges that do not name the local log.
use Rattle.std.proofs.Common.{arith}
use Rattle.paths.proofs.LeftLaws.{without_left, without_says}
use Rattle.copycalls.proofs.log_path.Goals as goal

pub without-requires : goal.without-requires
without-requires c = omega arith

pub returns : goal.returns
returns c = (without_left _ _ _ _ (omega arith) c.without.ensures, without_says _ _ _ _ c.without.ensures)
