-- The three ways out are none, all and some of the 64 bits. Assumes nothing.
use Rattle.std.proofs.Common.{◌∙◌, arith}
use Rattle.pageset.proofs.RangeLaws.{up_to_is}
use Rattle.pageset.proofs.bits.up_to.Goals as goal

pub returns-then-n-base : goal.returns-then-n-base
returns-then-n-base c = up_to_is c.args.n c.args.q 0 (omega arith)

pub returns-then-k-ge63 : goal.returns-then-k-ge63
returns-then-k-ge63 c = up_to_is c.args.n c.args.q 64 (omega arith)

pub returns : goal.returns
returns c = c.low_bits.ensures ∙ up_to_is c.args.n c.args.q _ (omega arith)
