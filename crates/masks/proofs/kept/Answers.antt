-- A window below that of the count keeps its mask, one above it keeps nothing, and that of the count keeps the low bits of its mask.
use native.Mathlib.Omega.{arith}
use Rattle.masks.proofs.MaskLaws.{kept_whole, kept_none, kept_low}
use Rattle.masks.proofs.kept.Goals as goal

pub returns-then-index-count : goal.returns-then-index-count
returns-then-index-count c = kept_whole c.args.count c.args.index c.args.mask c.if-index-count.true

pub returns-then-count-index : goal.returns-then-count-index
returns-then-count-index c = kept_none c.args.count c.args.index c.args.mask c.if-count-index.true

pub returns : goal.returns
returns c = kept_low c.args.count c.args.index c.args.mask (omega arith)
