-- The bits up to hi without those up to lo - 1. Assumes nothing.
use Rattle.std.proofs.Common.{ℕ, ◌-◌, ◌^◌, ap₂}
use lib.Bits.{bit_and}
use Rattle.pageset.specs.Windows.{span_mask}
use Rattle.pageset.proofs.bits.span_mask.Goals as goal

pub returns : goal.returns
unfolding span_mask
returns c = ap₂ (λ (x y : ℕ). bit_and x ((2 ^ 64 - 1) - y)) c.up_to.ensures c.up_to-2.ensures
