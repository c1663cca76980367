-- Below 64 bits a shift gives the power of two; at 64 all bits are set. Assumes nothing.
use Rattle.std.proofs.Common.{◌≡◌, ℕ, ◌-◌, ◌^◌, sym, ap, arith, pow_pos}
use Rattle.pageset.proofs.BitLaws.{shl_one}
use Rattle.pageset.proofs.bits.low_bits.Goals as goal

pub overflow_sub-result : goal.overflow_sub-result
overflow_sub-result c = let k = c.args.k in omega (arith, shl_one 64 k (omega arith), pow_pos k)

pub returns-then-k-lt64 : goal.returns-then-k-lt64
returns-then-k-lt64 c = let k = c.args.k in omega (arith, shl_one 64 k (omega arith))

pub returns-else-k-lt64 : goal.returns-else-k-lt64
returns-else-k-lt64 c = let e : c.args.k ≡ 64 = omega arith in ap (λ (x : ℕ). 2 ^ x - 1) (sym e)
