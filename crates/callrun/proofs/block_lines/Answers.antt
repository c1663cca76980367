-- Safe, and ends. The invariant: a place of the block, at most 257 bytes kept, no more bytes waiting than there is room for, and every slice as long as it was. The measure: what is left of the block.
use Rattle.std.proofs.Common.{◌-◌, arith}
use Rattle.callrun.proofs.block_lines.Goals as goal

pub slice_bounds-keep-count : goal.slice_bounds-keep-count
slice_bounds-keep-count g c = omega (arith, c.piece_end-end.ensures.0, c.piece_end-end.ensures.1)

pub loop-at-smaller-then-end-block : goal.loop-at-smaller-then-end-block
loop-at-smaller-then-end-block g c = omega (arith, c.piece_end-end.ensures.0, c.piece_end-end.ensures.1, c.loop-at-test.true)

pub loop-at-smaller : goal.loop-at-smaller
loop-at-smaller g c = omega (arith, c.piece_end-end.ensures.0, c.piece_end-end.ensures.1, c.loop-at-test.true, c.if-end-block.false)
