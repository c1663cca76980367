-- Safe, and ends. The invariant: a place of the block, at most 257 bytes kept, no more bytes waiting than there is room for, and every slice as long as it was. The measure: what is left of the block.
use Rattle.std.proofs.Common.{◌≡◌, ◌-◌, ◌≤◌, length}
use Rattle.callrun.proofs.block_lines.Given as goal

abbrev pub invariant-loop-at : goal.invariant-loop-at
invariant-loop-at g l =
    (l.at ≤ length l.block) × (l.n ≤ 257) × (l.waiting ≤ 8192) × (length l.out ≡ 8192) × (length l.slots ≡ 1052) × (length l.kept ≡ 257) × (length l.volumes ≡ length l.initial.volumes)
    × (length l.commits ≡ length l.initial.commits) × (length l.checkpoints ≡ length l.initial.checkpoints) × (length l.index ≡ length l.initial.index) × (length l.presence ≡ length l.initial.presence)

abbrev pub decreases-loop-at : goal.decreases-loop-at
decreases-loop-at g l =
    length l.block - l.at
