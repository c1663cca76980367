-- Safe, and ends, since the loop goes over a range. The invariant: at most 257 bytes kept, and every slice as long as it was.
use Rattle.std.proofs.Common.{◌≡◌, ◌≤◌, length}
use Rattle.callrun.proofs.run.Given as goal

abbrev pub invariant-loop : goal.invariant-loop
invariant-loop g l =
    (l.r.kept ≤ 257) × (length l.slots ≡ 1052) × (length l.kept ≡ 257) × (length l.volumes ≡ length l.initial.volumes) × (length l.commits ≡ length l.initial.commits) × (length l.checkpoints ≡ length l.initial.checkpoints)
    × (length l.index ≡ length l.initial.index) × (length l.presence ≡ length l.initial.presence)
