-- The invariant: the first i ranges are read, and zero stands past them.
use Rattle.std.specs.Prelude.{◌≡◌, ◌++◌, length, drop, replicate}
use Rattle.octets.specs.Tab.{tab}
use Rattle.volume.specs.Snapshots.{no_range}
use Rattle.snapshotbytes.proofs.Reading.{range_at}
use Rattle.snapshotbytes.proofs.path_read.Given as goal

abbrev pub invariant-loop-i : goal.invariant-loop-i
invariant-loop-i l = (length l.path ≡ 8) × (l.path ≡ tab (range_at l.s l.at) l.i ++ drop l.i (replicate 8 no_range))
