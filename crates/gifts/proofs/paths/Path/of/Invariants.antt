-- The runs of the ranges passed are in their places, and empty ones past them.
use Rattle.gifts.proofs.PathLaws.{Found}
use Rattle.std.specs.Prelude.{◌≡◌, [], ◌++◌, map, length, get_or, take, drop}
use Rattle.octets.specs.Tab.{tab}
use Rattle.volume.specs.declared.snapshot.LogRange.{LogRange}
use Rattle.volume.specs.Snapshots.{range_says}
use Rattle.gifts.specs.Paths.{run_of}
use Rattle.gifts.proofs.paths.Path.of.Given as goal

-- what an index past the array would read
abbrev past : LogRange
past = record { log = []; start = record { 0 = 0 }; end = record { 0 = 0 } }

abbrev pub invariant-loop-i : goal.invariant-loop-i
invariant-loop-i l = (length l.runs ≡ length l.initial.runs) × (l.runs ≡ tab (λ k. run_of l.commits (range_says (get_or l.s.path k past))) l.i ++ drop l.i l.initial.runs) × Found l.commits (map range_says (take l.i l.s.path))
