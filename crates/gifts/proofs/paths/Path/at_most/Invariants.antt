-- All places fit just where those of the runs that are left fit what is left of the room.
use Rattle.std.specs.Prelude.{◌≡◌, leb, length, drop}
use Rattle.gifts.specs.Paths.{places_in}
use Rattle.gifts.proofs.paths.Path.at_most.Given as goal

abbrev pub invariant-loop-run : goal.invariant-loop-run
invariant-loop-run l = leb (length (places_in l.run-items)) l.slots ≡ leb (length (places_in (drop l.run-index l.run-items))) l.left
