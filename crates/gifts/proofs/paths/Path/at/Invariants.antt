-- The place of k is that of `left` in the runs that are left.
use Rattle.std.specs.Prelude.{◌≡◌, drop}
use Rattle.gifts.specs.Paths.{places_in, place_at}
use Rattle.gifts.proofs.paths.Path.at.Given as goal

abbrev pub invariant-loop-run : goal.invariant-loop-run
invariant-loop-run l = place_at l.k (places_in l.run-items) ≡ place_at l.left (places_in (drop l.run-index l.run-items))
