-- The items counted and those from number k on are all of them, and the notes are those of the commits before number k. The measure is the commits that are left.
use Rattle.std.proofs.Common.{◌≡◌, ◌+◌, ◌-◌, ◌≤◌, length}
use Rattle.notes.specs.Known.{Known}
use Rattle.gifts.specs.Paths.{places_in, commits_at, before}
use Rattle.gifts.specs.Steps.{items_from}
use Rattle.gifts.specs.Held.{held_by}
use Rattle.walkcalls.proofs.count_items.Given as goal

abbrev pub invariant-loop-n : goal.invariant-loop-n
invariant-loop-n l =
    (l.n + length (items_from l.commits l.count.0 (places_in l.path.runs) l.k) ≡ length (items_from l.commits l.count.0 (places_in l.path.runs) 0)) × (l.n ≤ l.k) × (l.k ≤ length (places_in l.path.runs)) × Known (held_by (before l.k (commits_at l.commits (places_in l.path.runs)))) l.notes

abbrev pub decreases-loop-n : goal.decreases-loop-n
decreases-loop-n l = length (places_in l.path.runs) - l.k
