-- The items put and those from number k on are all of them, and the notes are those of the commits before number k. The measure is the commits that are left.
use Rattle.std.proofs.Common.{◌-◌, ◌≤◌, length}
use Rattle.notes.specs.Known.{Known}
use Rattle.resultlists.proofs.Putting.{Putting}
use Rattle.gifts.specs.Paths.{places_in, commits_at, before}
use Rattle.gifts.specs.Steps.{items_from}
use Rattle.gifts.specs.Held.{held_by}
use Rattle.walkcalls.specs.Items.{item_bytes}
use Rattle.walkcalls.proofs.put_items.Given as goal

abbrev pub invariant-loop-i : goal.invariant-loop-i
invariant-loop-i l =
    Putting item_bytes 1003 l.initial.list (items_from l.commits l.count.0 (places_in l.path.runs) 0) l.n l.list (items_from l.commits l.count.0 (places_in l.path.runs) l.k) × (l.n ≤ l.k) × (l.k ≤ length (places_in l.path.runs)) × Known (held_by (before l.k (commits_at l.commits (places_in l.path.runs)))) l.notes

abbrev pub decreases-loop-i : goal.decreases-loop-i
decreases-loop-i l = length (places_in l.path.runs) - l.k
