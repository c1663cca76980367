-- The step from `from` on is that from k on, and the notes are those of the commits before number k. Without a place it is the end; an empty gift goes on to the next number. The measure is the commits
-- that are left.
use Rattle.std.specs.Prelude.{◌≡◌, ◌-◌, length}
use Rattle.notes.specs.Known.{Known}
use Rattle.gifts.specs.Paths.{places_in, commits_at, before}
use Rattle.gifts.specs.Steps.{step_from}
use Rattle.gifts.specs.Held.{held_by}
use Rattle.gifts.proofs.next_gift.Given as goal

abbrev pub invariant-loop-i : goal.invariant-loop-i
invariant-loop-i l =
    (step_from l.commits l.count.0 (places_in l.path.runs) l.from ≡ step_from l.commits l.count.0 (places_in l.path.runs) l.k) × Known (held_by (before l.k (commits_at l.commits (places_in l.path.runs)))) l.notes

abbrev pub decreases-loop-i : goal.decreases-loop-i
decreases-loop-i l = length (places_in l.path.runs) - l.k
