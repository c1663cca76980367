-- The frames counted and those of the items from number k on are all of them. The measure is the commits that are left.
use Rattle.std.proofs.Common.{◌≡◌, ◌+◌, ◌-◌, length}
use Rattle.rules.specs.Walk.{missing_of}
use Rattle.layout.specs.Tables.{presence_in}
use Rattle.notes.specs.Known.{Known}
use Rattle.gifts.specs.Paths.{places_in, commits_at, before}
use Rattle.gifts.specs.Steps.{items_from}
use Rattle.gifts.specs.Held.{held_by}
use Rattle.missingcalls.proofs.count_missing.Given as goal

abbrev pub invariant-loop-i : goal.invariant-loop-i
invariant-loop-i l =
    (l.n + length (missing_of (presence_in l.presence) (items_from l.commits l.count.0 (places_in l.path.runs) l.k)) ≡ length (missing_of (presence_in l.presence) (items_from l.commits l.count.0 (places_in l.path.runs) 0))) × (length l.none ≡ 1) × Known (held_by (before l.k (commits_at l.commits (places_in l.path.runs)))) l.notes

abbrev pub decreases-loop-i : goal.decreases-loop-i
decreases-loop-i l = length (places_in l.path.runs) - l.k
