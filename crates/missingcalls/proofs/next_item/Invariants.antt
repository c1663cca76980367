-- The missing frames of the items from `from` on are those of the items from `next` on; the notes know nothing at first, and then what the steps noted. The measure is the commits that are left.
use Rattle.std.proofs.Common.{◌≡◌, ◌-◌, length}
use Rattle.rules.specs.Walk.{missing_of}
use Rattle.layout.specs.Tables.{presence_in}
use Rattle.notes.specs.Known.{Known}
use Rattle.gifts.specs.Paths.{places_in, commits_at, before}
use Rattle.gifts.specs.Steps.{items_from}
use Rattle.gifts.specs.Held.{held_by}
use Rattle.missingcalls.proofs.next_item.Given as goal

abbrev pub invariant-loop-i : goal.invariant-loop-i
invariant-loop-i l =
    (missing_of (presence_in l.presence) (items_from l.commits l.count.0 (places_in l.path.runs) l.from) ≡ missing_of (presence_in l.presence) (items_from l.commits l.count.0 (places_in l.path.runs) l.next)) × Known (held_by (before l.next (commits_at l.commits (places_in l.path.runs)))) l.notes

abbrev pub decreases-loop-i : goal.decreases-loop-i
decreases-loop-i l = length (places_in l.path.runs) - l.next
