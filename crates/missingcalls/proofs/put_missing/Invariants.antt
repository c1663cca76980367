-- The frames put and those of the items from number k on are all of them (`Putting`). The measure is the commits that are left.
use Rattle.std.proofs.Common.{◌-◌, length}
use Rattle.rules.specs.Walk.{missing_of}
use Rattle.layout.specs.Values.{part_bytes}
use Rattle.layout.specs.Tables.{presence_in}
use Rattle.notes.specs.Known.{Known}
use Rattle.gifts.specs.Paths.{places_in, commits_at, before}
use Rattle.gifts.specs.Steps.{items_from}
use Rattle.gifts.specs.Held.{held_by}
use Rattle.resultlists.proofs.Putting.{Putting}
use Rattle.missingcalls.proofs.put_missing.Given as goal

abbrev pub invariant-loop-i : goal.invariant-loop-i
invariant-loop-i l =
    Putting part_bytes 417 l.initial.list (missing_of (presence_in l.presence) (items_from l.commits l.count.0 (places_in l.path.runs) 0)) l.n l.list (missing_of (presence_in l.presence) (items_from l.commits l.count.0 (places_in l.path.runs) l.k)) × Known (held_by (before l.k (commits_at l.commits (places_in l.path.runs)))) l.notes

abbrev pub decreases-loop-i : goal.decreases-loop-i
decreases-loop-i l = length (places_in l.path.runs) - l.k
