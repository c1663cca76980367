-- The masks are those without the pages of the first j commits. Where no mask has a page, or there is no commit, nothing changes any more; a commit whose windows lie apart takes nothing.
use Rattle.std.specs.Prelude.{◌≡◌, length}
use Rattle.setbytes.specs.Laid.{windows_at}
use Rattle.gifts.specs.Paths.{places_in, commits_at, before}
use Rattle.gifts.specs.Held.{less_all}
use Rattle.gifts.proofs.ask_all.Given as goal

abbrev pub invariant-loop-j : goal.invariant-loop-j
invariant-loop-j l =
    (length l.masks ≡ 32) × (l.masks ≡ less_all (windows_at l.n l.at l.commits) (before l.j (commits_at l.commits (places_in l.path.runs))) l.initial.masks)
