-- One step of the walk: the next commit of the path that gets pages, and its gift.
use Rattle.std.specs.Prelude.{◌≡◌, ℕ, ◌+◌, cond, List, [], ◌∷◌, drop, Option as Maybe, Some, None}
use Rattle.std.proofs.Math.Option.{Option, none, some}
use Rattle.rules.specs.Records.{Pages, Segment, Commit}
use Rattle.rules.specs.Pages.{is_empty}
use Rattle.rules.specs.Write.{pages_of}
use Rattle.rules.specs.Walk.{Item, gift, walk_from}
use Rattle.setbytes.specs.Laid.{set_laid}
use Rattle.commits.specs.Places.{commit_at}
use Rattle.masks.specs.Masks.{given}
use Rattle.gifts.specs.declared.Step.{Step}
use Rattle.gifts.specs.declared.Found.{Found}
use Rattle.gifts.specs.Paths.{commits_at, before}

-- commit by commit, with those met so far: empty gifts are left out; k is the number of the first of the places that are left
unfoldable pub step_of : List ℕ → ℕ → List Commit → List ℕ → ℕ → Step × Pages
step_of t count earlier [] k = (record { at = None; next = k }, [])
step_of t count earlier (p ∷ ps) k =
    cond (is_empty (gift count earlier (commit_at t p)))
    (step_of t count (commit_at t p ∷ earlier) ps (k + 1))
    (record { at = Some p; next = k + 1 }, gift count earlier (commit_at t p))

-- from number k of the path's places on
unfoldable pub step_from : List ℕ → ℕ → List ℕ → ℕ → Step × Pages
step_from t count ps k = step_of t count (before k (commits_at t ps)) (drop k ps) k

-- a segment that is there
abbrev pub segment_of : Option Segment → Segment
segment_of none = record { sid = []; pages = []; frames = [] }
segment_of (some s) = s

-- the item of record i, whose segment is there, and its gift
abbrev pub item_at : List ℕ → ℕ → Pages → Item
item_at t i g = record { log = (commit_at t i).log; lsn = (commit_at t i).lsn; segment = segment_of (commit_at t i).segment; pages = g }

-- the items of the walk from number k of the path's places on
unfoldable pub items_from : List ℕ → ℕ → List ℕ → ℕ → List Item
items_from t count ps k = walk_from count (before k (commits_at t ps)) (commits_at t (drop k ps))

-- the masks are those of a gift, if a commit gets one
abbrev pub GiftIn : List ℕ → Maybe ℕ → List ℕ → Pages → Type 0
GiftIn t at left g = (i : ℕ) → at ≡ Some i → given (pages_of (commit_at t i).segment) left ≡ g

-- a step with its gift by value
abbrev pub found_from : List ℕ → ℕ → List ℕ → ℕ → Found
found_from t count ps k = record { at = (step_from t count ps k).0.at; next = (step_from t count ps k).0.next; gift = set_laid (step_from t count ps k).1 }
