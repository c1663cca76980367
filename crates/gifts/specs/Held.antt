-- The pages that the earlier commits of a path hold, and what is left of a set's masks without them.
use Rattle.std.specs.Prelude.{◌≡◌, ℕ, ◌+◌, ◌*◌, ◌^◌, ◌<◌, ◌≤◌, Bool, false, not, ◌&&◌, ◌||◌, List, [], ◌∷◌, length, nat_le, slice_index, slice_index_or}
use Rattle.pageset.specs.Sets.{bit, mask_at, holds, zero_window}
use Rattle.rules.specs.Records.{Pages, Commit}
use Rattle.rules.specs.Write.{pages_of}
use Rattle.masks.specs.Masks.{less_masks}
use Rattle.notes.specs.declared.Notes.{Notes}
use Rattle.notes.specs.Known.{Known}

-- these pages have no window from lo to hi
abbrev pub Clear : ℕ → ℕ → Pages → Type 0
Clear lo hi u = (q : ℕ) → lo ≤ q → q ≤ hi → mask_at u q ≡ 0

-- some of the commits holds page p
unfoldable pub held_by : List Commit → ℕ → Bool
held_by [] p = false
held_by (c ∷ cs) p = held_by cs p || holds (pages_of c.segment) p

-- each mask without the pages that the commits hold
unfoldable pub less_all : Pages → List Commit → List ℕ → List ℕ
less_all ws [] ms = ms
less_all ws (c ∷ cs) ms = less_masks ws (pages_of c.segment) (less_all ws cs ms)

-- the masks of a set's windows have 64 bits
abbrev pub Small : Pages → List ℕ → Type 0
Small ws ms = (i : ℕ) → i < length ws → slice_index ms i < 2 ^ 64

-- the pages of a set up to a count that are not held
abbrev pub free : (ℕ → Bool) → ℕ → Pages → ℕ → Bool
free held count ws p = (holds ws p && nat_le p count) && not (held p)

-- the free pages of window i are in the masks `left`, or in the masks `ask`, where pages that are held may be too
abbrev pub SortedAt : (ℕ → Bool) → ℕ → Pages → List ℕ → List ℕ → ℕ → Type 0
SortedAt held count ws left ask i =
    (b : ℕ) → b < 64
    → bit (slice_index left i) b || (bit (slice_index ask i) b && not (held ((slice_index_or ws i zero_window).index * 64 + b)))
    ≡ free held count ws ((slice_index_or ws i zero_window).index * 64 + b)

-- each window is sorted
abbrev pub Sorted : (ℕ → Bool) → ℕ → Pages → List ℕ → List ℕ → Type 0
Sorted held count ws left ask = (i : ℕ) → i < length ws → SortedAt held count ws left ask i

-- whatever pages the notes were of, the windows are sorted by them, and the notes become those of these pages too
abbrev pub AsSorted : Pages → ℕ → Notes → Notes → List ℕ → List ℕ → Type 0
AsSorted ws count n n' left ask =
    (held : ℕ → Bool) → Known held n → Sorted held count ws left ask × Known (λ p. held p || holds ws p) n'
