-- The frames of a segment that stands in bytes, one at a time.
use Rattle.std.specs.Prelude.{◌≡◌, ℕ, ◌+◌, true, List, ◌∷◌, length, drop}
use Rattle.octets.specs.Bytes.{part}
use Rattle.pageset.specs.Sets.{normal}
use Rattle.rules.specs.Records.{Segment}
use Rattle.rules.specs.Pages.{span}
use Rattle.rules.specs.Frames.{Part}
use Rattle.commit.specs.declared.SegmentRange.{SegmentRange}
use Rattle.commit.specs.Says.{range_says}
use Rattle.frames.specs.declared.Run.{Run}
use Rattle.layout.specs.Values.{segment_bytes}

-- the segment that stands at a place
abbrev pub segment_in : ℕ → List ℕ → Segment
segment_in at b = segment_bytes.read (part at 594 b)

-- number k of a list, counted from 0
abbrev pub Nth : {A : Type 0} → List A → ℕ → A → Type 0
Nth l k x = drop k l ≡ x ∷ drop (k + 1) l

-- a run of a segment's bytes, with the pages of its set from the run's first page to its last
abbrev pub run_in : Segment → Run → Part
run_in s r = record { sid = s.sid; start = r.start; end = r.end; pages = span r.first.0 r.last.0 s.pages }

-- the range says part k, its identifier has 16 bytes, and its set is in normal form
pub record IsFrame (fs : List Part) (k : ℕ) (r : SegmentRange) : Type 0 where
  pub says : Nth fs k (range_says r)
  pub sid : length r.sid ≡ 16
  pub normal : normal r.pages ≡ true
