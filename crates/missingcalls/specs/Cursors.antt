-- A listing of missing frames, one after another: what is left of it at a cursor, and what a step finds.
use Rattle.std.specs.Prelude.{◌≡◌, ℕ, ◌<◌, Bool, true, false, List, [], ◌∷◌, ◌++◌, length, drop, Option, Some, None}
use Rattle.pageset.specs.Sets.{shown, normal}
use Rattle.pageset.specs.Says.{empty_set}
use Rattle.rules.specs.Lists.{those, is_some}
use Rattle.rules.specs.Records.{Pages, Present}
use Rattle.rules.specs.Tables.{Table}
use Rattle.rules.specs.Frames.{Part, parts_of}
use Rattle.rules.specs.Walk.{is_missing, missing_of}
use Rattle.table.specs.Table.{count_of}
use Rattle.commit.specs.declared.SegmentRange.{SegmentRange}
use Rattle.commit.specs.Says.{range_says, zero_range}
use Rattle.commits.specs.Places.{commit_at}
use Rattle.gifts.specs.Steps.{segment_of, items_from}
use Rattle.missingcalls.specs.declared.Cursor.{Cursor}
use Rattle.missingcalls.specs.declared.Missing.{Missing as Step}
use Rattle.missingcalls.specs.declared.FrameStep.{FrameStep}

-- the frames of record i
abbrev pub frames_at : List ℕ → ℕ → List Part
frames_at t i = parts_of (segment_of (commit_at t i).segment)

-- the missing ones of frames, from a number on
abbrev pub frames_left : Table Present → Pages → List Part → ℕ → List Part
frames_left ps g fs j = those (is_missing ps g) (drop j fs)

-- a range that fills its bytes: an identifier of 16 bytes, and a set in normal form
pub record Fit (r : SegmentRange) : Type 0 where
  pub sid : length r.sid ≡ 16
  pub normal : normal r.pages ≡ true

-- the next missing frame, and those from the next number on; or none is left
abbrev pub FrameBy : Bool → List Part → SegmentRange → List Part → Type 0
FrameBy true all r rest = (all ≡ range_says r ∷ rest) × Fit r
FrameBy false all r rest = all ≡ []

pub record NextFrame (ps : Table Present) (g : Pages) (fs : List Part) (j : ℕ) (s : FrameStep) : Type 0 where
  pub next : FrameBy s.found (frames_left ps g fs j) s.range (frames_left ps g fs s.frame)

-- ---- cursors

-- a record that is listed is one of the table, and has a segment
abbrev pub SoundAt : List ℕ → Option ℕ → Type 0
SoundAt t None = Unit {0}
SoundAt t (Some i) = (i < count_of t) × (is_some (commit_at t i).segment ≡ true)

pub record Sound (t : List ℕ) (c : Cursor) : Type 0 where
  pub place : SoundAt t c.at
  pub gift : normal c.gift ≡ true

-- before the first
abbrev pub start_cursor : Cursor
start_cursor = record { at = None; gift = empty_set; frame = 0; next = 0 }

-- what is left of the record that is listed
abbrev pub left_at : List ℕ → Table Present → Option ℕ → Pages → ℕ → List Part
left_at t ps None g j = []
left_at t ps (Some i) g j = frames_left ps g (frames_at t i) j

-- and then of the items from the next number of the path on
unfoldable pub missing_left : List ℕ → Table Present → ℕ → List ℕ → Cursor → List Part
missing_left t ps count places c = left_at t ps c.at (shown c.gift) c.frame ++ missing_of ps (items_from t count places c.next)

-- a step finds the first of what is left and a cursor at which the rest is left; or none is left, and the answer is the empty one
abbrev pub StepBy : List ℕ → Table Present → ℕ → List ℕ → Bool → List Part → Step → Type 0
StepBy t ps count places true all s = (all ≡ range_says s.range ∷ missing_left t ps count places s.rest) × (Fit s.range × Sound t s.rest)
StepBy t ps count places false all s = (all ≡ []) × ((s.range ≡ zero_range) × (s.rest ≡ start_cursor))

pub record NextMissing (t : List ℕ) (ps : Table Present) (count : ℕ) (places : List ℕ) (all : List Part) (s : Step) : Type 0 where
  pub next : StepBy t ps count places s.found all s
