-- Segments and ranges in bytes, and the values that what they spell makes; the places past a count are zero.
use Rattle.std.specs.Prelude.{◌≡◌, ℕ, ◌-◌, Bool, List, ◌++◌, map, length, take, replicate}
use Rattle.table.specs.Table.{runs}
use Rattle.pageset.specs.Sets.{normal_form}
use Rattle.rules.specs.Records as R
use Rattle.rules.specs.Frames.{Part}
use Rattle.commit.specs.declared.Frame.{Frame}
use Rattle.commit.specs.declared.SegmentIdx.{SegmentIdx}
use Rattle.commit.specs.declared.SegmentRange.{SegmentRange}
use Rattle.commit.specs.Builders.{zero_frame}
use Rattle.commit.specs.Says.{frame_says}
use Rattle.layout.specs.Codecs.{Codec}
use Rattle.layout.specs.Values.{frame_bytes}
use Rattle.setbytes.specs.Laid.{set_laid}

-- the n frames that stand at a place
unfoldable pub frames_at : ℕ → ℕ → List ℕ → List R.Frame
frames_at n at s = map frame_bytes.read (runs n 12 at s)

-- a frame
abbrev pub frame_laid : R.Frame → Frame
frame_laid f = record { size = f.size; last = record { 0 = f.last } }

-- frames, in the places for them
abbrev pub frames_laid : List R.Frame → List Frame
frames_laid fs = map frame_laid fs ++ replicate (16 - length fs) zero_frame

-- an array of frames is laid out for what its first n say: it counts no more than there are, and is zero past them
pub record IsLaid (n : ℕ) (fs : List Frame) : Type 0 where
  pub count : length (map frame_says (take n fs)) ≡ n
  pub array : frames_laid (map frame_says (take n fs)) ≡ fs

-- a segment
abbrev pub segment_laid : R.Segment → SegmentIdx
segment_laid s = record { sid = s.sid; pages = set_laid s.pages; len = length s.frames; frames = frames_laid s.frames }

-- a range of a segment
abbrev pub range_laid : Part → SegmentRange
range_laid p = record { sid = p.sid; start = p.start; end = p.end; pages = set_laid p.pages }

-- the form of a range: its set's; that it does not end before it starts is number 2
abbrev pub part_form : Part → Bool
part_form p = normal_form p.pages
