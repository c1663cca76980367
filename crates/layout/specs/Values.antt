-- The byte forms of page sets, segments, ranges of a segment, and snapshots.
use Rattle.std.specs.Prelude.{ℕ, List}
use Rattle.pageset.specs.declared.Window.{Window}
use Rattle.rules.specs.Records.{Id, Pages, Frame, Segment, Range, Snapshot}
use Rattle.rules.specs.Frames.{Part}
use Rattle.layout.specs.Codecs.{Codec, number, raw, reserved, listed, pair, viewed}

-- an identifier
abbrev pub id_bytes : Codec Id
id_bytes = raw 16

abbrev pub window_of : ℕ × ℕ → Window
window_of x = record { index = x.0; mask = x.1 }

abbrev pub window_parts : Window → ℕ × ℕ
window_parts w = (w.index, w.mask)

-- a window: its index and its mask
unfoldable pub window_bytes : Codec Window
window_bytes = viewed (pair (number 4) (number 8)) window_of window_parts

-- a page set: at most 32 windows
unfoldable pub set_bytes : Codec Pages
set_bytes = listed window_bytes 32

abbrev pub frame_of : ℕ × ℕ → Frame
frame_of x = record { size = x.0; last = x.1 }

abbrev pub frame_parts : Frame → ℕ × ℕ
frame_parts f = (f.size, f.last)

-- a frame: its size and its last page
unfoldable pub frame_bytes : Codec Frame
frame_bytes = viewed (pair (number 8) (number 4)) frame_of frame_parts

-- at most 16 frames
unfoldable pub frames_bytes : Codec (List Frame)
frames_bytes = listed frame_bytes 16

abbrev pub segment_of : Id × (Pages × List Frame) → Segment
segment_of x = record { sid = x.0; pages = x.1.0; frames = x.1.1 }

abbrev pub segment_parts : Segment → Id × (Pages × List Frame)
segment_parts s = (s.sid, (s.pages, s.frames))

-- a segment: its identifier, its page set, its frames
unfoldable pub segment_bytes : Codec Segment
segment_bytes = viewed (pair id_bytes (pair set_bytes frames_bytes)) segment_of segment_parts

abbrev pub part_of : Id × (ℕ × (ℕ × Pages)) → Part
part_of x = record { sid = x.0; start = x.1.0; end = x.1.1.0; pages = x.1.1.1 }

abbrev pub part_parts : Part → Id × (ℕ × (ℕ × Pages))
part_parts p = (p.sid, (p.start, (p.end, p.pages)))

-- a range of a segment: its identifier, its first byte, the byte after its last, its pages
unfoldable pub part_bytes : Codec Part
part_bytes = viewed (pair id_bytes (pair (number 8) (pair (number 8) set_bytes))) part_of part_parts

abbrev pub range_of : Id × (ℕ × ℕ) → Range
range_of x = record { log = x.0; start = x.1.0; end = x.1.1 }

abbrev pub range_parts : Range → Id × (ℕ × ℕ)
range_parts r = (r.log, (r.start, r.end))

-- a range of a log: the log, its first LSN, its last LSN
unfoldable pub range_bytes : Codec Range
range_bytes = viewed (pair id_bytes (pair (number 8) (number 8))) range_of range_parts

abbrev pub snapshot_of : ℕ × List Range → Snapshot
snapshot_of x = record { path = x.1; count = x.0 }

abbrev pub snapshot_parts : Snapshot → ℕ × List Range
snapshot_parts s = (s.count, s.path)

-- a snapshot: a reserved byte, its page count, at most 8 ranges
unfoldable pub snapshot_bytes : Codec Snapshot
snapshot_bytes = viewed (reserved (pair (number 4) (listed range_bytes 8))) snapshot_of snapshot_parts
