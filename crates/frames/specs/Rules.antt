-- The calls on segments by value, with their numbers. What lies past a count is zero, else 3; the rest is document 01's rule on what the record says.
use Rattle.std.specs.Prelude.{ℕ, ◌-◌, Bool, true, ◌&&◌, List, [], ◌∷◌, take, drop, ◌==◌, nat_le}
use Rattle.std.proofs.Math.Option.{Option, none, some}
use Rattle.pageset.specs.Sets.{normal}
use Rattle.basics.specs.Answers.{Answer, refused, done, ask, ◌>>=◌, ◌>>◌}
use Rattle.basics.specs.Numbers.{counts}
use Rattle.rules.specs.Forms.{lists_form}
use Rattle.rules.specs.Frames.{Part, frame_list, frame_of, frame_bytes}
use Rattle.commit.specs.declared.Frame.{Frame}
use Rattle.commit.specs.declared.SegmentIdx.{SegmentIdx}
use Rattle.commit.specs.Says.{segment_says}

-- every frame is zero
unfoldable pub no_frames : List Frame → Bool
no_frames [] = true
no_frames (f ∷ fs) = f.size == 0 && f.last.0 == 0 && no_frames fs

-- the set is in normal form, at most 16 frames count, and what does not count is zero
unfoldable pub spelled : SegmentIdx → Bool
spelled s = normal s.pages && nat_le s.len 16 && no_frames (drop s.len s.frames)

-- and the frames are in document 01's domain
unfoldable pub frames_ok : SegmentIdx → Bool
frames_ok s = spelled s && lists_form (segment_says s)

-- a segment's frames
unfoldable pub list_rule : SegmentIdx → Answer (List Part)
list_rule s = do
  ask (spelled s) 3
  frame_list (segment_says s)

-- the frame of a page
unfoldable pub frame_rule : SegmentIdx → ℕ → Answer (Option Part)
frame_rule s p = do
  ask (counts p) 1
  ask (spelled s) 3
  frame_of (segment_says s) p

-- the frame's bytes, in a lent segment of which `lent` bytes are there
unfoldable pub bytes_rule : SegmentIdx → ℕ → ℕ → Answer (Option Part)
bytes_rule s p lent = do
  ask (counts p) 1
  ask (spelled s) 3
  frame_bytes (segment_says s) p lent

-- of a part its start and its end
abbrev pub part_bytes : Answer (Option Part) → Answer (Option (ℕ × ℕ))
part_bytes (refused n) = refused n
part_bytes (done none) = done none
part_bytes (done (some f)) = done (some (f.start, f.end))

-- and the bytes from start to end; none where there is no frame, or a refusal
abbrev pub cut_bytes : Answer (Option (ℕ × ℕ)) → List ℕ → List ℕ
cut_bytes (refused n) bytes = []
cut_bytes (done none) bytes = []
cut_bytes (done (some r)) bytes = take (r.1 - r.0) (drop r.0 bytes)
