-- A segment's frames, as runs of its bytes with their pages; the frame of a page; joining two runs.
use Rattle.std.specs.Prelude.{ℕ, ◌+◌, cond, ◌&&◌, List, [], ◌∷◌, length, ◌==◌, nat_le}
use Rattle.std.proofs.Math.Option.{Option, none, some}
use Rattle.basics.specs.Answers.{Answer, done, ask, ◌>>=◌, ◌>>◌}
use Rattle.basics.specs.Numbers.{counts}
use Rattle.pageset.specs.Sets.{holds, normal_form}
use Rattle.rules.specs.Lists.{first}
use Rattle.rules.specs.Records.{Id, Pages, Frame, Segment}
use Rattle.rules.specs.Pages.{span, union}
use Rattle.rules.specs.Forms.{lists_form, start_page}
use Rattle.rules.specs.Tables.{same_id}

-- a run of a segment's bytes, from start up to but not at end, and its pages
pub record Part : Type 0 where
  pub sid : Id
  pub start : ℕ
  pub end : ℕ
  pub pages : Pages

-- each frame runs for its size and up to its last page; the next starts at the next byte and next page; its set is that page span within the segment's set
abbrev pub parts_from : Segment → ℕ → ℕ → List Frame → List Part
parts_from s byte page [] = []
parts_from s byte page (f ∷ fs) =
    record { sid = s.sid; start = byte; end = byte + f.size; pages = span page f.last s.pages } ∷ parts_from s (byte + f.size) (f.last + 1) fs

-- frame 1 starts at byte 0 and at the set's first page (page 1 if empty)
unfoldable pub parts_of : Segment → List Part
parts_of s = parts_from s 0 (start_page s.pages) s.frames

-- a page outside the set, or past the last frame, has no frame
unfoldable pub part_of : Segment → ℕ → Option Part
part_of s p = cond (holds s.pages p) (first (λ f. holds f.pages p) (parts_of s)) none

-- ---- the calls

-- a segment's frames
unfoldable pub frame_list : Segment → Answer (List Part)
frame_list s = do
  ask (lists_form s) 3
  done (parts_of s)

-- the frame of a page
unfoldable pub frame_of : Segment → ℕ → Answer (Option Part)
frame_of s p = do
  ask (counts p) 1
  ask (lists_form s) 3
  done (part_of s p)

-- added: the frame's bytes as a part of the lent segment, of which `lent` bytes are there; 23 where the frame reaches past them
abbrev pub within_lent : ℕ → Option Part → Answer (Option Part)
within_lent lent none = done none
within_lent lent (some f) = do
  ask (nat_le f.end lent) 23
  done (some f)

-- the frame's bytes: nothing where the page has no frame
unfoldable pub frame_bytes : Segment → ℕ → ℕ → Answer (Option Part)
frame_bytes s p lent = do
  ask (counts p) 1
  ask (lists_form s) 3
  within_lent lent (part_of s p)

-- joining two ranges needs equal segment and touching bytes; the left-then-right touch is tried first
abbrev pub touching : Part → Part → Option Part
touching a b =
    cond (same_id a.sid b.sid)
    (cond (a.end == b.start) (some (record { sid = a.sid; start = a.start; end = b.end; pages = union a.pages b.pages }))
    (cond (b.end == a.start) (some (record { sid = a.sid; start = b.start; end = a.end; pages = union b.pages a.pages })) none))
    none

-- 22: the joined set needs over 32 windows
abbrev pub joined_part : Option Part → Answer (Option Part)
joined_part none = done none
joined_part (some f) = do
  ask (nat_le (length f.pages) 32) 22
  done (some f)

-- a range's byte start is at most its end; if they cannot join, both come back: nothing
unfoldable pub join : Part → Part → Answer (Option Part)
join a b = do
  ask (nat_le a.start a.end && nat_le b.start b.end) 2
  ask (normal_form a.pages && normal_form b.pages) 3
  joined_part (touching a b)
