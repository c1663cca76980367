-- What a segment or a range that is laid out says is what it was laid out for, and both round trips: what was written is read again, and what was read is written
-- as it stood.
use Rattle.std.proofs.Common.{◌≡◌, ℕ, ◌+◌, ◌^◌, ◌<◌, ◌≤◌, true, List, length, refl, ap, ap₂}
use Rattle.octets.specs.Bytes.{part, put}
use Rattle.pageset.specs.declared.PageSet.{PageSet}
use Rattle.pageset.specs.Sets.{normal}
use Rattle.rules.specs.Records as R
use Rattle.rules.specs.Frames.{Part}
use Rattle.rules.specs.Forms.{id_form, segment_form}
use Rattle.commit.specs.declared.SegmentIdx.{SegmentIdx}
use Rattle.commit.specs.declared.SegmentRange.{SegmentRange}
use Rattle.commit.specs.Builders.{new_segment}
use Rattle.commit.specs.Says.{segment_says, range_says}
use Rattle.layout.specs.Codecs.{in_form}
use Rattle.layout.specs.Values.{window_bytes, set_bytes, frame_bytes, frames_bytes, segment_bytes, part_bytes}
use Rattle.layout.proofs.FormHolds.{segment_held, part_held}
use Rattle.pageset.proofs.FormLaws.{shown_form}
use Rattle.setbytes.proofs.LaidLaws.{says_laid, laid_says}
use Rattle.setbytes.proofs.TripLaws.{read_again, written_again}
use Rattle.segmentbytes.specs.Laid.{segment_laid, range_laid, part_form, IsLaid}
use Rattle.segmentbytes.proofs.FrameLaws.{says_frames}

-- ---- what is said

pub segment_says_lem : (v : R.Segment) → segment_says (segment_laid v) ≡ v
segment_says_lem v =
    ap₂ {C = R.Segment} (λ (ws : R.Pages) (fs : List R.Frame). record { sid = v.sid; pages = ws; frames = fs }) (says_laid v.pages) (says_frames v.frames (length v.frames) refl)

range_says_lem : (p : Part) → range_says (range_laid p) ≡ p
range_says_lem p = ap (λ (ws : R.Pages). record { sid = p.sid; start = p.start; end = p.end; pages = ws }) (says_laid p.pages)

-- a segment is laid out where its set is in normal form and its frames are laid out; so is one without frames
segment_laid_lem : (x : SegmentIdx) → normal x.pages ≡ true → IsLaid x.len x.frames → segment_laid (segment_says x) ≡ x
segment_laid_lem x e f =
    let p = laid_says x.pages e in
    let n = f.count in
    let a = f.array in
    λ j. record { sid = x.sid; pages = p j; len = n j; frames = a j }

pub new_laid : (sid : List ℕ) (pages : PageSet) → normal pages ≡ true → segment_laid (segment_says (new_segment sid pages)) ≡ new_segment sid pages
new_laid sid pages e = segment_laid_lem (new_segment sid pages) e (record { count = refl; array = refl })

pub range_laid_lem : (x : SegmentRange) → normal x.pages ≡ true → range_laid (range_says x) ≡ x
range_laid_lem x e =
    let p = laid_says x.pages e in
    λ j. record { sid = x.sid; start = x.start; end = x.end; pages = p j }

-- ---- the round trips

module _ (s : List ℕ) (at : ℕ) where
  pub segment_read_again : at + 594 ≤ length s → (x : SegmentIdx) → segment_form (segment_says x) ≡ true → segment_laid (segment_says x) ≡ x
      → segment_laid (segment_bytes.read (part at 594 (put at (segment_bytes.spell (segment_says x)) s))) ≡ x
  unfolding segment_bytes set_bytes window_bytes frames_bytes frame_bytes
  segment_read_again h x f e = read_again segment_bytes segment_says segment_laid s at h x (segment_held (segment_says x) f) e

  pub segment_written_again : at + 594 ≤ length s → in_form segment_bytes segment_form (part at 594 s) ≡ true
      → put at (segment_bytes.spell (segment_says (segment_laid (segment_bytes.read (part at 594 s))))) s ≡ s
  unfolding segment_bytes set_bytes window_bytes frames_bytes frame_bytes
  segment_written_again h f = written_again segment_bytes segment_says segment_laid s at h segment_form f (segment_says_lem (segment_bytes.read (part at 594 s)))

  pub range_read_again : at + 417 ≤ length s → (x : SegmentRange) → id_form x.sid ≡ true → x.start < 256 ^ 8 → x.end < 256 ^ 8 → normal x.pages ≡ true
      → range_laid (part_bytes.read (part at 417 (put at (part_bytes.spell (range_says x)) s))) ≡ x
  unfolding part_bytes set_bytes window_bytes
  range_read_again h x i b e n = read_again part_bytes range_says range_laid s at h x (part_held (range_says x) i b e (shown_form x.pages n)) (range_laid_lem x n)

  pub range_written_again : at + 417 ≤ length s → in_form part_bytes part_form (part at 417 s) ≡ true → put at (part_bytes.spell (range_says (range_laid (part_bytes.read (part at 417 s))))) s ≡ s
  unfolding part_bytes set_bytes window_bytes
  range_written_again h f = written_again part_bytes range_says range_laid s at h part_form f (range_says_lem (part_bytes.read (part at 417 s)))
