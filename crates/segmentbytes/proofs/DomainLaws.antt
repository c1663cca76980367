-- The frames of a segment in bytes. A loop walks their domain: what is left of it decides, from the page after the last one passed, within what is left of the
-- sum. Their form asks for a count within 16, the domain, and zeros behind them. Assumes nothing.
use Rattle.std.proofs.Common.{◌≡◌, ℕ, suc, ◌+◌, ◌-◌, ◌*◌, ◌^◌, ◌<◌, ◌≤◌, min, Bool, true, false, ◌&&◌, leb, List, [], ◌∷◌, ◌++◌, map, length, drop, replicate, sym, refl, ap, ◌∙◌, ap₂, add-one, arith, drop_of_length-le, drop-cons, le-leb, leb-false, leb-true}
use borrow.Author.Tests.{lt-leb}
use Rattle.octets.specs.Bytes.{be, part, AreBytes, all_zero}
use Rattle.octets.specs.Tab.{tab}
use Rattle.table.specs.Table.{runs}
use Rattle.basics.specs.Numbers.{last_lsn, last_page}
use Rattle.pageset.proofs.FormLaws.{and_left, and_right}
use Rattle.rules.specs.Records.{Frame}
use Rattle.rules.specs.Forms.{lasts_from, total}
use Rattle.rules.proofs.TableLaws.{cases}
use Rattle.commit.specs.declared.Frame as C
use Rattle.commit.specs.Builders.{zero_frame}
use Rattle.layout.specs.Codecs.{Codec, in_form}
use Rattle.layout.specs.Values.{frame_bytes, frames_bytes}
use Rattle.setbytes.proofs.ListLaws.{list_at, list_over, list_not, list_but, filled}
use Rattle.segmentbytes.specs.Laid.{frames_at, frame_laid, frames_laid}
use Rattle.segmentbytes.specs.Domain.{domain, frames_from}
use Rattle.segmentbytes.proofs.FrameLaws.{length_frames, frame_nth, frame_steady, frame_free}

module _ (n at : ℕ) (s : List ℕ) (i below room : ℕ) where
  abbrev left : List Frame
  left = drop i (frames_at n at s)

  abbrev later : List Frame
  later = drop (i + 1) (frames_at n at s)

  pub domain_end : n ≤ i → domain (below + 1) room (drop i (frames_at n at s)) ≡ true
  unfolding lasts_from
  domain_end h = ap (domain (below + 1) room) (drop_of_length-le (frames_at n at s) {i = i} (omega (arith, length_frames n at s))) ∙ le-leb 0 room (omega arith)

  -- frame i, as the code reads it
  module _ (h : i < n) (f : Frame) (e : f ≡ frame_bytes.read (part (at + i * 12) 12 s)) where
    next : domain (below + 1) room left ≡ domain (below + 1) room (f ∷ later)
    next =
        ap (domain (below + 1) room)
        (rw add-one (drop-cons (frames_at n at s) i f (omega (arith, length_frames n at s)) ∙ ap (λ (g : Frame). g ∷ drop (suc i) (frames_at n at s)) (frame_nth n at s f i h ∙ sym e)))

    pub domain_low : f.last ≤ below → domain (below + 1) room (drop i (frames_at n at s)) ≡ false
    unfolding lasts_from
    domain_low l = next ∙ and_left _ _ (and_left _ _ (and_left _ _ (lt-leb (below + 1) f.last (omega arith))))

    pub domain_over : room < f.size → domain (below + 1) room (drop i (frames_at n at s)) ≡ false
    domain_over l = next ∙ and_right (lasts_from (below + 1) (f ∷ later)) _ (lt-leb (f.size + total later) room (omega arith))

    pub domain_step : below < f.last → f.last < 2 ^ 32 → f.size ≤ room
        → domain (below + 1) room (drop i (frames_at n at s)) ≡ domain (f.last + 1) (room - f.size) (drop (i + 1) (frames_at n at s))
    unfolding lasts_from last_page
    domain_step a b c =
        next
        ∙ ap₂ (λ (x y : Bool). ((x && y) && lasts_from (f.last + 1) later) && leb (f.size + total later) room) (le-leb (below + 1) f.last (omega arith)) (le-leb f.last (2 ^ 32 - 1) (omega arith))
        ∙ ap (λ (b : Bool). lasts_from (f.last + 1) later && b) (shifted f.size (total later) room c)
      where
        shifted : (a b r : ℕ) → a ≤ r → leb (a + b) r ≡ leb b (r - a)
        shifted a b r h =
            cases (leb b (r - a)) (λ e. le-leb (a + b) r (omega (arith, leb-true b (r - a) e)) ∙ sym e) (λ e. lt-leb (a + b) r (omega (arith, leb-false b (r - a) e)) ∙ sym e)

-- ---- the form of frames, test by test

-- the frames that are spelled at a place
pub frames_at_lem : (s : List ℕ) (at : ℕ) → at + 193 ≤ length s → (m : ℕ) → m ≡ min (be (part at 1 s)) 16 → frames_bytes.read (part at 193 s) ≡ frames_at m (at + 1) s
unfolding frames_bytes frame_bytes frames_at
frames_at_lem s at h m e = list_at frame_bytes 16 s at h m e

-- at most 16 frames are in form where they are in their domain
from_is : (page : ℕ) (fs : List Frame) → length fs ≤ 16 → frames_from page fs ≡ domain page last_lsn fs
unfolding frames_from
from_is page fs h = rw (le-leb (length fs) 16 h)

module _ (s : List ℕ) (ab : AreBytes s) (at : ℕ) (h : at + 193 ≤ length s) (page : ℕ) where
  pub over_16 : 16 < be (part at 1 s) → in_form frames_bytes (frames_from page) (part at 193 s) ≡ false
  unfolding frames_bytes frame_bytes
  over_16 l = list_over frame_bytes 16 frame_steady frame_free (omega arith) s ab at h (frames_from page) l

  module _ (n : ℕ) (c : n ≡ be (part at 1 s)) (l : n ≤ 16) where
    form_is : frames_from page (frames_at n (at + 1) s) ≡ domain page last_lsn (frames_at n (at + 1) s)
    form_is = from_is page (frames_at n (at + 1) s) (omega (arith, length_frames n (at + 1) s))

    pub not_domain : domain page last_lsn (frames_at n (at + 1) s) ≡ false → in_form frames_bytes (frames_from page) (part at 193 s) ≡ false
    unfolding frames_bytes frame_bytes frames_at
    not_domain e = list_not frame_bytes 16 frame_steady frame_free (omega arith) s ab at h (frames_from page) n c l (form_is ∙ e)

    pub but_clear : domain page last_lsn (frames_at n (at + 1) s) ≡ true
        → all_zero (part (at + 1 + n * 12) ((16 - n) * 12) s) ≡ in_form frames_bytes (frames_from page) (part at 193 s)
    unfolding frames_bytes frame_bytes frames_at
    but_clear e = list_but frame_bytes 16 frame_steady frame_free (omega arith) s ab at h (frames_from page) n c l (form_is ∙ e)

-- ---- frames read

-- their number
pub frames_number : (s : List ℕ) (at : ℕ) → at + 193 ≤ length s → (n : ℕ) → n ≡ min (be (part at 1 s)) 16 → n ≡ length (frames_bytes.read (part at 193 s))
frames_number s at h n e = sym (length_frames n (at + 1) s) ∙ ap length (sym (frames_at_lem s at h n e))

-- and an array that was zero, filled with them
pub frames_made : (s : List ℕ) (at : ℕ) → at + 193 ≤ length s → (n : ℕ) → n ≡ min (be (part at 1 s)) 16 → (fs : List C.Frame) (i : ℕ)
    → fs ≡ tab (λ j. frame_laid (frame_bytes.read (part (at + 1 + j * 12) 12 s))) i ++ drop i (replicate 16 zero_frame) → i ≡ n → fs ≡ frames_laid (frames_bytes.read (part at 193 s))
unfolding frames_at
frames_made s at h n e fs i p q =
    filled (λ b. frame_laid (frame_bytes.read b)) 12 n (at + 1) s zero_frame 16 fs i p q
    ∙ ap₂ (λ (gs : List C.Frame) (k : ℕ). gs ++ replicate (16 - k) zero_frame) (twice (runs n 12 (at + 1) s)) (sym (length_frames n (at + 1) s))
    ∙ ap frames_laid (sym (frames_at_lem s at h n e))
  where
    twice : (bs : List (List ℕ)) → map (λ b. frame_laid (frame_bytes.read b)) bs ≡ map frame_laid (map frame_bytes.read bs)
    twice [] = refl
    twice (b ∷ bs) = ap (λ (l : List C.Frame). frame_laid (frame_bytes.read b) ∷ l) (twice bs)
