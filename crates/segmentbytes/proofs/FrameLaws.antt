-- A frame in bytes: its two numbers, side by side. Any 12 bytes are a frame's. Assumes nothing.
use Rattle.std.proofs.Common.{◌≡◌, ℕ, ◌+◌, ◌-◌, ◌*◌, ◌<◌, ◌≤◌, List, ◌++◌, map, length, get_or, take, replicate, sym, refl, ap, ◌∙◌, ap₂, arith, length-take}
use lib.ListN.{length-map}
use Rattle.octets.specs.Bytes.{be, bytes_of, part, put}
use Rattle.octets.specs.Flat.{flat}
use Rattle.octets.proofs.Numbers as N
use Rattle.octets.proofs.Flats as F
use Rattle.octets.proofs.Places as P
use Rattle.rules.specs.Records as R
use Rattle.commit.specs.declared.Frame.{Frame}
use Rattle.commit.specs.Builders.{zero_frame}
use Rattle.commit.specs.Says.{frame_says}
use Rattle.layout.specs.Codecs.{Codec, number, pair}
use Rattle.layout.specs.Values.{frame_bytes, frames_bytes, frame_of, frame_parts}
use Rattle.layout.proofs.SpellLaws.{Steady, viewed_steady, viewed_spelled}
use Rattle.layout.proofs.PlaceLaws.{pair_read}
use Rattle.setbytes.proofs.ListLaws.{Free, length_read, read_nth, spell_array, flat_laid, says_array, list_long}
use Rattle.setbytes.proofs.WindowLaws.{two_steady, two_free}
use Rattle.segmentbytes.specs.Laid.{frames_at, frame_laid, frames_laid, IsLaid}

pub frame_at : (at : ℕ) (s : List ℕ) → frame_bytes.read (part at 12 s) ≡ record { size = be (part at 8 s); last = be (part (at + 8) 4 s) }
unfolding frame_bytes
frame_at at s = ap frame_of (pair_read s at (number 8) (number 4) (at + 8) refl)

pub frame_steady : Steady frame_bytes
unfolding frame_bytes
frame_steady = viewed_steady (pair (number 8) (number 4)) frame_of frame_parts (λ x. refl) (two_steady 8 4)

pub frame_free : Free frame_bytes
unfolding frame_bytes
frame_free b ab e = viewed_spelled (pair (number 8) (number 4)) frame_of frame_parts (λ x. refl) b ∙ two_free 8 4 b ab e

-- the bytes of a frame by value
abbrev pub frame_spell : Frame → List ℕ
frame_spell f = frame_bytes.spell (frame_says f)

pub frame_long : (f : Frame) → length (frame_spell f) ≡ 12
unfolding frame_bytes
frame_long f = P.length_two 8 4 (bytes_of 8 f.size) (bytes_of 4 f.last.0) (N.length_bytes_of 8 f.size) (N.length_bytes_of 4 f.last.0)

frame_zero : frame_bytes.spell (frame_says zero_frame) ≡ replicate 12 0
unfolding frame_bytes bytes_of
frame_zero = refl

-- its two stores
pub frame_stored : (at : ℕ) (f : Frame) (s t u : List ℕ) → at + 12 ≤ length s → t ≡ put at (bytes_of 8 f.size) s → u ≡ put (at + 8) (bytes_of 4 f.last.0) t
    → u ≡ put at (frame_spell f) s
unfolding frame_bytes
frame_stored at f s t u h p q = P.chain at 8 4 (bytes_of 8 f.size) (bytes_of 4 f.last.0) s t u (N.length_bytes_of 8 f.size) (N.length_bytes_of 4 f.last.0) (omega arith) p q

-- ---- the frames at a place

pub length_frames : (n at : ℕ) (s : List ℕ) → length (frames_at n at s) ≡ n
unfolding frames_at
length_frames n at s = length_read frame_bytes.read 12 n at s

pub frame_nth : (n at : ℕ) (s : List ℕ) (z : R.Frame) (i : ℕ) → i < n → get_or (frames_at n at s) i z ≡ frame_bytes.read (part (at + i * 12) 12 s)
unfolding frames_at
frame_nth n at s z i h = read_nth frame_bytes.read 12 n at s z i h

-- ---- an array of frames

-- what it says is what it was laid out for
pub says_frames : (fs : List R.Frame) (n : ℕ) → length fs ≡ n → map frame_says (take n (frames_laid fs)) ≡ fs
says_frames fs n e = says_array frame_laid frame_says (λ x. refl) fs n (replicate (16 - length fs) zero_frame) e

-- its count, and then the array
pub frames_stored : (at n : ℕ) (fs : List Frame) (s t u : List ℕ) → IsLaid n fs → length fs ≡ 16 → at + 193 ≤ length s
    → t ≡ put at (bytes_of 1 n) s → u ≡ put (at + 1) (flat frame_spell fs) t → u ≡ put at (frames_bytes.spell (map frame_says (take n fs))) s
unfolding frames_bytes frame_bytes
frames_stored at n fs s t u e l h p q =
    let k : length (flat frame_spell fs) ≡ 192 = F.length_flat 12 frame_spell frame_long fs ∙ ap (λ (k : ℕ). 12 * k) l in
    let gs : List R.Frame = map frame_says (take n fs) in
    P.chain at 1 192 (bytes_of 1 n) (flat frame_spell fs) s t u (N.length_bytes_of 1 n) k (omega arith) p q
    ∙ ap (λ (l : List ℕ). put at l s)
    (ap₂ (λ (j : ℕ) (xs : List Frame). bytes_of 1 j ++ flat frame_spell xs) (sym e.count) (sym e.array)
    ∙ sym (spell_array frame_bytes 16 frame_spell zero_frame frame_zero gs (map frame_laid gs) (flat_laid frame_laid frame_says (λ x. refl) frame_bytes.spell gs)))

pub frames_long : (n : ℕ) (fs : List Frame) → length fs ≡ 16 → length (frames_bytes.spell (map frame_says (take n fs))) ≡ 193
unfolding frames_bytes frame_bytes
frames_long n fs l =
    let k : length (map frame_says (take n fs)) ≤ 16 = omega (arith, length-map (take n fs) frame_says, length-take n fs) in
    list_long frame_bytes 16 (λ f. frame_long (frame_laid f)) (map frame_says (take n fs)) k

-- an array that is laid out counts no more than there are
pub laid_16 : (n : ℕ) (fs : List Frame) → IsLaid n fs → length fs ≡ 16 → n ≤ 16
laid_16 n fs e l = omega (arith, e.count, length-map (take n fs) frame_says, length-take n fs)
