-- Segments and ranges in bytes: their fields, one after another. The form of a segment is that of its set, and then that of its frames from the set's starting page
-- on; the form of a range is that of its set. Assumes nothing.
use Rattle.std.proofs.Common.{◌≡◌, ℕ, ◌+◌, ◌≤◌, Bool, true, false, ◌&&◌, List, ◌++◌, length, sym, refl, ap, ◌∙◌, ap₂, append_assoc, arith}
use Rattle.octets.specs.Bytes.{be, bytes_of, part, put, AreBytes}
use Rattle.octets.proofs.Numbers as N
use Rattle.octets.proofs.Places as P
use Rattle.pageset.specs.Sets.{normal_form}
use Rattle.pageset.proofs.FormLaws.{and_left}
use Rattle.rules.specs.Records.{Pages, Segment, Frame}
use Rattle.rules.specs.Frames.{Part}
use Rattle.rules.specs.Forms.{id_form, start_page, frames_form, lists_form, segment_form}
use Rattle.rules.proofs.TableLaws.{and_both}
use Rattle.layout.specs.Codecs.{Codec, number, pair, spelled, in_form}
use Rattle.layout.specs.Values.{id_bytes, window_bytes, set_bytes, frame_bytes, frames_bytes, segment_bytes, segment_of, segment_parts, part_bytes, part_of, part_parts}
use Rattle.layout.proofs.SpellLaws.{Steady, number_steady, raw_steady, pair_spelled, number_spelled, raw_spelled}
use Rattle.layout.proofs.PlaceLaws.{front, behind, viewed_form, raw_at, pair_at, pair_read}
use Rattle.setbytes.proofs.WindowLaws.{set_steady}
use Rattle.segmentbytes.specs.Laid.{part_form}
use Rattle.segmentbytes.specs.Domain.{frames_from}

-- ---- one value, and then another whose form depends on the first

module _ {A B : Type 0} (c : Codec A) (d : Codec B) (f : A → Bool) (g : A → B → Bool) (st : Steady c) where
  pair_with : (s : List ℕ) (at : ℕ) → at + (c.size + d.size) ≤ length s
      → in_form (pair c d) (λ x. f x.0 && g x.0 x.1) (part at (c.size + d.size) s)
      ≡ in_form c f (part at c.size s) && in_form d (g (c.read (part at c.size s))) (part (at + c.size) d.size s)
  unfolding in_form
  pair_with s at h =
      let b : List ℕ = part at (c.size + d.size) s in
      ap (λ (u : Bool). u && (f (c.read (part 0 c.size b)) && g (c.read (part 0 c.size b)) (d.read (part c.size d.size b))))
      (pair_spelled c d st b (P.length_part at (c.size + d.size) s h))
      ∙ mixed (spelled c (part 0 c.size b)) (spelled d (part c.size d.size b)) (f (c.read (part 0 c.size b))) (g (c.read (part 0 c.size b)) (d.read (part c.size d.size b)))
      ∙ ap₂ (λ (x y : List ℕ). (spelled c x && f (c.read x)) && (spelled d y && g (c.read x) (d.read y))) (front s at c.size d.size) (behind s at c.size d.size (at + c.size) refl)
    where
      mixed : (p q u v : Bool) → (p && q) && (u && v) ≡ (p && u) && (q && v)
      mixed true true u v = refl
      mixed true false true v = refl
      mixed true false false v = refl
      mixed false q u v = refl

-- ---- segments

module _ (s : List ℕ) (at : ℕ) where
  behind_set : at + 16 + 385 ≡ at + 401
  behind_set = omega arith

  pub segment_at : segment_bytes.read (part at 594 s) ≡ record { sid = part at 16 s; pages = set_bytes.read (part (at + 16) 385 s); frames = frames_bytes.read (part (at + 401) 193 s) }
  unfolding segment_bytes set_bytes window_bytes frames_bytes frame_bytes
  segment_at =
      ap segment_of
      (pair_read s at id_bytes (pair set_bytes frames_bytes) (at + 16) refl
      ∙ ap (λ (x : Pages × List Frame). (part at 16 s, x))
      (pair_read s (at + 16) set_bytes frames_bytes (at + 401) behind_set))

  module _ (ab : AreBytes s) (h : at + 594 ≤ length s) where
    form_is : in_form segment_bytes segment_form (part at 594 s)
        ≡ in_form set_bytes normal_form (part (at + 16) 385 s) && in_form frames_bytes (frames_form (set_bytes.read (part (at + 16) 385 s))) (part (at + 401) 193 s)
    unfolding segment_bytes set_bytes window_bytes frames_bytes frame_bytes segment_form lists_form
    form_is =
        viewed_form (pair id_bytes (pair set_bytes frames_bytes)) segment_of segment_parts segment_form (part at 594 s) (λ x. refl)
        ∙ pair_at s ab at id_bytes (pair set_bytes frames_bytes) id_form (λ x. normal_form x.0 && frames_form x.0 x.1) (at + 16) (raw_steady 16) refl (omega arith)
        ∙ ap₂ ◌&&◌ (raw_at s ab at 16 (omega arith)) (pair_with set_bytes frames_bytes normal_form frames_form set_steady s (at + 16) (omega arith))
        ∙ ap (λ (k : ℕ). in_form set_bytes normal_form (part (at + 16) 385 s) && in_form frames_bytes (frames_form (set_bytes.read (part (at + 16) 385 s))) (part k 193 s)) behind_set

    pub set_not : in_form set_bytes normal_form (part (at + 16) 385 s) ≡ false → in_form segment_bytes segment_form (part at 594 s) ≡ false
    set_not e = form_is ∙ and_left _ _ e

    -- where the set is in form, the frames decide
    pub frames_decide : in_form set_bytes normal_form (part (at + 16) 385 s) ≡ true → (start : ℕ) → start + 1 ≡ start_page (set_bytes.read (part (at + 16) 385 s))
        → in_form frames_bytes (frames_from (start + 1)) (part (at + 401) 193 s) ≡ in_form segment_bytes segment_form (part at 594 s)
    unfolding frames_from frames_form
    frames_decide e start q =
        ap (λ (p : ℕ). in_form frames_bytes (frames_from p) (part (at + 401) 193 s)) q
        ∙ sym (form_is ∙ ap (λ (t : Bool). t && in_form frames_bytes (frames_form (set_bytes.read (part (at + 16) 385 s))) (part (at + 401) 193 s)) e)

-- its three stores
pub segment_stored : (at : ℕ) (x : Segment) (s t u v : List ℕ) → length x.sid ≡ 16 → length (set_bytes.spell x.pages) ≡ 385 → length (frames_bytes.spell x.frames) ≡ 193
    → at + 594 ≤ length s → t ≡ put at x.sid s → u ≡ put (at + 16) (set_bytes.spell x.pages) t → v ≡ put (at + 401) (frames_bytes.spell x.frames) u
    → v ≡ put at (segment_bytes.spell x) s
unfolding segment_bytes
segment_stored at x s t u v i j k h p q r =
    (P.then_stored (P.then_stored (P.stored at 16 x.sid s i p) 385 (set_bytes.spell x.pages) j (omega arith) q) 193 (frames_bytes.spell x.frames) k (omega arith)
    (r ∙ ap (λ (n : ℕ). put n (frames_bytes.spell x.frames) u) (let e : at + 401 ≡ at + (16 + 385) = omega arith in e))).bytes
    ∙ ap (λ (b : List ℕ). put at b s) (append_assoc x.sid (set_bytes.spell x.pages) (frames_bytes.spell x.frames))

-- ---- ranges

-- nothing is asked of any bytes of a form
module _ {A : Type 0} (c : Codec A) (b : List ℕ) where
  free : spelled c b ≡ true → in_form c (λ _. true) b ≡ true
  unfolding in_form
  free e = and_both e refl

module _ (s : List ℕ) (at : ℕ) where
  pub range_at_lem : part_bytes.read (part at 417 s) ≡ record { sid = part at 16 s; start = be (part (at + 16) 8 s); end = be (part (at + 24) 8 s); pages = set_bytes.read (part (at + 32) 385 s) }
  unfolding part_bytes set_bytes window_bytes
  range_at_lem =
      let e : at + 16 + 8 ≡ at + 24 = omega arith in
      let f : at + 24 + 8 ≡ at + 32 = omega arith in
      ap part_of
      (pair_read s at id_bytes (pair (number 8) (pair (number 8) set_bytes)) (at + 16) refl
      ∙ ap (λ (x : ℕ × (ℕ × Pages)). (part at 16 s, x))
      (pair_read s (at + 16) (number 8) (pair (number 8) set_bytes) (at + 24) e
      ∙ ap (λ (x : ℕ × Pages). (be (part (at + 16) 8 s), x)) (pair_read s (at + 24) (number 8) set_bytes (at + 32) f)))

  pub range_form_is : AreBytes s → at + 417 ≤ length s → in_form set_bytes normal_form (part (at + 32) 385 s) ≡ in_form part_bytes part_form (part at 417 s)
  unfolding part_bytes set_bytes window_bytes
  range_form_is ab h =
      let e : at + 16 + 8 + 8 ≡ at + 32 = omega arith in
      let num : (k : ℕ) → k + 8 ≤ length s → in_form (number 8) (λ _. true) (part k 8 s) ≡ true =
      λ k l. free (number 8) (part k 8 s) (number_spelled 8 (part k 8 s) (P.bytes_part k 8 s ab) (P.length_part k 8 s l)) in
      sym
      (viewed_form (pair id_bytes (pair (number 8) (pair (number 8) set_bytes))) part_of part_parts part_form (part at 417 s) (λ x. refl)
      ∙ pair_at s ab at id_bytes (pair (number 8) (pair (number 8) set_bytes)) (λ _. true) (λ x. normal_form x.1.1) (at + 16) (raw_steady 16) refl (omega arith)
      ∙ ap₂ ◌&&◌ (free id_bytes (part at 16 s) (raw_spelled 16 (part at 16 s)))
      (pair_at s ab (at + 16) (number 8) (pair (number 8) set_bytes) (λ _. true) (λ x. normal_form x.1) (at + 16 + 8) (number_steady 8) refl (omega arith)
      ∙ ap₂ ◌&&◌ (num (at + 16) (omega arith))
      (pair_at s ab (at + 16 + 8) (number 8) set_bytes (λ _. true) normal_form (at + 32) (number_steady 8) e (omega arith)
      ∙ ap (λ (t : Bool). t && in_form set_bytes normal_form (part (at + 32) 385 s)) (num (at + 16 + 8) (omega arith)))))

-- its four stores
pub range_stored : (at : ℕ) (x : Part) (s t u v w : List ℕ) → length x.sid ≡ 16 → length (set_bytes.spell x.pages) ≡ 385 → at + 417 ≤ length s
    → t ≡ put at x.sid s → u ≡ put (at + 16) (bytes_of 8 x.start) t → v ≡ put (at + 24) (bytes_of 8 x.end) u → w ≡ put (at + 32) (set_bytes.spell x.pages) v
    → w ≡ put at (part_bytes.spell x) s
unfolding part_bytes
range_stored at x s t u v w i j h p q r z =
    let a = bytes_of 8 x.start in
    let b = bytes_of 8 x.end in
    let c = set_bytes.spell x.pages in
    let e : at + 24 ≡ at + (16 + 8) = omega arith in
    let f : at + 32 ≡ at + (16 + 8 + 8) = omega arith in
    (P.then_stored
    (P.then_stored (P.then_stored (P.stored at 16 x.sid s i p) 8 a (N.length_bytes_of 8 x.start) (omega arith) q) 8 b (N.length_bytes_of 8 x.end) (omega arith) (r ∙ ap (λ (n : ℕ). put n b u) e))
    385 c j (omega arith) (z ∙ ap (λ (n : ℕ). put n c v) f)).bytes
    ∙ ap (λ (l : List ℕ). put at l s) (append_assoc (x.sid ++ a) b c ∙ append_assoc x.sid a (b ++ c))
