-- The parts of a commit in bytes. A key asks for a reserved byte 0 and for an LSN that is not 0, which is a complement that is not the highest number; what may be
-- missing asks for zeros behind a flag 0, and for the form of the value behind a flag 1. Assumes nothing.
use Rattle.std.proofs.Common.{◌≡◌, ℕ, ◌+◌, ◌-◌, ◌^◌, ◌<◌, ◌≤◌, Bool, true, false, cond, ◌&&◌, eqb, ltb, leb, List, ◌∷◌, ◌++◌, length, replicate, sym, refl, ap, ◌∙◌, arith, length-take, ltb-false, ltb-true, le-ltb, lt-ltb, eq-eqb, ne_eqb, le-leb}
use mathlib.Core.Bool.{and-true}
use mathlib.Core.Option.{none, some}
use mir.Val.{Val}
use denote.Laws.{Is}
use denote.Struct.Declared.{row}
use Rattle.octets.specs.Bytes.{be, bytes_of, part, put, AreBytes, all_zero}
use Rattle.octets.specs.Flat.{flat}
use Rattle.octets.proofs.Places as P
use Rattle.basics.specs.Numbers.{counts, last_lsn}
use Rattle.basics.specs.Hashes.{zero_hash}
use Rattle.pageset.specs.Sets.{shown, normal, window_forms, rising, normal_form, holds, mask_at, bit, blank}
use Rattle.rules.specs.Lists.{given}
use Rattle.rules.specs.Forms.{id_form, lsn_form, hash_form}
use Rattle.rules.proofs.TableLaws.{cases}
use Rattle.commit.specs.declared.Presence.{Presence}
use Rattle.commit.specs.declared.Presence.TheVariants.{Missing, Given}
use Rattle.commit.specs.declared.SegmentIdx.{SegmentIdx}
use Rattle.commit.specs.contracts.SegmentIdx.{the_type}
use Rattle.commit.specs.Builders.{zero_segment}
use Rattle.commit.specs.Says.{given_says, segment_says}
use Rattle.layout.specs.Codecs.{Codec, complement, optional, pair, in_form}
use Rattle.layout.specs.Values.{id_bytes, window_bytes, set_bytes, frame_bytes, frames_bytes, segment_bytes}
use Rattle.layout.specs.Records.{log_lsn_bytes, hash_bytes}
use Rattle.layout.proofs.SpellLaws.{raw_steady, complement_spelled}
use Rattle.layout.proofs.PlaceLaws.{reserved_at, optional_at, raw_at, pair_at, pair_read, reserved_read, optional_read}
pub use Rattle.layout.proofs.PlaceLaws.{key_long}
use Rattle.segmentbytes.specs.Laid.{segment_laid}
use Rattle.setbytes.proofs.WindowLaws.{set_long}
use Rattle.commit.proofs.RecordLaws.{long_of}
use Rattle.segmentbytes.proofs.TypeLaws.{sid_16, windows_32}
use Rattle.segmentbytes.proofs.FrameLaws.{frames_long}
use Rattle.segmentbytes.proofs.Trips.{new_laid}
use Rattle.commitbytes.specs.Laid.{key_form, presence, presence_of, flag_of, hash_laid, given_segment}

-- ---- the key

module _ (s : List ℕ) (at : ℕ) where
  pub key_at : log_lsn_bytes.read (part at 25 s) ≡ (part (at + 1) 16 s, 18446744073709551615 - be (part (at + 17) 8 s))
  unfolding log_lsn_bytes
  key_at =
      let e : at + 1 + 16 ≡ at + 17 = omega arith in
      reserved_read s at (pair id_bytes (complement 8))
      ∙ pair_read s (at + 1) id_bytes (complement 8) (at + 17) e

  module _ (ab : AreBytes s) (h : at + 25 ≤ length s) where
    -- a complement that is not the highest number
    lsn_is : in_form (complement 8) lsn_form (part (at + 17) 8 s) ≡ ltb (be (part (at + 17) 8 s)) 18446744073709551615
    unfolding in_form lsn_form last_lsn
    lsn_is =
        let n : ℕ = be (part (at + 17) 8 s) in
        let small : n < 256 ^ 8 = P.be_part_lt (at + 17) 8 s ab (omega arith) in
        ap (λ (t : Bool). t && (counts (256 ^ 8 - 1 - n) && leb (256 ^ 8 - 1 - n) (2 ^ 64 - 1)))
        (complement_spelled 8 (part (at + 17) 8 s) (P.bytes_part (at + 17) 8 s ab) (P.length_part (at + 17) 8 s (omega arith)))
        ∙ ap (λ (t : Bool). counts (256 ^ 8 - 1 - n) && t) (le-leb (256 ^ 8 - 1 - n) (2 ^ 64 - 1) (omega arith))
        ∙ and-true (counts (256 ^ 8 - 1 - n))
        ∙ cases (ltb n 18446744073709551615) (λ e. let l = ltb-true n 18446744073709551615 e in lt-ltb 0 (256 ^ 8 - 1 - n) (omega arith) ∙ sym e)
        (λ e. let l = ltb-false n 18446744073709551615 e in le-ltb 0 (256 ^ 8 - 1 - n) (omega arith) ∙ sym e)

    key_is : in_form log_lsn_bytes key_form (part at 25 s) ≡ eqb (be (part at 1 s)) 0 && ltb (be (part (at + 17) 8 s)) 18446744073709551615
    unfolding log_lsn_bytes key_form
    key_is =
        let e : at + 1 + 16 ≡ at + 17 = omega arith in
        reserved_at s ab at (pair id_bytes (complement 8)) key_form h
        ∙ ap (λ (t : Bool). eqb (be (part at 1 s)) 0 && t)
        (pair_at s ab (at + 1) id_bytes (complement 8) id_form lsn_form (at + 17) (raw_steady 16) e (omega arith)
        ∙ ap (λ (t : Bool). t && in_form (complement 8) lsn_form (part (at + 17) 8 s)) (raw_at s ab (at + 1) 16 (omega arith))
        ∙ lsn_is)

    pub key_reserved : (be (part at 1 s) ≡ 0 → ⊥) → in_form log_lsn_bytes key_form (part at 25 s) ≡ false
    key_reserved n = key_is ∙ ap (λ (t : Bool). t && ltb (be (part (at + 17) 8 s)) 18446744073709551615) (ne_eqb (be (part at 1 s)) 0 n)

    pub key_lsn : be (part at 1 s) ≡ 0 → ltb (be (part (at + 17) 8 s)) 18446744073709551615 ≡ in_form log_lsn_bytes key_form (part at 25 s)
    key_lsn e = sym (key_is ∙ ap (λ (t : Bool). t && ltb (be (part (at + 17) 8 s)) 18446744073709551615) (eq-eqb (be (part at 1 s)) 0 e))

-- ---- what may be missing

module _ {A : Type 0} (c : Codec A) (s : List ℕ) (at : ℕ) where
  -- the flag says whether it is there
  pub flag_says : presence_of (be (part at 1 s)) ≡ presence ((optional c).read (part at (1 + c.size) s))
  flag_says = go (eqb (be (part at 1 s)) 0) (c.read (part (at + 1) c.size s)) ∙ ap presence (sym (optional_read s at c))
    where
      go : (b : Bool) (x : A) → cond b Missing Given ≡ presence (cond b none (some x))
      go true x = refl
      go false x = refl

  pub read_none : be (part at 1 s) ≡ 0 → (optional c).read (part at (1 + c.size) s) ≡ none
  read_none e = optional_read s at c ∙ ap (λ (b : Bool). cond b none (some (c.read (part (at + 1) c.size s)))) (eq-eqb (be (part at 1 s)) 0 e)

  pub read_some : (be (part at 1 s) ≡ 0 → ⊥) → (optional c).read (part at (1 + c.size) s) ≡ some (c.read (part (at + 1) c.size s))
  read_some n = optional_read s at c ∙ ap (λ (b : Bool). cond b none (some (c.read (part (at + 1) c.size s)))) (ne_eqb (be (part at 1 s)) 0 n)

  module _ (ab : AreBytes s) (f : A → Bool) (h : at + (1 + c.size) ≤ length s) where
    pub none_form : be (part at 1 s) ≡ 0 → all_zero (part (at + 1) c.size s) ≡ in_form (optional c) (given f) (part at (1 + c.size) s)
    none_form e =
        sym (optional_at s ab at c f h ∙ ap (λ (b : Bool). cond b (all_zero (part (at + 1) c.size s)) (eqb (be (part at 1 s)) 1 && in_form c f (part (at + 1) c.size s))) (eq-eqb (be (part at 1 s)) 0 e))

    some_is : (be (part at 1 s) ≡ 0 → ⊥) → in_form (optional c) (given f) (part at (1 + c.size) s) ≡ eqb (be (part at 1 s)) 1 && in_form c f (part (at + 1) c.size s)
    some_is n =
        optional_at s ab at c f h ∙ ap (λ (b : Bool). cond b (all_zero (part (at + 1) c.size s)) (eqb (be (part at 1 s)) 1 && in_form c f (part (at + 1) c.size s))) (ne_eqb (be (part at 1 s)) 0 n)

    -- no flag
    pub no_flag : (be (part at 1 s) ≡ 0 → ⊥) → (be (part at 1 s) ≡ 1 → ⊥) → in_form (optional c) (given f) (part at (1 + c.size) s) ≡ false
    no_flag n m = some_is n ∙ ap (λ (b : Bool). b && in_form c f (part (at + 1) c.size s)) (ne_eqb (be (part at 1 s)) 1 m)

    pub some_form : be (part at 1 s) ≡ 1 → in_form c f (part (at + 1) c.size s) ≡ in_form (optional c) (given f) (part at (1 + c.size) s)
    some_form e = sym (some_is (λ z. omega arith) ∙ ap (λ (b : Bool). b && in_form c f (part (at + 1) c.size s)) (eq-eqb (be (part at 1 s)) 1 e))

-- its flag and its value, which is zero where it is missing
pub given_stored : {A : Type 0} (c : Codec A) (at : ℕ) (has : Presence) (x : A) (s t u : List ℕ) → length (c.spell x) ≡ c.size → (has ≡ Missing → c.spell x ≡ replicate c.size 0)
    → at + (1 + c.size) ≤ length s → t ≡ put at (bytes_of 1 (flag_of has)) s → u ≡ put (at + 1) (c.spell x) t → u ≡ put at ((optional c).spell (given_says has x)) s
unfolding bytes_of
given_stored c at Missing x s t u l z h p q =
    P.chain at 1 c.size (bytes_of 1 0) (c.spell x) s t u refl l (omega arith) p q ∙ ap (λ (b : List ℕ). put at (0 ∷ b) s) (z refl)
given_stored c at Given x s t u l z h p q = P.chain at 1 c.size (bytes_of 1 1) (c.spell x) s t u refl l (omega arith) p q

-- a hash that is laid out is zero where it is missing
pub hash_zero : (has : Presence) (hash : List ℕ) → hash_laid (given_says has hash) ≡ hash → has ≡ Missing → hash ≡ replicate 32 0
unfolding zero_hash
hash_zero Missing hash e m = sym e
hash_zero Given hash e m = absurd (let z : ◌≡◌ {A = ℕ} 0 1 = cc in omega arith)

-- so is a segment
zero_normal : normal zero_segment.pages ≡ true
unfolding normal normal_form rising window_forms holds mask_at bit blank
zero_normal = refl

zero_spell : segment_bytes.spell (segment_says zero_segment) ≡ replicate 594 0
unfolding segment_bytes set_bytes window_bytes frames_bytes frame_bytes bytes_of flat
zero_spell = refl

pub segment_zero : (has : Presence) (x : SegmentIdx) → given_segment (given_says has (segment_says x)) ≡ x → has ≡ Missing → segment_bytes.spell (segment_says x) ≡ replicate 594 0
segment_zero Missing x e m = ap (λ (y : SegmentIdx). segment_bytes.spell (segment_says y)) (sym e) ∙ zero_spell
segment_zero Given x e m = absurd (let z : ◌≡◌ {A = ℕ} 0 1 = cc in omega arith)

pub segment_laid_lem : (has : Presence) (x : SegmentIdx) → given_segment (given_says has (segment_says x)) ≡ x → segment_laid (segment_says x) ≡ x
segment_laid_lem Missing x e = ap (λ (y : SegmentIdx). segment_laid (segment_says y)) (sym e) ∙ new_laid (replicate 16 0) zero_segment.pages zero_normal ∙ e
segment_laid_lem Given x e = e

-- how many bytes a segment has
pub segment_long : (x : SegmentIdx) (vs : List Val) → Is (row the_type) x vs → length (segment_bytes.spell (segment_says x)) ≡ 594
unfolding segment_bytes
segment_long x vs g =
    let few : length (shown x.pages) ≤ 32 = omega (arith, length-take x.pages.len x.pages.windows, windows_32 x vs g) in
    P.length_two 16 578 x.sid (set_bytes.spell (shown x.pages) ++ frames_bytes.spell (segment_says x).frames) (sid_16 x vs g)
    (P.length_two 385 193 (set_bytes.spell (shown x.pages)) (frames_bytes.spell (segment_says x).frames) (set_long (shown x.pages) few) (frames_long x.len x.frames (long_of x vs g)))

-- a hash that is there: its flag is 1
pub hash_some : (s : List ℕ) (at : ℕ) → AreBytes s → at + 33 ≤ length s → (be (part at 1 s) ≡ 0 → ⊥) → eqb (be (part at 1 s)) 1 ≡ in_form (optional hash_bytes) (given hash_form) (part at 33 s)
hash_some s at ab h n =
    sym
    (some_is hash_bytes s at ab hash_form h n
    ∙ ap (λ (t : Bool). eqb (be (part at 1 s)) 1 && t) (raw_at s ab (at + 1) 32 (omega arith))
    ∙ and-true (eqb (be (part at 1 s)) 1))
