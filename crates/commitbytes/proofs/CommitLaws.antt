-- A commit in bytes: its fields, one after another, each at its place. Its form asks for the form of its key, its hash, its segment and its checkpoints; any four
-- bytes are a page count. Assumes nothing.
use Rattle.std.proofs.Common.{◌≡◌, ℕ, suc, ◌+◌, ◌-◌, ◌^◌, ◌<◌, ◌≤◌, min, Bool, true, false, ◌&&◌, leb, List, ◌++◌, length, sym, refl, ap, ◌∙◌, ap₂, append_assoc, arith, take_all, le-ltb, lt-ltb, le-leb}
use mathlib.Core.Option.{Option, none, some}
use lib.ListN.{length-replicate}
use Rattle.octets.specs.Bytes.{be, bytes_of, part, put, AreBytes}
use Rattle.octets.proofs.Numbers as N
use Rattle.octets.proofs.Places as P
use Rattle.basics.specs.Numbers.{counts, last_page}
use Rattle.rules.specs.Lists.{all, given}
use Rattle.rules.specs.Records as R
use Rattle.rules.specs.Arguments.{commit_lsns}
use Rattle.rules.specs.Forms.{id_form, lsn_form, count_form, hash_form, segment_form, commit_form}
use Rattle.rules.proofs.TableLaws.{and_both}
use Rattle.commit.specs.declared.Presence.{Presence}
use Rattle.commit.specs.declared.Presence.TheVariants.{Missing, Given}
use Rattle.commit.specs.Says.{given_says}
use Rattle.layout.specs.Codecs.{Codec, number, complement, optional, listed, pair, in_form}
use Rattle.layout.specs.Values.{id_bytes, window_bytes, set_bytes, frame_bytes, frames_bytes, segment_bytes, segment_of, segment_parts}
use Rattle.layout.specs.Records.{log_lsn_bytes, hash_bytes, commit_bytes, commit_of, commit_parts}
use Rattle.layout.proofs.SpellLaws.{Steady, number_steady, complement_steady, raw_steady, reserved_steady, optional_steady, pair_steady, viewed_steady, listed_steady, number_spelled}
use Rattle.layout.proofs.PlaceLaws.{same_form, viewed_form, pair_at, pair_read}
use Rattle.setbytes.proofs.WindowLaws.{set_steady}
use Rattle.segmentbytes.proofs.FrameLaws.{frame_steady}
use Rattle.commitbytes.specs.Laid.{key_form, lsns_form}
use Rattle.commitbytes.proofs.PartLaws.{key_at, read_none, read_some}
use Rattle.commitbytes.proofs.LsnLaws.{lsns_number}

-- ---- forms whose readings have their length

key_steady : Steady log_lsn_bytes
unfolding log_lsn_bytes
key_steady = reserved_steady (pair id_bytes (complement 8)) (pair_steady id_bytes (complement 8) (raw_steady 16) (complement_steady 8))

segment_steady : Steady segment_bytes
unfolding segment_bytes frames_bytes
segment_steady =
    viewed_steady (pair id_bytes (pair set_bytes frames_bytes)) segment_of segment_parts (λ x. refl)
    (pair_steady id_bytes (pair set_bytes frames_bytes) (raw_steady 16) (pair_steady set_bytes frames_bytes set_steady (listed_steady frame_bytes 16 frame_steady)))

-- ---- one value, and then another, at a place that is known by a sum

module _ {A B : Type 0} (c : Codec A) (d : Codec B) (s : List ℕ) (at next : ℕ) (e : at + c.size ≡ next) where
  form_next : (f : A → Bool) (g : B → Bool) → Steady c → AreBytes s → at + (c.size + d.size) ≤ length s
      → in_form (pair c d) (λ x. f x.0 && g x.1) (part at (c.size + d.size) s) ≡ in_form c f (part at c.size s) && in_form d g (part next d.size s)
  form_next f g st ab h = pair_at s ab at c d f g next st e (omega arith)

-- ---- the fields

abbrev lists : Codec (List ℕ)
lists = listed (number 8) 8

abbrev ends : Codec (Option R.Segment × List ℕ)
ends = pair (optional segment_bytes) lists

abbrev hashed : Codec (Option R.Hash × (Option R.Segment × List ℕ))
hashed = pair (optional hash_bytes) ends

abbrev counted : Codec (ℕ × (Option R.Hash × (Option R.Segment × List ℕ)))
counted = pair (number 4) hashed

module _ (s : List ℕ) (at : ℕ) where
  pub commit_at_lem : commit_bytes.read (part at 722 s)
      ≡ record {
        log = part (at + 1) 16 s;
        lsn = 18446744073709551615 - be (part (at + 17) 8 s);
        count = be (part (at + 25) 4 s);
        hash = (optional hash_bytes).read (part (at + 29) 33 s);
        segment = (optional segment_bytes).read (part (at + 62) 595 s);
        checkpoints = (listed (number 8) 8).read (part (at + 657) 65 s);
      }
  unfolding commit_bytes log_lsn_bytes segment_bytes set_bytes window_bytes frames_bytes frame_bytes
  commit_at_lem =
      ap commit_of
      (pair_read s at log_lsn_bytes counted (at + 25) refl
      ∙ ap₂ (λ (k : List ℕ × ℕ) (r : ℕ × (Option R.Hash × (Option R.Segment × List ℕ))). (k, r)) (key_at s at)
      (pair_read s (at + 25) (number 4) hashed (at + 29) (omega arith)
      ∙ ap (λ (r : Option R.Hash × (Option R.Segment × List ℕ)). (be (part (at + 25) 4 s), r))
      (pair_read s (at + 29) (optional hash_bytes) ends (at + 62) (omega arith)
      ∙ ap (λ (r : Option R.Segment × List ℕ). ((optional hash_bytes).read (part (at + 29) 33 s), r)) (pair_read s (at + 62) (optional segment_bytes) lists (at + 657) (omega arith)))))

  -- ---- the form

  module _ (ab : AreBytes s) (h : at + 722 ≤ length s) where
    -- any four bytes are a page count
    count_is : in_form (number 4) count_form (part (at + 25) 4 s) ≡ true
    unfolding in_form count_form last_page
    count_is =
        let small : be (part (at + 25) 4 s) < 256 ^ 4 = P.be_part_lt (at + 25) 4 s ab (omega arith) in
        and_both (number_spelled 4 (part (at + 25) 4 s) (P.bytes_part (at + 25) 4 s ab) (P.length_part (at + 25) 4 s (omega arith))) (le-leb (be (part (at + 25) 4 s)) (2 ^ 32 - 1) (omega arith))

    form_is : in_form commit_bytes commit_form (part at 722 s)
        ≡ in_form log_lsn_bytes key_form (part at 25 s)
        && (in_form (optional hash_bytes) (given hash_form) (part (at + 29) 33 s)
        && (in_form (optional segment_bytes) (given segment_form) (part (at + 62) 595 s) && in_form (listed (number 8) 8) lsns_form (part (at + 657) 65 s)))
    unfolding commit_bytes log_lsn_bytes segment_bytes set_bytes window_bytes frames_bytes frame_bytes commit_form key_form lsns_form
    form_is =
        viewed_form (pair log_lsn_bytes counted) commit_of commit_parts commit_form (part at 722 s) (λ x. refl)
        ∙ same_form (pair log_lsn_bytes counted) (λ x. commit_form (commit_of x))
        (λ x. key_form x.0 && (count_form x.1.0 && (given hash_form x.1.1.0 && (given segment_form x.1.1.1.0 && lsns_form x.1.1.1.1)))) (part at 722 s)
        (λ x. regroup (id_form x.0.0) (lsn_form x.0.1) (count_form x.1.0) (given hash_form x.1.1.0) (given segment_form x.1.1.1.0) (leb (length x.1.1.1.1) 8) (all lsn_form x.1.1.1.1))
        ∙ pair_at s ab at log_lsn_bytes counted key_form (λ r. count_form r.0 && (given hash_form r.1.0 && (given segment_form r.1.1.0 && lsns_form r.1.1.1))) (at + 25) key_steady refl (omega arith)
        ∙ ap (λ (t : Bool). in_form log_lsn_bytes key_form (part at 25 s) && t)
        (form_next (number 4) hashed s (at + 25) (at + 29) (omega arith) count_form (λ r. given hash_form r.0 && (given segment_form r.1.0 && lsns_form r.1.1)) (number_steady 4) ab (omega arith)
        ∙ ap₂ ◌&&◌ count_is
        (form_next (optional hash_bytes) ends s (at + 29) (at + 62) (omega arith) (given hash_form) (λ r. given segment_form r.0 && lsns_form r.1) (optional_steady hash_bytes (raw_steady 32)) ab (omega arith)
        ∙ ap (λ (t : Bool). in_form (optional hash_bytes) (given hash_form) (part (at + 29) 33 s) && t)
        (form_next (optional segment_bytes) lists s (at + 62) (at + 657) (omega arith) (given segment_form) lsns_form (optional_steady segment_bytes segment_steady) ab (omega arith))))
      where
        regroup : (a b c d e f g : Bool) → a && b && c && d && e && f && g ≡ (a && b) && (c && (d && (e && (f && g))))
        regroup true true true true true f g = refl
        regroup true true true true false f g = refl
        regroup true true true false e f g = refl
        regroup true true false d e f g = refl
        regroup true false c d e f g = refl
        regroup false b c d e f g = refl

    pub key_not : in_form log_lsn_bytes key_form (part at 25 s) ≡ false → in_form commit_bytes commit_form (part at 722 s) ≡ false
    key_not e = form_is ∙ ap (λ (t : Bool). t && (in_form (optional hash_bytes) (given hash_form) (part (at + 29) 33 s) && (in_form (optional segment_bytes) (given segment_form) (part (at + 62) 595 s) && in_form (listed (number 8) 8) lsns_form (part (at + 657) 65 s)))) e

    module _ (k : in_form log_lsn_bytes key_form (part at 25 s) ≡ true) where
      pub hash_not : in_form (optional hash_bytes) (given hash_form) (part (at + 29) 33 s) ≡ false → in_form commit_bytes commit_form (part at 722 s) ≡ false
      hash_not e = form_is ∙ ap₂ (λ (t u : Bool). t && (u && (in_form (optional segment_bytes) (given segment_form) (part (at + 62) 595 s) && in_form (listed (number 8) 8) lsns_form (part (at + 657) 65 s)))) k e

      module _ (q : in_form (optional hash_bytes) (given hash_form) (part (at + 29) 33 s) ≡ true) where
        left_is : in_form commit_bytes commit_form (part at 722 s) ≡ in_form (optional segment_bytes) (given segment_form) (part (at + 62) 595 s) && in_form (listed (number 8) 8) lsns_form (part (at + 657) 65 s)
        left_is = form_is ∙ ap₂ (λ (t u : Bool). t && (u && (in_form (optional segment_bytes) (given segment_form) (part (at + 62) 595 s) && in_form (listed (number 8) 8) lsns_form (part (at + 657) 65 s)))) k q

        pub segment_not : in_form (optional segment_bytes) (given segment_form) (part (at + 62) 595 s) ≡ false → in_form commit_bytes commit_form (part at 722 s) ≡ false
        segment_not e = left_is ∙ ap (λ (t : Bool). t && in_form (listed (number 8) 8) lsns_form (part (at + 657) 65 s)) e

        pub lsns_decide : in_form (optional segment_bytes) (given segment_form) (part (at + 62) 595 s) ≡ true → in_form (listed (number 8) 8) lsns_form (part (at + 657) 65 s) ≡ in_form commit_bytes commit_form (part at 722 s)
        lsns_decide e = sym (left_is ∙ ap (λ (t : Bool). t && in_form (listed (number 8) 8) lsns_form (part (at + 657) 65 s)) e)

  -- ---- number 1

  module _ (h : at + 722 ≤ length s) where
    lsns_are : commit_lsns (commit_bytes.read (part at 722 s)) ≡ counts (18446744073709551615 - be (part (at + 17) 8 s)) && all counts ((listed (number 8) 8).read (part (at + 657) 65 s))
    unfolding commit_lsns
    lsns_are =
        let n = lsns_number s (at + 657) (omega arith) (min (be (part (at + 657) 1 s)) 8) refl in
        ap commit_lsns commit_at_lem
        ∙ ap (λ (ns : List ℕ). counts (18446744073709551615 - be (part (at + 17) 8 s)) && all counts ns) (take_all 8 ((listed (number 8) 8).read (part (at + 657) 65 s)) (omega arith))

    pub lsn_zero : 18446744073709551615 ≤ be (part (at + 17) 8 s) → commit_lsns (commit_bytes.read (part at 722 s)) ≡ false
    lsn_zero l =
        lsns_are
        ∙ ap (λ (t : Bool). t && all counts ((listed (number 8) 8).read (part (at + 657) 65 s))) (le-ltb 0 (18446744073709551615 - be (part (at + 17) 8 s)) (omega arith))

    pub lsns_left : be (part (at + 17) 8 s) < 18446744073709551615 → all counts ((listed (number 8) 8).read (part (at + 657) 65 s)) ≡ commit_lsns (commit_bytes.read (part at 722 s))
    lsns_left l =
        sym
        (lsns_are
        ∙ ap (λ (t : Bool). t && all counts ((listed (number 8) 8).read (part (at + 657) 65 s))) (lt-ltb 0 (18446744073709551615 - be (part (at + 17) 8 s)) (omega arith)))

  -- ---- its hash and its segment

  hash_is : (commit_bytes.read (part at 722 s)).hash ≡ (optional hash_bytes).read (part (at + 29) 33 s)
  hash_is = ap (λ (c : R.Commit). c.hash) commit_at_lem

  pub hash_none : be (part (at + 29) 1 s) ≡ 0 → (commit_bytes.read (part at 722 s)).hash ≡ none
  hash_none e = hash_is ∙ read_none hash_bytes s (at + 29) e

  pub hash_there : (be (part (at + 29) 1 s) ≡ 0 → ⊥) → (commit_bytes.read (part at 722 s)).hash ≡ some (part (at + 30) 32 s)
  hash_there n = let e : at + 29 + 1 ≡ at + 30 = omega arith in hash_is ∙ read_some hash_bytes s (at + 29) n ∙ ap (λ (k : ℕ). some (part k 32 s)) e

  segment_is : (commit_bytes.read (part at 722 s)).segment ≡ (optional segment_bytes).read (part (at + 62) 595 s)
  segment_is = ap (λ (c : R.Commit). c.segment) commit_at_lem

  pub segment_none : be (part (at + 62) 1 s) ≡ 0 → (commit_bytes.read (part at 722 s)).segment ≡ none
  unfolding segment_bytes set_bytes window_bytes frames_bytes frame_bytes
  segment_none e = segment_is ∙ read_none segment_bytes s (at + 62) e

  pub segment_there : (be (part (at + 62) 1 s) ≡ 0 → ⊥) → (commit_bytes.read (part at 722 s)).segment ≡ some (segment_bytes.read (part (at + 63) 594 s))
  unfolding segment_bytes set_bytes window_bytes frames_bytes frame_bytes
  segment_there n = let e : at + 62 + 1 ≡ at + 63 = omega arith in segment_is ∙ read_some segment_bytes s (at + 62) n ∙ ap (λ (k : ℕ). some (segment_bytes.read (part k 594 s))) e

-- ---- a commit written

-- how many bytes something that may be missing has
pub given_long : {A : Type 0} (c : Codec A) (has : Presence) (x : A) → length (c.spell x) ≡ c.size → length ((optional c).spell (given_says has x)) ≡ 1 + c.size
given_long c Missing x e = ap suc (length-replicate c.size 0) ∙ omega arith
given_long c Given x e = ap suc e ∙ omega arith

-- its five stores
pub commit_stored : (at : ℕ) (x : R.Commit) (s t u v w y : List ℕ) → length (log_lsn_bytes.spell (x.log, x.lsn)) ≡ 25 → length ((optional hash_bytes).spell x.hash) ≡ 33
    → length ((optional segment_bytes).spell x.segment) ≡ 595 → length ((listed (number 8) 8).spell x.checkpoints) ≡ 65 → at + 722 ≤ length s
    → t ≡ put at (log_lsn_bytes.spell (x.log, x.lsn)) s → u ≡ put (at + 25) (bytes_of 4 x.count) t → v ≡ put (at + 29) ((optional hash_bytes).spell x.hash) u
    → w ≡ put (at + 62) ((optional segment_bytes).spell x.segment) v → y ≡ put (at + 657) ((listed (number 8) 8).spell x.checkpoints) w → y ≡ put at (commit_bytes.spell x) s
unfolding commit_bytes
commit_stored at x s t u v w y i j k l h p q r z n =
    let a = log_lsn_bytes.spell (x.log, x.lsn) in
    let b = bytes_of 4 x.count in
    let c = (optional hash_bytes).spell x.hash in
    let d = (optional segment_bytes).spell x.segment in
    let f = (listed (number 8) 8).spell x.checkpoints in
    let one = P.then_stored (P.stored at 25 a s i p) 4 b (N.length_bytes_of 4 x.count) (omega arith) q in
    let two = P.then_stored one 33 c j (omega arith) (r ∙ ap (λ (m : ℕ). put m c u) (let e : at + 29 ≡ at + (25 + 4) = omega arith in e)) in
    let three = P.then_stored two 595 d k (omega arith) (z ∙ ap (λ (m : ℕ). put m d v) (let e : at + 62 ≡ at + (25 + 4 + 33) = omega arith in e)) in
    (P.then_stored three 65 f l (omega arith) (n ∙ ap (λ (m : ℕ). put m f w) (let e : at + 657 ≡ at + (25 + 4 + 33 + 595) = omega arith in e))).bytes
    ∙ ap (λ (m : List ℕ). put at m s) (append_assoc (((a ++ b) ++ c)) d f ∙ append_assoc (a ++ b) c (d ++ f) ∙ append_assoc a b (c ++ (d ++ f)))
