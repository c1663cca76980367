-- What is asked of the bytes of each record: the reserved byte is 0, and an LSN or a page number is not 0, which a complement is where all its bits are set.
use Rattle.std.proofs.Common.{◌≡◌, ℕ, ◌+◌, ◌-◌, ◌^◌, ◌<◌, ◌≤◌, Bool, true, not, ◌&&◌, eqb, leb, List, length, sym, refl, ap, ◌∙◌, ap₂, arith, le-ltb, lt-ltb, ne_eqb, eqb-true, le-leb}
use borrow.Author.Tests.{eqb-false}
use Rattle.octets.specs.Bytes.{be, part, AreBytes}
use Rattle.octets.proofs.Places as P
use Rattle.table.proofs.Rows.{key_at}
use Rattle.basics.specs.Numbers.{last_lsn, last_page, counts}
use Rattle.rules.specs.Forms.{lsn_form, page_form, id_form, checkpoint_form, entry_form, present_form}
use Rattle.rules.proofs.TableLaws.{cases, and_fst}
use Rattle.layout.specs.Codecs.{Codec, number, complement, pair, in_form}
use Rattle.layout.specs.Values.{id_bytes}
use Rattle.layout.specs.Records.{log_lsn_bytes, log_page_lsn_bytes, sid_page_bytes, checkpoint_of, checkpoint_parts, checkpoint_bytes, entry_of, entry_parts, entry_bytes, present_of, present_parts, present_bytes}
use Rattle.layout.proofs.SpellLaws as S
use Rattle.layout.proofs.PlaceLaws.{id_form_lem}
use Rattle.layout.proofs.PlainLaws.{number_plain, complement_plain, raw_plain, pair_plain, key_spelled}

-- ---- fields

-- a number that may be m at most is 0 where its complement is m
complement_counts : (m w : ℕ) → w ≤ m → (counts (m - w) && leb (m - w) m) ≡ not (eqb w m)
complement_counts m w h =
    cases (eqb w m)
    (λ e. let z = eqb-true w m e in ap (λ t. t && leb (m - w) m) (le-ltb 0 (m - w) (omega arith)) ∙ sym (ap not e))
    (λ e. let z : w < m = below (eqb-false w m e) in ap₂ ◌&&◌ (lt-ltb 0 (m - w) (omega arith)) (le-leb (m - w) m (omega arith)) ∙ sym (ap not e))
  where
    below : (w ≡ m → ⊥) → w < m
    below n = omega arith

number_counts : (m w : ℕ) → w ≤ m → (counts w && leb w m) ≡ not (eqb w 0)
number_counts m w h =
    cases (eqb w 0)
    (λ e. let z = eqb-true w 0 e in ap (λ t. t && leb w m) (le-ltb 0 w (omega arith)) ∙ sym (ap not e))
    (λ e. let z : 0 < w = above (eqb-false w 0 e) in ap₂ ◌&&◌ (lt-ltb 0 w z) (le-leb w m h) ∙ sym (ap not e))
  where
    above : (w ≡ 0 → ⊥) → 0 < w
    above n = omega arith

lsn_down : (w : ℕ) → w < 256 ^ 8 → lsn_form (256 ^ 8 - 1 - w) ≡ not (eqb w 18446744073709551615)
unfolding lsn_form last_lsn
lsn_down w h = complement_counts 18446744073709551615 w (omega arith)

page_down : (w : ℕ) → w < 256 ^ 4 → page_form (256 ^ 4 - 1 - w) ≡ not (eqb w 4294967295)
unfolding page_form last_page
page_down w h = complement_counts 4294967295 w (omega arith)

page_up : (w : ℕ) → w < 256 ^ 4 → page_form w ≡ not (eqb w 0)
unfolding page_form last_page
page_up w h = number_counts 4294967295 w (omega arith)

-- a page of a segment, as the code holds it, is in form where the page is not 0
pub present_formed : (sid : List ℕ) (page : ℕ) → AreBytes sid → length sid ≡ 16 → page < 256 ^ 4 → 0 < page → present_form (record { sid = sid; page = page }) ≡ true
unfolding present_form
present_formed sid page b l h z = ap₂ ◌&&◌ (id_form_lem sid l b) (page_up page h ∙ ap not (ne_eqb page 0 (λ e. omega arith)))

-- ---- the record at a place

module _ (s : List ℕ) (at : ℕ) (by : AreBytes s) where
  -- the identifier behind the reserved byte, of a record of 1 + 16 + n bytes
  id_at : (n : ℕ) → at + (17 + n) ≤ length s → id_form (part 0 16 (part 1 (16 + n) (part at (17 + n) s))) ≡ true
  id_at n h =
      let e : part 0 16 (part 1 (16 + n) (part at (17 + n) s)) ≡ part (at + 1) 16 s = key_at (16 + n) 16 1 (part at (17 + n) s) (omega arith) ∙ P.part_part at (17 + n) 1 16 s (omega arith) in
      ap id_form e ∙ id_form_lem (part (at + 1) 16 s) (P.length_part (at + 1) 16 s (omega arith)) (P.bytes_part (at + 1) 16 s by)

  -- a field of it
  field_at : (n j k : ℕ) → j + k ≤ n → part (16 + j) k (part 1 (16 + n) (part at (17 + n) s)) ≡ part (at + (17 + j)) k s
  field_at n j k h =
      let e : 1 + (16 + j) ≡ 17 + j = omega arith in
      P.part_part 1 (16 + n) (16 + j) k (part at (17 + n) s) (omega arith) ∙ ap (λ i. part i k (part at (17 + n) s)) e ∙ P.part_part at (17 + n) (17 + j) k s (omega arith)

  first_at : (n : ℕ) → 1 ≤ n → be (part 0 1 (part at n s)) ≡ be (part at 1 s)
  first_at n h = ap be (key_at n 1 at s h)

  -- a checkpoint: the reserved byte and the LSN
  pub checkpoint_asked : at + 25 ≤ length s → in_form checkpoint_bytes checkpoint_form (part at 25 s) ≡ eqb (be (part at 1 s)) 0 && not (eqb (be (part (at + 17) 8 s)) 18446744073709551615)
  unfolding in_form checkpoint_bytes log_lsn_bytes checkpoint_form
  checkpoint_asked h =
      let b = part at 25 s in
      let fields : Codec (List ℕ × ℕ) = pair id_bytes (complement 8) in
      ap₂ ◌&&◌
      (S.viewed_spelled log_lsn_bytes checkpoint_of checkpoint_parts (λ x. refl) b
      ∙ key_spelled fields (pair_plain id_bytes (complement 8) (raw_plain 16) (complement_plain 8)) b (P.bytes_part at 25 s by) (P.length_part at 25 s h)
      ∙ ap (λ n. eqb n 0) (first_at 25 (omega arith)))
      (ap₂ ◌&&◌ (id_at 8 h) (ap (λ l. lsn_form (256 ^ 8 - 1 - be l)) (field_at 8 0 8 (omega arith)) ∙ lsn_down (be (part (at + 17) 8 s)) (P.be_part_lt (at + 17) 8 s by (omega arith))))

  -- an index entry: the reserved byte, the page and the LSN
  pub entry_asked : at + 29 ≤ length s
      → in_form entry_bytes entry_form (part at 29 s) ≡ eqb (be (part at 1 s)) 0 && (not (eqb (be (part (at + 17) 4 s)) 0) && not (eqb (be (part (at + 21) 8 s)) 18446744073709551615))
  unfolding in_form entry_bytes log_page_lsn_bytes entry_form
  entry_asked h =
      let b = part at 29 s in
      let tail : Codec (ℕ × ℕ) = pair (number 4) (complement 8) in
      let fields : Codec (List ℕ × (ℕ × ℕ)) = pair id_bytes tail in
      let c = part 1 28 b in
      let page : part 0 4 (part 16 12 c) ≡ part (at + 17) 4 s = P.part_part 16 12 0 4 c (omega arith) ∙ field_at 12 0 4 (omega arith) in
      let lsn : part 4 8 (part 16 12 c) ≡ part (at + 21) 8 s = P.part_part 16 12 4 8 c (omega arith) ∙ field_at 12 4 8 (omega arith) in
      ap₂ ◌&&◌
      (S.viewed_spelled log_page_lsn_bytes entry_of entry_parts (λ x. refl) b
      ∙ key_spelled fields (pair_plain id_bytes tail (raw_plain 16) (pair_plain (number 4) (complement 8) (number_plain 4) (complement_plain 8))) b (P.bytes_part at 29 s by) (P.length_part at 29 s h)
      ∙ ap (λ n. eqb n 0) (first_at 29 (omega arith)))
      (ap₂ ◌&&◌
      (ap₂ ◌&&◌ (id_at 12 h) (ap (λ l. page_form (be l)) page ∙ page_up (be (part (at + 17) 4 s)) (P.be_part_lt (at + 17) 4 s by (omega arith))))
      (ap (λ l. lsn_form (256 ^ 8 - 1 - be l)) lsn ∙ lsn_down (be (part (at + 21) 8 s)) (P.be_part_lt (at + 21) 8 s by (omega arith))))

  -- a present page: the reserved byte and the page
  pub present_asked : at + 21 ≤ length s → in_form present_bytes present_form (part at 21 s) ≡ eqb (be (part at 1 s)) 0 && not (eqb (be (part (at + 17) 4 s)) 4294967295)
  unfolding in_form present_bytes sid_page_bytes present_form
  present_asked h =
      let b = part at 21 s in
      let fields : Codec (List ℕ × ℕ) = pair id_bytes (complement 4) in
      ap₂ ◌&&◌
      (S.viewed_spelled sid_page_bytes present_of present_parts (λ x. refl) b
      ∙ key_spelled fields (pair_plain id_bytes (complement 4) (raw_plain 16) (complement_plain 4)) b (P.bytes_part at 21 s by) (P.length_part at 21 s h)
      ∙ ap (λ n. eqb n 0) (first_at 21 (omega arith)))
      (ap₂ ◌&&◌ (id_at 4 h) (ap (λ l. page_form (256 ^ 4 - 1 - be l)) (field_at 4 0 4 (omega arith)) ∙ page_down (be (part (at + 17) 4 s)) (P.be_part_lt (at + 17) 4 s by (omega arith))))

  -- the fields that are read of them
  pub checkpoint_lsn_lem : (checkpoint_bytes.read (part at 25 s)).lsn ≡ 18446744073709551615 - be (part (at + 17) 8 s)
  unfolding checkpoint_bytes log_lsn_bytes
  checkpoint_lsn_lem = ap (λ l. 256 ^ 8 - 1 - be l) (field_at 8 0 8 (omega arith))

  pub entry_page : (entry_bytes.read (part at 29 s)).page ≡ be (part (at + 17) 4 s)
  unfolding entry_bytes log_page_lsn_bytes
  entry_page = ap be (P.part_part 16 12 0 4 (part 1 28 (part at 29 s)) (omega arith) ∙ field_at 12 0 4 (omega arith))

  pub entry_lsn_lem : (entry_bytes.read (part at 29 s)).lsn ≡ 18446744073709551615 - be (part (at + 21) 8 s)
  unfolding entry_bytes log_page_lsn_bytes
  entry_lsn_lem = ap (λ l. 256 ^ 8 - 1 - be l) (P.part_part 16 12 4 8 (part 1 28 (part at 29 s)) (omega arith) ∙ field_at 12 4 8 (omega arith))

  pub present_page : (present_bytes.read (part at 21 s)).page ≡ 4294967295 - be (part (at + 17) 4 s)
  unfolding present_bytes sid_page_bytes
  present_page = ap (λ l. 256 ^ 4 - 1 - be l) (field_at 4 0 4 (omega arith))

-- ---- the reserved byte

-- a record in form has the reserved byte 0
pub byte_is : (p q : Bool) (b : ℕ) → p ≡ eqb b 0 && q → p ≡ true → b ≡ 0
byte_is p q b e h = eqb-true b 0 (and_fst (eqb b 0) q (sym e ∙ h))
