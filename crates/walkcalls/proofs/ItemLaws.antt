-- An item's bytes. A row of the table is the bytes of its commit, so its log and its segment stand in it as an item has them; the four parts of an item stored one after another
-- are its bytes.
use Rattle.std.proofs.Common.{◌≡◌, ℕ, suc, ◌+◌, ◌*◌, ◌<◌, ◌≤◌, true, List, [], ◌∷◌, ◌++◌, length, sym, refl, ap, ◌∙◌, append_assoc, arith, length-append, eqb-true}
use mathlib.Core.Option.{Option, none, some}
use lib.ListN.{length-replicate}
use Rattle.octets.specs.Bytes.{bytes_of, part, put}
use Rattle.octets.proofs.Numbers as N
use Rattle.octets.proofs.Places as P
use Rattle.pageset.specs.Sets.{normal_form}
use Rattle.rules.specs.Lists.{given, is_some}
use Rattle.rules.specs.Records.{Hash, Pages, Segment, Commit}
use Rattle.rules.specs.Forms.{bytes_form, id_form, hash_form, segment_form, commit_form}
use Rattle.rules.specs.Walk.{Item}
use Rattle.rules.proofs.TableLaws.{and_fst, and_snd, clash}
use Rattle.table.specs.Table.{count_of}
use Rattle.layout.specs.Codecs.{number, optional, listed}
use Rattle.layout.specs.Values.{window_bytes, set_bytes, frame_bytes, frames_bytes, segment_bytes}
use Rattle.layout.specs.Records.{log_lsn_bytes, hash_bytes, commit_bytes}
use Rattle.layout.specs.Tables.{commits_ok}
use Rattle.layout.proofs.FormHolds.{segment_held, set_held}
use Rattle.commitbytes.proofs.CommitLaws.{commit_at_lem}
use Rattle.commitbytes.proofs.PartLaws.{key_long}
use Rattle.rows.proofs.Checks.{row_in, row_form_lem, row_spelled}
use Rattle.rows.proofs.Tables.{commits}
use Rattle.commits.specs.Places.{commit_at}
use Rattle.gifts.specs.Steps.{segment_of, item_at}
use Rattle.walkcalls.specs.Items.{item_bytes}

-- ---- what stands in a row

bytes_long : (n : ℕ) (b : List ℕ) → bytes_form n b ≡ true → length b ≡ n
unfolding bytes_form
bytes_long n b e = eqb-true (length b) n (search (and_fst, and_snd))

hash_long : (o : Option Hash) → given hash_form o ≡ true → length ((optional hash_bytes).spell o) ≡ 33
hash_long none e = ap suc (length-replicate {A = ℕ} 32 0)
hash_long (some h) e = ap suc (bytes_long 32 h e)

segment_long : (s : Segment) → segment_form s ≡ true → length (segment_bytes.spell s) ≡ 594
unfolding segment_bytes set_bytes window_bytes frames_bytes frame_bytes
segment_long s e = (segment_held s e).long

-- a segment that is there, and its form
pub there : (o : Option Segment) → is_some o ≡ true → o ≡ some (segment_of o)
there none e = absurd (clash e refl)
there (some s) e = refl

-- its identifier has 16 bytes
pub sid_long : (s : Segment) → segment_form s ≡ true → length s.sid ≡ 16
unfolding segment_form
sid_long s e = bytes_long 16 s.sid (search (and_fst, and_snd))

there_form : (o : Option Segment) → is_some o ≡ true → given segment_form o ≡ true → segment_form (segment_of o) ≡ true
there_form none e h = absurd (clash e refl)
there_form (some s) e h = h

module _ (t : List ℕ) (ok : commits_ok t ≡ true) (i : ℕ) (l : i < count_of t) where
  c_form : commit_form (commit_at t i) ≡ true
  c_form = row_form_lem commits t ok i l

  log_long : length (commit_at t i).log ≡ 16
  unfolding commit_form
  log_long = let e : id_form (commit_at t i).log ≡ true = let f = c_form in search (and_fst, and_snd) in bytes_long 16 (commit_at t i).log e

  -- its log, where the row begins at a place
  pub row_log : (at : ℕ) → at ≡ 2 + i * 722 → part (at + 1) 16 t ≡ (commit_at t i).log
  row_log at p = sym (ap (λ (n : ℕ). (commit_bytes.read (part n 722 t)).log) (sym p) ∙ ap (λ (c : Commit). c.log) (commit_at_lem t at))

  module _ (has : is_some (commit_at t i).segment ≡ true) where
    pub form : segment_form (segment_of (commit_at t i).segment) ≡ true
    unfolding commit_form
    form = there_form (commit_at t i).segment has (let f = c_form in search (and_fst, and_snd))

    pub spelled_long : length (segment_bytes.spell (segment_of (commit_at t i).segment)) ≡ 594
    spelled_long = segment_long (segment_of (commit_at t i).segment) form

    abbrev place : ℕ
    place = 2 + i * 722

    abbrev key : List ℕ
    key = log_lsn_bytes.spell ((commit_at t i).log, (commit_at t i).lsn)

    abbrev count : List ℕ
    count = bytes_of 4 (commit_at t i).count

    abbrev hash : List ℕ
    hash = (optional hash_bytes).spell (commit_at t i).hash

    abbrev segment : List ℕ
    segment = segment_bytes.spell (segment_of (commit_at t i).segment)

    abbrev rest : List ℕ
    rest = (listed (number 8) 8).spell (commit_at t i).checkpoints

    whole : part place 722 t ≡ key ++ (count ++ (hash ++ ((1 ∷ segment) ++ rest)))
    unfolding commit_bytes
    whole =
        sym (row_spelled commits t ok i l)
        ∙ ap (λ (o : Option Segment). key ++ (count ++ (hash ++ ((optional segment_bytes).spell o ++ rest)))) (there (commit_at t i).segment has)

    -- its segment
    pub row_segment : (at : ℕ) → at ≡ place → part (at + 63) 594 t ≡ segment_bytes.spell (segment_of (commit_at t i).segment)
    unfolding commit_form
    row_segment at p =
        let lk : length key ≡ 25 = key_long (commit_at t i).log (commit_at t i).lsn log_long in
        let lc : length count ≡ 4 = N.length_bytes_of 4 (commit_at t i).count in
        let lh : length hash ≡ 33 = hash_long (commit_at t i).hash (let f = c_form in search (and_fst, and_snd)) in
        let ls : length segment ≡ 594 = spelled_long in
        let all : length (key ++ (count ++ (hash ++ ((1 ∷ segment) ++ rest)))) ≡ 722 = ap length (sym whole) ∙ P.length_part place 722 t (row_in commits t ok i l) in
        let a = length-append key (count ++ (hash ++ ((1 ∷ segment) ++ rest))) in
        let b = length-append count (hash ++ ((1 ∷ segment) ++ rest)) in
        let c = length-append hash ((1 ∷ segment) ++ rest) in
        let d = length-append (1 ∷ segment) rest in
        let one = P.part_split place 25 697 key (count ++ (hash ++ ((1 ∷ segment) ++ rest))) t lk (omega arith) whole in
        let two = P.part_split (place + 25) 4 693 count (hash ++ ((1 ∷ segment) ++ rest)) t lc (omega arith) one.1 in
        let three = P.part_split (place + 25 + 4) 33 660 hash ((1 ∷ segment) ++ rest) t lh (omega arith) two.1 in
        let four = P.part_split (place + 25 + 4 + 33) 595 65 (1 ∷ segment) rest t (ap suc ls) (omega arith) three.1 in
        let five = P.part_split (place + 25 + 4 + 33) 1 594 (1 ∷ []) segment t refl ls four.0 in
        let q : at + 63 ≡ place + 25 + 4 + 33 + 1 = omega arith in
        ap (λ (n : ℕ). part n 594 t) q ∙ five.1

-- ---- an item stored

set_long : (ws : Pages) → normal_form ws ≡ true → length (set_bytes.spell ws) ≡ 385
unfolding set_bytes window_bytes
set_long ws e = (set_held ws e).long

pub item_size : item_bytes.size ≡ 1003
unfolding item_bytes segment_bytes set_bytes window_bytes frames_bytes frame_bytes
item_size = refl

module _ (x : Item) (i : length x.log ≡ 16) (s : length (segment_bytes.spell x.segment) ≡ 594) (n : normal_form x.pages ≡ true) where
  pub item_long : length (item_bytes.spell x) ≡ 1003
  unfolding item_bytes
  item_long =
      P.length_two 16 987 x.log (bytes_of 8 x.lsn ++ (segment_bytes.spell x.segment ++ set_bytes.spell x.pages)) i
      (P.length_two 8 979 (bytes_of 8 x.lsn) (segment_bytes.spell x.segment ++ set_bytes.spell x.pages) (N.length_bytes_of 8 x.lsn)
      (P.length_two 594 385 (segment_bytes.spell x.segment) (set_bytes.spell x.pages) s (set_long x.pages n)))

  -- its four stores
  pub item_stored : (at : ℕ) (b t u v w : List ℕ) → at + 1003 ≤ length b → t ≡ put at x.log b → u ≡ put (at + 16) (bytes_of 8 x.lsn) t → v ≡ put (at + 24) (segment_bytes.spell x.segment) u
      → w ≡ put (at + 618) (set_bytes.spell x.pages) v → w ≡ put at (item_bytes.spell x) b
  unfolding item_bytes
  item_stored at b t u v w h p q r z =
      let f = bytes_of 8 x.lsn in
      let g = segment_bytes.spell x.segment in
      let k = set_bytes.spell x.pages in
      let one = P.then_stored (P.stored at 16 x.log b i p) 8 f (N.length_bytes_of 8 x.lsn) (omega arith) q in
      let two = P.then_stored one 594 g s (omega arith) (r ∙ ap (λ (m : ℕ). put m g u) (let e : at + 24 ≡ at + (16 + 8) = omega arith in e)) in
      (P.then_stored two 385 k (set_long x.pages n) (omega arith) (z ∙ ap (λ (m : ℕ). put m k v) (let e : at + 618 ≡ at + (16 + 8 + 594) = omega arith in e))).bytes
      ∙ ap (λ (m : List ℕ). put at m b) (append_assoc (x.log ++ f) g k ∙ append_assoc x.log f (g ++ k))

-- ---- the item of a row, stored as code stores it

module _ (t : List ℕ) (ok : commits_ok t ≡ true) (i : ℕ) (l : i < count_of t) (has : is_some (commit_at t i).segment ≡ true) (g : Pages) (n : normal_form g ≡ true) where
  pub row_long : length (item_bytes.spell (item_at t i g)) ≡ 1003
  row_long = item_long (item_at t i g) (log_long t ok i l) (spelled_long t ok i l has) n

  pub row_stored : (from lsn at : ℕ) (b x y z w : List ℕ) → from ≡ 2 + i * 722 → lsn ≡ (commit_at t i).lsn → at + 1003 ≤ length b → x ≡ put at (part (from + 1) 16 t) b → y ≡ put (at + 16) (bytes_of 8 lsn) x
      → z ≡ put (at + 24) (part (from + 63) 594 t) y → w ≡ put (at + 618) (set_bytes.spell g) z → w ≡ put at (item_bytes.spell (item_at t i g)) b
  row_stored from lsn at b x y z w e m h p q r v =
      item_stored (item_at t i g) (log_long t ok i l) (spelled_long t ok i l has) n at b x y z w h
      (p ∙ ap (λ (s : List ℕ). put at s b) (row_log t ok i l from e))
      (q ∙ ap (λ (k : ℕ). put (at + 16) (bytes_of 8 k) x) m)
      (r ∙ ap (λ (s : List ℕ). put (at + 24) s y) (row_segment t ok i l has from e))
      v
