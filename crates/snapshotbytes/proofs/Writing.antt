-- The bytes of a snapshot in form: its fields and all 8 places, since the places past its ranges are zero (`spell_is`); the loop that writes a path;
-- and the two round trips.
use Rattle.std.specs.Prelude.{◌≡◌, ℕ, zero, suc, ◌+◌, ◌-◌, ◌*◌, ◌<◌, ◌≤◌, true, leb, List, [], ◌∷◌, ◌++◌, map, length, get_or, take, drop, replicate}
use mathlib.Core.Path.{refl, sym, ap, ap₂, ◌∙◌}
use mathlib.Core.List.{append_assoc}
use native.Mathlib.Omega.{arith}
use native.Mathlib.Numerals.{add-one}
use borrow.Author.Tests.{leb-true}
use lib.ListN.{length-append, length-map, length-take, length-drop, take-append-drop, replicate-append-replicate}
use lib.Seq.{take-suc, take_all}
use Rattle.octets.specs.Bytes.{bytes_of, put}
use Rattle.octets.specs.Flat.{flat}
use Rattle.octets.proofs.Places as P
use Rattle.octets.proofs.Flats.{flat_append, flat_one}
use Rattle.octets.proofs.Numbers as N
use Rattle.rules.specs.Lists.{all}
use Rattle.rules.specs.Records as rules
use Rattle.rules.proofs.TableLaws.{and_fst, and_snd}
use Rattle.layout.specs.Codecs.{spelled, Holds}
use Rattle.layout.specs.Values.{range_bytes, snapshot_bytes}
use Rattle.layout.proofs.HoldLaws as H
use Rattle.volume.specs.declared.snapshot.LogRange.{LogRange}
use Rattle.volume.specs.declared.snapshot.Snapshot.{Snapshot}
use Rattle.volume.specs.Snapshots.{range_says, snapshot_says, no_range, is_zero_range, in_form, laid}
use Rattle.volume.proofs.PathLaws.{back, zero_ranges}
use Rattle.volume.proofs.SnapshotLaws.{laid_says}

-- the bytes of a range as the code holds it
abbrev range_out : LogRange → List ℕ
range_out r = range_bytes.spell (range_says r)

pub range_is : (r : LogRange) → (r.log ++ bytes_of 8 r.start.0) ++ bytes_of 8 r.end.0 ≡ range_out r
unfolding range_bytes
range_is r = append_assoc r.log (bytes_of 8 r.start.0) (bytes_of 8 r.end.0)

-- of a log of 16 bytes they are 32
length_range : (r : LogRange) → length r.log ≡ 16 → length (range_out r) ≡ 32
length_range r e =
    ap length (sym (range_is r))
    ∙ length-append (r.log ++ bytes_of 8 r.start.0) (bytes_of 8 r.end.0)
    ∙ ap₂ ◌+◌ (length-append r.log (bytes_of 8 r.start.0) ∙ ap₂ ◌+◌ e (N.length_bytes_of 8 r.start.0)) (N.length_bytes_of 8 r.end.0)

-- ---- records one after another

flat_map : {A B : Type 0} (e : B → List ℕ) (f : A → B) (xs : List A) → flat e (map f xs) ≡ flat (λ x. e (f x)) xs
unfolding flat
flat_map e f [] = refl
flat_map e f (x ∷ xs) = ap (λ l. e (f x) ++ l) (flat_map e f xs)

-- ---- the loop: t is s with the first i ranges stored

module _ (at : ℕ) (rs : List LogRange) (s : List ℕ) where
  abbrev pub Written : ℕ → List ℕ → Type 0
  Written i t = P.Stored at (i * 32) (flat range_out (take i rs)) s t

  pub written_none : Written 0 s
  unfolding flat
  written_none = record { long = refl; bytes = sym (P.put_none at s) }

  pub written_more : (i : ℕ) (t u : List ℕ) (z : LogRange) → Written i t → i < length rs → at + (i + 1) * 32 ≤ length s
      → length (get_or rs i z).log ≡ 16 → u ≡ put (at + i * 32) (range_out (get_or rs i z)) t → Written (i + 1) u
  written_more i t u z w l h e p =
      let r = get_or rs i z in
      let n : i * 32 + 32 ≡ (i + 1) * 32 = omega arith in
      let b : at + i * 32 + 32 ≤ length s = omega arith in
      let q = P.then_stored w 32 (range_out r) (length_range r e) b p in
      let f : flat range_out (take i rs) ++ range_out r ≡ flat range_out (take (i + 1) rs) =
      ap (λ x. flat range_out (take i rs) ++ x) (sym (flat_one range_out r)) ∙ sym (flat_append range_out (take i rs) (r ∷ []))
      ∙ ap (flat range_out) (sym (take-suc rs i z l) ∙ ap (λ k. take k rs) (sym (add-one i))) in
      record { long = ap length (sym f) ∙ q.long ∙ n; bytes = q.bytes ∙ ap (λ x. put at x s) f }

  -- all 8
  pub written_all : (i : ℕ) (t : List ℕ) → Written i t → length rs ≡ 8 → i ≡ 8 → P.Stored at 256 (flat range_out rs) s t
  written_all i t w l e =
      let n : i * 32 ≡ 256 = omega arith in
      let f : flat range_out (take i rs) ≡ flat range_out rs = ap (flat range_out) (take_all i rs (omega arith)) in
      record { long = ap length (sym f) ∙ w.long ∙ n; bytes = w.bytes ∙ ap (λ x. put at x s) f }

-- ---- a snapshot in form

zero_out : range_out no_range ≡ replicate 32 0
unfolding range_bytes bytes_of
zero_out = refl

zeros_out : (k : ℕ) → flat range_out (replicate k no_range) ≡ replicate (k * 32) 0
unfolding flat
zeros_out zero = refl
zeros_out (suc k) =
    let e : 32 + k * 32 ≡ suc k * 32 = omega arith in
    ap₂ ◌++◌ zero_out (zeros_out k) ∙ replicate-append-replicate 32 (k * 32) 0 ∙ ap (λ n. replicate n 0) e

module _ (x : Snapshot) (l : length x.path ≡ 8) (f : in_form x ≡ true) where
  pub few : x.len ≤ 8
  unfolding in_form
  few = leb-true x.len 8 (and_fst (leb x.len 8) (all is_zero_range (drop x.len x.path)) f)

  -- past its ranges the path is zero
  past : drop x.len x.path ≡ replicate (8 - x.len) no_range
  unfolding in_form
  past =
      let n : length (drop x.len x.path) ≡ 8 - x.len = length-drop x.len x.path ∙ ap (λ k. k - x.len) l in
      zero_ranges (drop x.len x.path) (and_snd (leb x.len 8) (all is_zero_range (drop x.len x.path)) f) ∙ ap (λ k. replicate k no_range) n

  abbrev said : List rules.Range
  said = map range_says (take x.len x.path)

  length_said : length said ≡ x.len
  length_said = length-map (take x.len x.path) range_says ∙ length-take x.len x.path ∙ omega (arith, few)

  places : flat range_bytes.spell said ++ replicate ((8 - x.len) * 32) 0 ≡ flat range_out x.path
  places =
      ap₂ ◌++◌ (flat_map range_bytes.spell range_says (take x.len x.path)) (sym (zeros_out (8 - x.len)) ∙ ap (flat range_out) (sym past))
      ∙ sym (flat_append range_out (take x.len x.path) (drop x.len x.path))
      ∙ ap (flat range_out) (take-append-drop x.len x.path)

  -- its bytes: the reserved byte, the count, the number of ranges, the 8 places
  pub spell_is : ((bytes_of 1 0 ++ bytes_of 4 x.count.0) ++ bytes_of 1 x.len) ++ flat range_out x.path ≡ snapshot_bytes.spell (snapshot_says x)
  unfolding snapshot_bytes range_bytes bytes_of
  spell_is =
      append_assoc (bytes_of 1 0 ++ bytes_of 4 x.count.0) (bytes_of 1 x.len) (flat range_out x.path)
      ∙ append_assoc (bytes_of 1 0) (bytes_of 4 x.count.0) (bytes_of 1 x.len ++ flat range_out x.path)
      ∙ ap (λ t. bytes_of 1 0 ++ (bytes_of 4 x.count.0 ++ (bytes_of 1 x.len ++ t))) (sym places)
      ∙ ap (λ k. bytes_of 1 0 ++ (bytes_of 4 x.count.0 ++ (bytes_of 1 k ++ (flat range_bytes.spell said ++ replicate ((8 - k) * 32) 0)))) (sym length_said)

-- ---- round trips

-- what is read of bytes in form is written as these bytes
pub read_write : (b : List ℕ) → spelled snapshot_bytes b ≡ true → snapshot_bytes.spell (snapshot_says (laid (snapshot_bytes.read b))) ≡ b
read_write b h = ap snapshot_bytes.spell (laid_says (snapshot_bytes.read b)) ∙ H.spelled_is snapshot_bytes b h

-- and what is written of a snapshot in form is read as it
pub write_read : (x : Snapshot) → length x.path ≡ 8 → in_form x ≡ true → Holds snapshot_bytes (snapshot_says x) → laid (snapshot_bytes.read (snapshot_bytes.spell (snapshot_says x))) ≡ x
unfolding laid
write_read x l f h = ap laid h.back ∙ rw (length_said x l f, back (take x.len x.path), ← past x l f, take-append-drop)
