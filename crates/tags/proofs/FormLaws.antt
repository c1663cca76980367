-- What the form of a tag asks of the bytes at a place, as the code tests it: the reserved byte is 0, the name's length is 1 to 32, and what is past it is zero.
-- The volume is any bytes.
use Rattle.std.proofs.Common.{◌≡◌, ℕ, ◌+◌, ◌-◌, ◌<◌, ◌≤◌, min, Bool, true, false, ◌&&◌, eqb, ltb, leb, List, length, sym, refl, ap, ◌∙◌, ap₂, arith, eq-eqb, ne_eqb, le-leb, leb-false, leb-true}
use mathlib.Core.Bool.{and-true}
use borrow.Author.Tests.{lt-leb}
use Rattle.octets.specs.Bytes.{be, part, AreBytes, all_zero}
use Rattle.octets.proofs.Places as P
use Rattle.rules.specs.Lists.{all}
use Rattle.rules.specs.Forms.{name_length, name_form, id_form, tag_form}
use Rattle.rules.proofs.TableLaws.{cases}
use Rattle.layout.specs.Codecs.{padded, reserved, spelled, in_form}
use Rattle.layout.specs.Values.{id_bytes}
use Rattle.layout.specs.Records.{tag_bytes}
use Rattle.layout.proofs.SpellLaws.{padded_steady, padded_spelled, reserved_steady}
use Rattle.layout.proofs.PlaceLaws.{behind, all_bytes, raw_at, reserved_at, pair_at, stops, goes_on}

-- ---- a name

-- the tests of a name by its length, m where it is at most 32
name_tests : (len m : ℕ) (z : Bool) → m ≡ min len 32 → (z && leb len 32) && ((leb 1 m && leb m 32) && true) ≡ leb 1 len && (leb len 32 && z)
name_tests len m z e =
    let small : leb m 32 ≡ true = le-leb m 32 (omega arith) in
    let one : leb 1 m ≡ leb 1 len = cases (leb 1 len) (λ p. le-leb 1 m (let q = leb-true 1 len p in omega arith) ∙ sym p) (λ p. lt-leb 1 m (let q = leb-false 1 len p in omega arith) ∙ sym p) in
    ap₂ (λ (p q : Bool). (z && leb len 32) && ((p && q) && true)) one small ∙ turned z (leb len 32) (leb 1 len)
  where
    turned : (z a b : Bool) → (z && a) && ((b && true) && true) ≡ b && (a && z)
    turned true true true = refl
    turned true true false = refl
    turned true false true = refl
    turned true false false = refl
    turned false true true = refl
    turned false true false = refl
    turned false false true = refl
    turned false false false = refl

module _ (s : List ℕ) (ab : AreBytes s) (at : ℕ) where
  name_asked : at + 33 ≤ length s → (len m : ℕ) → len ≡ be (part (at + 32) 1 s) → m ≡ min len 32
      → in_form (padded 32) name_form (part at 33 s) ≡ leb 1 len && (leb len 32 && all_zero (part (at + m) (32 - m) s))
  unfolding in_form name_form name_length
  name_asked h len m el em =
      let b : List ℕ = part at 33 s in
      let x : List ℕ = part 0 m b in
      let lb : length b ≡ 33 = P.length_part at 33 s h in
      let f : be (part 32 1 b) ≡ len = ap be (behind s at 32 1 (at + 32) refl) ∙ sym el in
      let lx : length x ≡ m = P.length_part 0 m b (omega arith) in
      ap (λ (t : Bool). t && name_form (part 0 (min (be (part 32 1 b)) 32) b)) (padded_spelled 32 b (P.bytes_part at 33 s ab) lb (omega arith))
      ∙ ap (λ (k : ℕ). (all_zero (part (min k 32) (32 - min k 32) b) && leb k 32) && name_form (part 0 (min k 32) b)) f
      ∙ ap (λ (k : ℕ). (all_zero (part k (32 - k) b) && leb len 32) && name_form (part 0 k b)) (sym em)
      ∙ ap₂ (λ (y : List ℕ) (k : ℕ). (all_zero y && leb len 32) && ((leb 1 k && leb k 32) && all (λ c. ltb c 256) x)) (P.part_part at 33 m (32 - m) s (omega arith)) lx
      ∙ ap (λ (t : Bool). (all_zero (part (at + m) (32 - m) s) && leb len 32) && ((leb 1 m && leb m 32) && t)) (all_bytes x (P.bytes_part 0 m b (P.bytes_part at 33 s ab)))
      ∙ name_tests len m (all_zero (part (at + m) (32 - m) s)) em

-- ---- a tag

module _ (s : List ℕ) (ab : AreBytes s) (at : ℕ) (h : at + 50 ≤ length s) (len : ℕ) (el : len ≡ be (part (at + 33) 1 s)) where
  tag_asked : (m : ℕ) → m ≡ min len 32
      → in_form tag_bytes tag_form (part at 50 s) ≡ eqb (be (part at 1 s)) 0 && (leb 1 len && (leb len 32 && all_zero (part (at + 1 + m) (32 - m) s)))
  unfolding in_form spelled tag_bytes tag_form
  tag_asked m em =
      let place : at + 1 + 32 ≡ at + 33 = omega arith in
      pair_at s ab at (reserved (padded 32)) id_bytes name_form id_form (at + 34) (reserved_steady (padded 32) (padded_steady 32)) refl (omega arith)
      ∙ ap₂ ◌&&◌
      (reserved_at s ab at (padded 32) name_form (omega arith)
      ∙ ap (λ (t : Bool). eqb (be (part at 1 s)) 0 && t) (name_asked s ab (at + 1) (omega arith) len m (el ∙ ap (λ (n : ℕ). be (part n 1 s)) (sym place)) em))
      (raw_at s ab (at + 34) 16 (omega arith))
      ∙ and-true (eqb (be (part at 1 s)) 0 && (leb 1 len && (leb len 32 && all_zero (part (at + 1 + m) (32 - m) s))))

  -- ---- the ways out of the code's test, by what it has read

  pub not_reserved : (flag : ℕ) → flag ≡ be (part at 1 s) → (flag ≡ 0 → ⊥) → false ≡ in_form tag_bytes tag_form (part at 50 s)
  not_reserved flag e n = stops _ (ne_eqb (be (part at 1 s)) 0 (λ q. n (e ∙ q))) ∙ sym (tag_asked (min len 32) refl)

  module _ (flag : ℕ) (e : flag ≡ be (part at 1 s)) (z : flag ≡ 0) where
    first : eqb (be (part at 1 s)) 0 ≡ true
    first = eq-eqb (be (part at 1 s)) 0 (sym e ∙ z)

    pub no_name : len ≡ 0 → false ≡ in_form tag_bytes tag_form (part at 50 s)
    no_name n = goes_on _ _ first (stops _ (lt-leb 1 len (omega arith))) ∙ sym (tag_asked (min len 32) refl)

    pub long_name : 32 < len → false ≡ in_form tag_bytes tag_form (part at 50 s)
    long_name n = goes_on _ _ first (goes_on _ _ (le-leb 1 len (omega arith)) (stops _ (lt-leb len 32 n))) ∙ sym (tag_asked (min len 32) refl)

    pub past_name : (r : Bool) → (len ≡ 0 → ⊥) → len ≤ 32 → r ≡ all_zero (part (at + 1 + len) (32 - len) s) → r ≡ in_form tag_bytes tag_form (part at 50 s)
    past_name r n l p =
        let m : len ≡ min len 32 = omega arith in
        goes_on _ _ first (goes_on _ _ (le-leb 1 len (omega arith)) (goes_on _ _ (le-leb len 32 l) p)) ∙ sym (tag_asked len m)
