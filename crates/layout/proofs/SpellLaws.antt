-- When bytes are the bytes of the value that they spell: a law for each part of which a form is built, over bytes of the form's length. The argument is one law
-- on two fields, side by side (`two_fields`): bytes are the same exactly if their fronts are and their backs are. A form is `Steady` where what it reads
-- is spelled in as many bytes, so that the fields fall apart at their places.
use Rattle.std.proofs.Common.{◌≡◌, ℕ, zero, suc, ◌+◌, ◌-◌, ◌*◌, ◌^◌, ◌<◌, ◌≤◌, min, Bool, true, false, cond, ◌&&◌, eqb, leb, List, [], ◌∷◌, ◌++◌, map, length, replicate, sym, refl, ap, ◌∙◌, subst, ap₂, arith, length-append, eq-eqb, ne_eqb, leb-false, leb-true}
use mathlib.Core.Option.{none, some}
use lib.ListN.{length-replicate}
use Rattle.octets.specs.Bytes.{be, bytes_of, down, part, AreBytes, all_zero}
use Rattle.octets.specs.Order.{lex, is_equal, order, then_by}
use Rattle.octets.specs.Flat.{flat}
use Rattle.std.proofs.Common.{Ordering, Less, Equal, Greater}
use Rattle.octets.proofs.Numbers as N
use Rattle.octets.proofs.Places as P
use Rattle.octets.proofs.Orders as O
use Rattle.table.specs.Table.{runs}
use Rattle.table.proofs.Rows.{rows_sub}
use Rattle.rules.specs.Lists.{all}
use Rattle.rules.proofs.TableLaws.{cases, eqb_turn}
use Rattle.layout.specs.Codecs.{Codec, number, complement, raw, padded, reserved, flagged, optional, listed, pair, viewed, spelled}

-- ---- bytes that are the same

then_same : (o p : Ordering) → is_equal (then_by o p) ≡ is_equal o && is_equal p
unfolding then_by
then_same Less p = refl
then_same Equal p = refl
then_same Greater p = refl

same_refl : (a : List ℕ) → is_equal (lex a a) ≡ true
same_refl a = ap is_equal (O.lex_self a)

-- two fields, side by side
two_fields : (j k : ℕ) (x y b : List ℕ) → length x ≡ j → length b ≡ j + k → is_equal (lex (x ++ y) b) ≡ is_equal (lex x (part 0 j b)) && is_equal (lex y (part j k b))
two_fields j k x y b e l =
    let whole : part 0 (j + k) b ≡ b = P.part_whole (j + k) b l in
    let start : 0 + j ≡ j = omega arith in
    let cut : b ≡ part 0 j b ++ part j k b = sym whole ∙ P.part_add 0 j k b ∙ ap (λ n. part 0 j b ++ part n k b) start in
    let long : length x ≡ length (part 0 j b) = e ∙ sym (P.length_part 0 j b (omega arith)) in
    ap (λ c. is_equal (lex (x ++ y) c)) cut
    ∙ ap is_equal (O.lex_append x y (part 0 j b) (part j k b) long)
    ∙ then_same (lex x (part 0 j b)) (lex y (part j k b))

-- zeros
zeros_same : (b : List ℕ) → is_equal (lex (replicate (length b) 0) b) ≡ all_zero b
unfolding lex all_zero
zeros_same [] = refl
zeros_same (x ∷ b) =
    then_same (order 0 x) (lex (replicate (length b) 0) b)
    ∙ ap₂ ◌&&◌ (O.order_eqb 0 x ∙ eqb_turn 0 x) (zeros_same b)
    ∙ as_cond (eqb x 0) (all_zero b)
  where
    as_cond : (p q : Bool) → (p && q) ≡ cond p q false
    as_cond true q = refl
    as_cond false q = refl

zeros_are : (n : ℕ) (b : List ℕ) → length b ≡ n → is_equal (lex (replicate n 0) b) ≡ all_zero b
zeros_are n b e = ap (λ m. is_equal (lex (replicate m 0) b)) (sym e) ∙ zeros_same b

-- one byte
byte_same : (n : ℕ) (b : List ℕ) → AreBytes b → length b ≡ 1 → n < 256 → is_equal (lex (bytes_of 1 n) b) ≡ eqb (be b) n
byte_same n b ab e h =
    let there : b ≡ bytes_of 1 (be b) = sym (ap (λ k. bytes_of k (be b)) (sym e) ∙ N.bytes_of_be b ab) in
    let small : be b < 256 ^ 1 = subst (λ k. be b < 256 ^ k) e (N.be_lt b ab) in
    ap (λ c. is_equal (lex (bytes_of 1 n) c)) there
    ∙ ap is_equal (O.lex_bytes_of 1 n (be b) (omega arith) small)
    ∙ O.order_eqb n (be b)
    ∙ eqb_turn n (be b)

-- a number is not above n exactly if it is the lesser of the two
at_most : (f n : ℕ) → eqb f (min f n) ≡ leb f n
at_most f n =
    cases (leb f n) (λ e. eq-eqb f (min f n) (let h = leb-true f n e in omega arith) ∙ sym e)
    (λ e. ne_eqb f (min f n) (λ q. let h = leb-false f n e in absurd (omega arith)) ∙ sym e)

-- ---- a form whose readings have its length

-- what is read of as many bytes is spelled in as many
abbrev pub Steady : {A : Type 0} → Codec A → Type 0
Steady c = (b : List ℕ) → length b ≡ c.size → length (c.spell (c.read b)) ≡ c.size

pub number_steady : (k : ℕ) → Steady (number k)
number_steady k b e = N.length_bytes_of k (be b)

pub complement_steady : (k : ℕ) → Steady (complement k)
complement_steady k b e = N.length_down k (256 ^ k - 1 - be b)

pub raw_steady : (n : ℕ) → Steady (raw n)
raw_steady n b e = e

pub padded_steady : (n : ℕ) → Steady (padded n)
padded_steady n b e =
    let m = min (be (part n 1 b)) n in
    let x = part 0 m b in
    let lx : length x ≡ m = P.length_part 0 m b (omega arith) in
    length-append (x ++ replicate (n - length x) 0) (bytes_of 1 (length x))
    ∙ ap₂ ◌+◌ (length-append x (replicate (n - length x) 0) ∙ ap₂ ◌+◌ lx (length-replicate (n - length x) 0 ∙ ap (λ k. n - k) lx)) (N.length_bytes_of 1 (length x))
    ∙ omega arith

module _ {A : Type 0} (c : Codec A) where
  pub reserved_steady : Steady c → Steady (reserved c)
  reserved_steady s b e = ap suc (s (part 1 c.size b) (P.length_part 1 c.size b (omega arith))) ∙ omega arith

  pub optional_steady : Steady c → Steady (optional c)
  optional_steady s b e = go (eqb (be (part 0 1 b)) 0)
    where
      go : (z : Bool) → length (flagged c (cond z none (some (c.read (part 1 c.size b))))) ≡ 1 + c.size
      go true = ap suc (length-replicate c.size 0) ∙ omega arith
      go false = ap suc (s (part 1 c.size b) (P.length_part 1 c.size b (omega arith))) ∙ omega arith

  pub pair_steady : {B : Type 0} (d : Codec B) → Steady c → Steady d → Steady (pair c d)
  pair_steady d s t b e =
      length-append (c.spell (c.read (part 0 c.size b))) (d.spell (d.read (part c.size d.size b)))
      ∙ ap₂ ◌+◌ (s (part 0 c.size b) (P.length_part 0 c.size b (omega arith))) (t (part c.size d.size b) (P.length_part c.size d.size b (omega arith)))

  pub viewed_steady : {B : Type 0} (to : A → B) (from : B → A) → ((x : A) → from (to x) ≡ x) → Steady c → Steady (viewed c to from)
  viewed_steady to from h s b e = ap (λ x. length (c.spell x)) (h (c.read b)) ∙ s b e

  -- the places of a list
  flat_steady : Steady c → (m at : ℕ) (b : List ℕ) → at + m * c.size ≤ length b → length (flat c.spell (map c.read (runs m c.size at b))) ≡ m * c.size
  unfolding flat runs
  flat_steady s zero at b h = omega arith
  flat_steady s (suc m) at b h =
      length-append (c.spell (c.read (part at c.size b))) (flat c.spell (map c.read (runs m c.size (at + c.size) b)))
      ∙ ap₂ ◌+◌ (s (part at c.size b) (P.length_part at c.size b (omega arith))) (flat_steady s m (at + c.size) b (omega arith))
      ∙ omega arith

  length_read : (m at : ℕ) (b : List ℕ) → length (map c.read (runs m c.size at b)) ≡ m
  unfolding runs
  length_read zero at b = refl
  length_read (suc m) at b = ap suc (length_read m (at + c.size) b)

  -- a list that was read, spelled at the length that it has
  listed_spell : (n : ℕ) (b : List ℕ) (m : ℕ) → m ≡ min (be (part 0 1 b)) n
      → (listed c n).spell ((listed c n).read b)
      ≡ bytes_of 1 m ++ (flat c.spell (map c.read (runs m c.size 1 b)) ++ replicate ((n - m) * c.size) 0)
  listed_spell n b m e =
      ap (λ (k : ℕ). bytes_of 1 (length (map c.read (runs k c.size 1 b))) ++ (flat c.spell (map c.read (runs k c.size 1 b)) ++ replicate ((n - length (map c.read (runs k c.size 1 b))) * c.size) 0)) (sym e)
      ∙ ap (λ (k : ℕ). bytes_of 1 k ++ (flat c.spell (map c.read (runs m c.size 1 b)) ++ replicate ((n - k) * c.size) 0)) (length_read m 1 b)

  pub listed_steady : (n : ℕ) → Steady c → Steady (listed c n)
  listed_steady n s b e =
      let m = min (be (part 0 1 b)) n in
      let small : m ≤ n = omega arith in
      let split = rows_sub c.size small in
      let ds = flat c.spell (map c.read (runs m c.size 1 b)) in
      let zs : List ℕ = replicate ((n - m) * c.size) 0 in
      let ld = flat_steady s m 1 b (omega arith) in
      let lz : length zs ≡ (n - m) * c.size = length-replicate ((n - m) * c.size) 0 in
      ap length (listed_spell n b m refl)
      ∙ length-append (bytes_of 1 m) (ds ++ zs)
      ∙ ap₂ ◌+◌ (N.length_bytes_of 1 m) (length-append ds zs ∙ ap₂ ◌+◌ ld lz)
      ∙ omega arith

-- ---- what is asked of the bytes of each form

pub number_spelled : (k : ℕ) (b : List ℕ) → AreBytes b → length b ≡ k → spelled (number k) b ≡ true
unfolding spelled
number_spelled k b ab e = ap (λ x. is_equal (lex x b)) (ap (λ n. bytes_of n (be b)) (sym e) ∙ N.bytes_of_be b ab) ∙ same_refl b

pub complement_spelled : (k : ℕ) (b : List ℕ) → AreBytes b → length b ≡ k → spelled (complement k) b ≡ true
unfolding spelled
complement_spelled k b ab e = ap (λ x. is_equal (lex x b)) (ap (λ n. down n (256 ^ n - 1 - be b)) (sym e) ∙ N.down_be b ab) ∙ same_refl b

pub raw_spelled : (n : ℕ) (b : List ℕ) → spelled (raw n) b ≡ true
unfolding spelled
raw_spelled n b = same_refl b

-- the number of bytes is at most n, and what is past it is zero
pub padded_spelled : (n : ℕ) (b : List ℕ) → AreBytes b → length b ≡ n + 1 → n < 256
    → spelled (padded n) b ≡ all_zero (part (min (be (part n 1 b)) n) (n - min (be (part n 1 b)) n) b) && leb (be (part n 1 b)) n
unfolding spelled
padded_spelled n b ab e h =
    let f = be (part n 1 b) in
    let m = min f n in
    let x = part 0 m b in
    let lx : length x ≡ m = P.length_part 0 m b (omega arith) in
    let zs : List ℕ = replicate (n - m) 0 in
    let lz : length (x ++ zs) ≡ n = length-append x zs ∙ ap₂ ◌+◌ lx (length-replicate (n - m) 0) ∙ omega arith in
    let z : 0 + m ≡ m = omega arith in
    let back : part m (n - m) (part 0 n b) ≡ part m (n - m) b = P.part_part 0 n m (n - m) b (omega arith) ∙ ap (λ k. part k (n - m) b) z in
    let front : part 0 m (part 0 n b) ≡ part 0 m b = P.part_part 0 n 0 m b (omega arith) in
    let ln : length (part 0 n b) ≡ m + (n - m) = P.length_part 0 n b (omega arith) ∙ omega arith in
    ap (λ k. is_equal (lex ((x ++ replicate (n - k) 0) ++ bytes_of 1 k) b)) lx
    ∙ two_fields n 1 (x ++ zs) (bytes_of 1 m) b lz e
    ∙ ap₂ ◌&&◌
    (two_fields m (n - m) x zs (part 0 n b) lx ln
    ∙ ap₂ (λ u v. is_equal (lex x u) && is_equal (lex zs v)) front back
    ∙ ap₂ ◌&&◌ (same_refl x) (zeros_are (n - m) (part m (n - m) b) (P.length_part m (n - m) b (omega arith))))
    (byte_same m (part n 1 b) (P.bytes_part n 1 b ab) (P.length_part n 1 b (omega arith)) (omega arith) ∙ at_most f n)

module _ {A : Type 0} (c : Codec A) where
  -- the reserved byte is 0
  pub reserved_spelled : (b : List ℕ) → AreBytes b → length b ≡ 1 + c.size → spelled (reserved c) b ≡ eqb (be (part 0 1 b)) 0 && spelled c (part 1 c.size b)
  unfolding spelled bytes_of
  reserved_spelled b ab e =
      two_fields 1 c.size (bytes_of 1 0) (c.spell (c.read (part 1 c.size b))) b refl e
      ∙ ap (λ t. t && is_equal (lex (c.spell (c.read (part 1 c.size b))) (part 1 c.size b)))
      (byte_same 0 (part 0 1 b) (P.bytes_part 0 1 b ab) (P.length_part 0 1 b (omega arith)) (omega arith))

  -- the flag is 0 and all is zero, or the flag is 1
  pub optional_spelled : (b : List ℕ) → AreBytes b → length b ≡ 1 + c.size
      → spelled (optional c) b ≡ cond (eqb (be (part 0 1 b)) 0) (all_zero (part 1 c.size b)) (eqb (be (part 0 1 b)) 1 && spelled c (part 1 c.size b))
  unfolding spelled bytes_of
  optional_spelled b ab e =
      cases (eqb f 0)
      (λ z. ap (λ t. is_equal (lex (flagged c (cond t none (some x))) b)) z
      ∙ two_fields 1 c.size (bytes_of 1 0) (replicate c.size 0) b refl e
      ∙ ap₂ ◌&&◌ (byte 0 (omega arith) ∙ z) (zeros_are c.size (part 1 c.size b) long)
      ∙ sym (ap (λ t. cond t (all_zero (part 1 c.size b)) (eqb f 1 && is_equal (lex (c.spell x) (part 1 c.size b)))) z))
      (λ z. ap (λ t. is_equal (lex (flagged c (cond t none (some x))) b)) z
      ∙ two_fields 1 c.size (bytes_of 1 1) (c.spell x) b refl e
      ∙ ap (λ t. t && is_equal (lex (c.spell x) (part 1 c.size b))) (byte 1 (omega arith))
      ∙ sym (ap (λ t. cond t (all_zero (part 1 c.size b)) (eqb f 1 && is_equal (lex (c.spell x) (part 1 c.size b)))) z))
    where
      f : ℕ
      f = be (part 0 1 b)

      x : A
      x = c.read (part 1 c.size b)

      long : length (part 1 c.size b) ≡ c.size
      long = P.length_part 1 c.size b (omega arith)

      byte : (n : ℕ) → n < 256 → is_equal (lex (bytes_of 1 n) (part 0 1 b)) ≡ eqb (be (part 0 1 b)) n
      byte n h = byte_same n (part 0 1 b) (P.bytes_part 0 1 b ab) (P.length_part 0 1 b (omega arith)) h

  -- each of the two
  pub pair_spelled : {B : Type 0} (d : Codec B) → Steady c → (b : List ℕ) → length b ≡ c.size + d.size
      → spelled (pair c d) b ≡ spelled c (part 0 c.size b) && spelled d (part c.size d.size b)
  unfolding spelled
  pair_spelled d s b e =
      two_fields c.size d.size (c.spell (c.read (part 0 c.size b))) (d.spell (d.read (part c.size d.size b))) b
      (s (part 0 c.size b) (P.length_part 0 c.size b (omega arith))) e

  pub viewed_spelled : {B : Type 0} (to : A → B) (from : B → A) → ((x : A) → from (to x) ≡ x) → (b : List ℕ) → spelled (viewed c to from) b ≡ spelled c b
  unfolding spelled
  viewed_spelled to from h b = ap (λ x. is_equal (lex (c.spell x) b)) (h (c.read b))

  -- each of the places
  flat_spelled : Steady c → (m at : ℕ) (b : List ℕ) → at + m * c.size ≤ length b
      → is_equal (lex (flat c.spell (map c.read (runs m c.size at b))) (part at (m * c.size) b)) ≡ all (spelled c) (runs m c.size at b)
  unfolding spelled flat runs all
  flat_spelled s zero at b h =
      let z : zero * c.size ≡ 0 = omega arith in
      ap (λ n. is_equal (lex [] (part at n b))) z ∙ ap (λ l. is_equal (lex [] l)) (P.part_none at b) ∙ same_refl []
  flat_spelled s (suc m) at b h =
      let n : suc m * c.size ≡ c.size + m * c.size = omega arith in
      let x = c.spell (c.read (part at c.size b)) in
      let y = flat c.spell (map c.read (runs m c.size (at + c.size) b)) in
      let w = part at (c.size + m * c.size) b in
      let z : at + 0 ≡ at = omega arith in
      ap (λ k. is_equal (lex (x ++ y) (part at k b))) n
      ∙ two_fields c.size (m * c.size) x y w (s (part at c.size b) (P.length_part at c.size b (omega arith))) (P.length_part at (c.size + m * c.size) b (omega arith))
      ∙ ap₂ (λ u v. is_equal (lex x u) && is_equal (lex y v))
      (P.part_part at (c.size + m * c.size) 0 c.size b (omega arith) ∙ ap (λ k. part k c.size b) z)
      (P.part_part at (c.size + m * c.size) c.size (m * c.size) b (omega arith))
      ∙ ap (λ t. is_equal (lex x (part at c.size b)) && t) (flat_spelled s m (at + c.size) b (omega arith))

  -- the length is at most n, each of the places is spelled, and what is past them is zero
  pub listed_spelled : (n : ℕ) → Steady c → (b : List ℕ) → AreBytes b → length b ≡ 1 + n * c.size → n < 256
      → (m : ℕ) → m ≡ min (be (part 0 1 b)) n
      → spelled (listed c n) b ≡ leb (be (part 0 1 b)) n && (all (spelled c) (runs m c.size 1 b) && all_zero (part (1 + m * c.size) ((n - m) * c.size) b))
  unfolding spelled
  listed_spelled n s b ab e h m em =
      let f = be (part 0 1 b) in
      let small : m ≤ n = omega arith in
      let split = rows_sub c.size small in
      let ds = flat c.spell (map c.read (runs m c.size 1 b)) in
      let zs : List ℕ = replicate ((n - m) * c.size) 0 in
      let w = part 1 (n * c.size) b in
      let lw : length w ≡ m * c.size + (n - m) * c.size = P.length_part 1 (n * c.size) b (omega arith) ∙ omega arith in
      let z : 1 + 0 ≡ 1 = refl in
      ap (λ l. is_equal (lex l b)) (listed_spell c n b m em)
      ∙ two_fields 1 (n * c.size) (bytes_of 1 m) (ds ++ zs) b (N.length_bytes_of 1 m) e
      ∙ ap₂ ◌&&◌
      (byte_same m (part 0 1 b) (P.bytes_part 0 1 b ab) (P.length_part 0 1 b (omega arith)) (omega arith) ∙ ap (eqb f) em ∙ at_most f n)
      (two_fields (m * c.size) ((n - m) * c.size) ds zs w (flat_steady c s m 1 b (omega arith)) lw
      ∙ ap₂ (λ u v. is_equal (lex ds u) && is_equal (lex zs v))
      (P.part_part 1 (n * c.size) 0 (m * c.size) b (omega arith)) (P.part_part 1 (n * c.size) (m * c.size) ((n - m) * c.size) b (omega arith))
      ∙ ap₂ ◌&&◌ (flat_spelled s m 1 b (omega arith)) (zeros_are ((n - m) * c.size) (part (1 + m * c.size) ((n - m) * c.size) b) (P.length_part (1 + m * c.size) ((n - m) * c.size) b (omega arith))))
