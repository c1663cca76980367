-- Which values a form holds: a law for each part of which a form is built. Bytes that are spelled and a value that is held determine each other.
use Rattle.std.proofs.Common.{◌≡◌, ℕ, zero, suc, ◌+◌, ◌-◌, ◌*◌, ◌^◌, ◌<◌, ◌≤◌, min, Bool, true, cond, eqb, List, [], ◌∷◌, ◌++◌, map, length, replicate, sym, refl, ap, ◌∙◌, subst, ap₂, arith, length-append}
use mathlib.Core.Option.{none, some}
use lib.ListN.{length-replicate}
use Rattle.octets.specs.Bytes.{be, bytes_of, part, AreBytes}
use Rattle.octets.specs.Order.{lex, is_equal}
use Rattle.octets.specs.Flat.{flat}
use Rattle.octets.proofs.Numbers as N
use Rattle.octets.proofs.Places as P
use Rattle.octets.proofs.Orders as O
use Rattle.table.specs.Table.{runs}
use Rattle.table.proofs.Rows.{rows_sub}
use Rattle.rules.proofs.TableLaws.{and_fst, and_snd, and_both}
use Rattle.layout.specs.Codecs.{Codec, number, complement, raw, padded, reserved, optional, listed, pair, viewed, spelled, in_form, Holds}

-- ---- bytes

-- the parts of two runs, side by side
fronts : (j k : ℕ) (x y : List ℕ) → length x ≡ j → length y ≡ k → (part 0 j (x ++ y) ≡ x) × (part j k (x ++ y) ≡ y)
fronts j k x y e f =
    let n : length (x ++ y) ≡ j + k = length-append x y ∙ ap₂ ◌+◌ e f in
    let whole : part 0 (j + k) (x ++ y) ≡ x ++ y = P.part_whole (j + k) (x ++ y) n in
    let s = P.part_split 0 j k x y (x ++ y) e f whole in
    let z : 0 + j ≡ j = omega arith in
    (s.0, ap (λ m. part m k (x ++ y)) (sym z) ∙ s.1)

bytes_append : (x y : List ℕ) → AreBytes x → AreBytes y → AreBytes (x ++ y)
bytes_append [] y a b i = b i
bytes_append (z ∷ x) y a b zero = a 0
bytes_append (z ∷ x) y a b (suc i) = bytes_append x y (λ j. a (suc j)) b i

bytes_zeros : (n : ℕ) → AreBytes (replicate n 0)
bytes_zeros zero i = omega arith
bytes_zeros (suc n) zero = omega arith
bytes_zeros (suc n) (suc i) = bytes_zeros n i

-- ---- spelled and held

module _ {A : Type 0} (c : Codec A) where
  pub spelled_is : (b : List ℕ) → spelled c b ≡ true → c.spell (c.read b) ≡ b
  unfolding spelled
  spelled_is b h = O.same_true (c.spell (c.read b)) b h

  pub held_spelled : {x : A} → Holds c x → spelled c (c.spell x) ≡ true
  unfolding spelled
  held_spelled {x} h = ap (λ y. is_equal (lex (c.spell y) (c.spell x))) h.back ∙ ap is_equal (O.lex_self (c.spell x))

  module _ (form : A → Bool) where
    -- bytes in form are the bytes of a value in form
    pub in_form_lem : (b : List ℕ) → in_form c form b ≡ true → (c.spell (c.read b) ≡ b) × (form (c.read b) ≡ true)
    unfolding in_form
    in_form_lem b h = (spelled_is b (and_fst (spelled c b) (form (c.read b)) h), and_snd (spelled c b) (form (c.read b)) h)

    -- and the bytes of a value in form that is held are in form
    pub held_form : {x : A} → Holds c x → form x ≡ true → in_form c form (c.spell x) ≡ true
    unfolding in_form
    held_form h f = and_both (held_spelled h) (ap form h.back ∙ f)

-- ---- the parts

pub number_holds : (k n : ℕ) → n < 256 ^ k → Holds (number k) n
number_holds k n h = record { long = N.length_bytes_of k n; bytes = N.bytes_bytes_of k n; back = N.be_bytes_of k n h }

pub complement_holds : (k n : ℕ) → n < 256 ^ k → Holds (complement k) n
complement_holds k n h = record {
  long = N.length_down k n;
  bytes = N.bytes_down k n;
  back = ap (λ m. 256 ^ k - 1 - m) (N.be_down k n) ∙ N.complement_twice (256 ^ k) n h;
}

pub raw_holds : (n : ℕ) (x : List ℕ) → length x ≡ n → AreBytes x → Holds (raw n) x
raw_holds n x e b = record { long = e; bytes = b; back = refl }

pub padded_holds : (n : ℕ) (x : List ℕ) → length x ≤ n → n < 256 → AreBytes x → Holds (padded n) x
padded_holds n x l h b =
    let zs : List ℕ = replicate (n - length x) 0 in
    let ln : length (x ++ zs) ≡ n = length-append x zs ∙ ap (λ m. length x + m) (length-replicate (n - length x) 0) ∙ omega arith in
    let one = fronts n 1 (x ++ zs) (bytes_of 1 (length x)) ln (N.length_bytes_of 1 (length x)) in
    let count : be (part n 1 ((x ++ zs) ++ bytes_of 1 (length x))) ≡ length x = ap be one.1 ∙ N.be_bytes_of 1 (length x) (omega arith) in
    let small : min (length x) n ≡ length x = omega arith in
    let name : part 0 (length x) ((x ++ zs) ++ bytes_of 1 (length x)) ≡ x =
    sym (P.part_part 0 n 0 (length x) ((x ++ zs) ++ bytes_of 1 (length x)) (omega arith))
    ∙ ap (part 0 (length x)) one.0 ∙ (fronts (length x) (n - length x) x zs refl (length-replicate (n - length x) 0)).0 in
    record {
      long = length-append (x ++ zs) (bytes_of 1 (length x)) ∙ ap₂ ◌+◌ ln (N.length_bytes_of 1 (length x));
      bytes = bytes_append (x ++ zs) (bytes_of 1 (length x)) (bytes_append x zs b (bytes_zeros (n - length x))) (N.bytes_bytes_of 1 (length x));
      back = ap (λ m. part 0 (min m n) ((x ++ zs) ++ bytes_of 1 (length x))) count ∙ ap (λ m. part 0 m ((x ++ zs) ++ bytes_of 1 (length x))) small ∙ name;
    }

module _ {A : Type 0} (c : Codec A) where
  pub reserved_holds : (x : A) → Holds c x → Holds (reserved c) x
  unfolding bytes_of
  reserved_holds x h = record {
    long = ap suc h.long ∙ omega arith;
    bytes = bytes_append (bytes_of 1 0) (c.spell x) (N.bytes_bytes_of 1 0) h.bytes;
    back = ap c.read (fronts 1 c.size (bytes_of 1 0) (c.spell x) refl h.long).1 ∙ h.back;
  }

  -- a value that is missing, and one that is there
  pub missing_holds : Holds (optional c) none
  unfolding bytes_of be
  missing_holds = record {
    long = ap suc zeros ∙ omega arith;
    bytes = bytes_append (bytes_of 1 0) (replicate c.size 0) (N.bytes_bytes_of 1 0) (bytes_zeros c.size);
    back = ap (λ b. cond (eqb (be b) 0) none (some (c.read (part 1 c.size (0 ∷ replicate c.size 0))))) (fronts 1 c.size (bytes_of 1 0) (replicate c.size 0) refl zeros).0;
  }
    where
      zeros : length (replicate {A = ℕ} c.size 0) ≡ c.size
      zeros = length-replicate c.size 0

  pub there_holds : (x : A) → Holds c x → Holds (optional c) (some x)
  unfolding bytes_of be
  there_holds x h =
      let f = fronts 1 c.size (bytes_of 1 1) (c.spell x) refl h.long in
      record {
        long = ap suc h.long ∙ omega arith;
        bytes = bytes_append (bytes_of 1 1) (c.spell x) (N.bytes_bytes_of 1 1) h.bytes;
        back = ap (λ b. cond (eqb (be b) 0) none (some (c.read (part 1 c.size (1 ∷ c.spell x))))) f.0 ∙ ap (λ b. some (c.read b)) f.1 ∙ ap some h.back;
      }

  pub pair_holds : {B : Type 0} (d : Codec B) (x : A) (y : B) → Holds c x → Holds d y → Holds (pair c d) (x, y)
  pair_holds d x y h k =
      let f = fronts c.size d.size (c.spell x) (d.spell y) h.long k.long in
      record {
        long = length-append (c.spell x) (d.spell y) ∙ ap₂ ◌+◌ h.long k.long;
        bytes = bytes_append (c.spell x) (d.spell y) h.bytes k.bytes;
        back = ap₂ (λ (u : A) (v : _). (u, v)) (ap c.read f.0 ∙ h.back) (ap d.read f.1 ∙ k.back);
      }

  pub viewed_holds : {B : Type 0} (to : A → B) (from : B → A) (y : B) → to (from y) ≡ y → Holds c (from y) → Holds (viewed c to from) y
  viewed_holds to from y e h = record { long = h.long; bytes = h.bytes; back = ap to h.back ∙ e }

  -- each of a list
  abbrev pub AllHeld : List A → Type 0
  AllHeld [] = Unit {0}
  AllHeld (x ∷ xs) = Holds c x × AllHeld xs

  length_flat : (xs : List A) → AllHeld xs → length (flat c.spell xs) ≡ length xs * c.size
  unfolding flat
  length_flat [] h = omega arith
  length_flat (x ∷ xs) h = length-append (c.spell x) (flat c.spell xs) ∙ ap₂ ◌+◌ h.0.long (length_flat xs h.1) ∙ omega arith

  bytes_flat : (xs : List A) → AllHeld xs → AreBytes (flat c.spell xs)
  unfolding flat
  bytes_flat [] h i = omega arith
  bytes_flat (x ∷ xs) h i = bytes_append (c.spell x) (flat c.spell xs) h.0.bytes (bytes_flat xs h.1) i

  -- places that spell a list are read as it
  read_flat : (xs : List A) (at : ℕ) (b : List ℕ) → AllHeld xs → part at (length xs * c.size) b ≡ flat c.spell xs → map c.read (runs (length xs) c.size at b) ≡ xs
  unfolding flat runs
  read_flat [] at b h e = refl
  read_flat (x ∷ xs) at b h e =
      let n : suc (length xs) * c.size ≡ c.size + length xs * c.size = omega arith in
      let s = P.part_split at c.size (length xs * c.size) (c.spell x) (flat c.spell xs) b h.0.long (length_flat xs h.1) (subst (λ k. part at k b ≡ c.spell x ++ flat c.spell xs) n e) in
      ap₂ (λ (y : A) (ys : List A). y ∷ ys) (ap c.read s.0 ∙ h.0.back) (read_flat xs (at + c.size) b h.1 s.1)

  pub listed_holds : (n : ℕ) (xs : List A) → length xs ≤ n → n < 256 → AllHeld xs → Holds (listed c n) xs
  listed_holds n xs l h a =
      let split = rows_sub c.size l in
      let m = length xs * c.size in
      let zs : List ℕ = replicate ((n - length xs) * c.size) 0 in
      let lz : length zs ≡ (n - length xs) * c.size = length-replicate ((n - length xs) * c.size) 0 in
      let fs = flat c.spell xs in
      let lf = length_flat xs a in
      let rest : length (fs ++ zs) ≡ n * c.size = length-append fs zs ∙ ap₂ ◌+◌ lf lz ∙ omega arith in
      let all = bytes_of 1 (length xs) ++ (fs ++ zs) in
      let one = fronts 1 (n * c.size) (bytes_of 1 (length xs)) (fs ++ zs) (N.length_bytes_of 1 (length xs)) rest in
      let count : be (part 0 1 all) ≡ length xs = ap be one.0 ∙ N.be_bytes_of 1 (length xs) (omega arith) in
      let small : min (length xs) n ≡ length xs = omega arith in
      let z : 1 + 0 ≡ 1 = refl in
      let places : part 1 m all ≡ fs = sym (P.part_part 1 (n * c.size) 0 m all (omega arith)) ∙ ap (part 0 m) one.1 ∙ (fronts m ((n - length xs) * c.size) fs zs lf lz).0 in
      record {
        long = length-append (bytes_of 1 (length xs)) (fs ++ zs) ∙ ap₂ ◌+◌ (N.length_bytes_of 1 (length xs)) rest;
        bytes = bytes_append (bytes_of 1 (length xs)) (fs ++ zs) (N.bytes_bytes_of 1 (length xs)) (bytes_append fs zs (bytes_flat xs a) (bytes_zeros ((n - length xs) * c.size)));
        back = ap (λ k. map c.read (runs (min k n) c.size 1 all)) count ∙ ap (λ k. map c.read (runs k c.size 1 all)) small ∙ read_flat xs 1 all a places;
      }
