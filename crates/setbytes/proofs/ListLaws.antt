-- Lists of at most n values in bytes, as code meets them: the list that stands at a place, what is asked of its bytes, an array filled with it, and an
-- array written as it. Everything goes by the runs of bytes behind the count. Assumes nothing.
use Rattle.std.proofs.Common.{◌≡◌, ℕ, zero, suc, ◌+◌, ◌-◌, ◌*◌, ◌<◌, ◌≤◌, min, Bool, true, false, ◌&&◌, leb, List, [], ◌∷◌, ◌++◌, map, length, get_or, take, drop, replicate, sym, refl, ap, ◌∙◌, ap₂, add-zero, mul_comm, arith, length-append, take_at, le-leb}
use mathlib.Core.Bool.{and-true}
use borrow.Author.Tests.{lt-leb}
use lib.ListN.{length-map, length-replicate, replicate-append-replicate}
use Rattle.octets.specs.Bytes.{be, bytes_of, part, AreBytes, all_zero}
use Rattle.octets.specs.Flat.{flat}
use Rattle.octets.specs.Tab.{tab}
use Rattle.octets.proofs.Numbers as N
use Rattle.octets.proofs.Flats as F
use Rattle.octets.proofs.Places as P
use Rattle.octets.proofs.Tabs.{drop_replicate}
use Rattle.table.specs.Table.{runs}
use Rattle.table.proofs.Rows.{rows_le, rows_sub, length_runs, runs_same, tab_runs}
use Rattle.pageset.proofs.FormLaws.{and_left, and_right}
use Rattle.rules.specs.Lists.{all}
use Rattle.rules.proofs.TableLaws.{and_both}
use Rattle.layout.specs.Codecs.{Codec, listed, spelled, in_form}
use Rattle.layout.proofs.SpellLaws.{Steady, listed_spelled}

-- ---- the runs at a place

module _ {A : Type 0} (r : List ℕ → A) (k : ℕ) where
  -- how many they are, and each of them
  pub length_read : (n at : ℕ) (s : List ℕ) → length (map r (runs n k at s)) ≡ n
  length_read n at s = length-map (runs n k at s) r ∙ length_runs k n at s

  pub read_nth : (n at : ℕ) (s : List ℕ) (z : A) (i : ℕ) → i < n → get_or (map r (runs n k at s)) i z ≡ r (part (at + i * k) k s)
  unfolding runs
  read_nth zero at s z i h = absurd (omega arith)
  read_nth (suc n) at s z zero h = let e : at + 0 * k ≡ at = omega arith in ap (λ (m : ℕ). r (part m k s)) (sym e)
  read_nth (suc n) at s z (suc i) h =
      let e : at + k + i * k ≡ at + suc i * k = omega arith in
      read_nth n (at + k) s z i (omega arith) ∙ ap (λ (m : ℕ). r (part m k s)) e

-- an array that was zero, filled with n of them
pub filled : {A : Type 0} (r : List ℕ → A) (k n at : ℕ) (s : List ℕ) (z : A) (limit : ℕ) (xs : List A) (i : ℕ)
    → xs ≡ tab (λ j. r (part (at + j * k) k s)) i ++ drop i (replicate limit z) → i ≡ n → xs ≡ map r (runs n k at s) ++ replicate (limit - n) z
filled r k n at s z limit xs i e h =
    e ∙ ap₂ ◌++◌ (tab_runs r k i at s) (drop_replicate z limit i) ∙ ap (λ (m : ℕ). map r (runs m k at s) ++ replicate (limit - m) z) h

-- ---- a list at a place

-- any bytes are an element's
abbrev pub Free : {A : Type 0} → Codec A → Type 0
Free c = (b : List ℕ) → AreBytes b → length b ≡ c.size → spelled c b ≡ true

each_spelled : {A : Type 0} (c : Codec A) → Free c → (b : List ℕ) → AreBytes b → (k p : ℕ) → p + k * c.size ≤ length b → all (spelled c) (runs k c.size p b) ≡ true
unfolding all runs
each_spelled c ok b ab zero p g = refl
each_spelled c ok b ab (suc k) p g =
    and_both (ok (part p c.size b) (P.bytes_part p c.size b ab) (P.length_part p c.size b (omega arith))) (each_spelled c ok b ab k (p + c.size) (omega arith))

module _ {A : Type 0} (c : Codec A) (n : ℕ) (s : List ℕ) (at : ℕ) (h : at + (1 + n * c.size) ≤ length s) (m : ℕ) (e : m ≡ min (be (part at 1 s)) n) where
  abbrev here : List ℕ
  here = part at (1 + n * c.size) s

  count_at : be (part 0 1 here) ≡ be (part at 1 s)
  count_at = ap be (P.part_part at (1 + n * c.size) 0 1 s (omega arith) ∙ ap (λ (k : ℕ). part k 1 s) (add-zero at))

  small : m ≤ n
  small = omega arith

  runs_here : runs m c.size 1 here ≡ runs m c.size (at + 1) s
  runs_here =
      let l = rows_le c.size small in
      runs_same c.size m 1 (at + 1) here s (omega arith) (P.part_part at (1 + n * c.size) 1 (m * c.size) s (omega arith))

  -- the list that it spells
  pub list_at : (listed c n).read (part at (1 + n * c.size) s) ≡ map c.read (runs m c.size (at + 1) s)
  list_at =
      ap (λ (k : ℕ). map c.read (runs (min k n) c.size 1 here)) count_at
      ∙ ap (λ (k : ℕ). map c.read (runs k c.size 1 here)) (sym e)
      ∙ ap (map c.read) runs_here

-- its bytes are asked for a count within the limit, and for zeros behind it, where any bytes are an element's
module _ {A : Type 0} (c : Codec A) (n : ℕ) (st : Steady c) (ok : Free c) (l : n < 256) (s : List ℕ) (ab : AreBytes s) (at : ℕ) (h : at + (1 + n * c.size) ≤ length s) (form : List A → Bool) where
  asked : (m : ℕ) → m ≡ min (be (part at 1 s)) n
      → spelled (listed c n) (part at (1 + n * c.size) s) ≡ leb (be (part at 1 s)) n && all_zero (part (at + 1 + m * c.size) ((n - m) * c.size) s)
  asked m e =
      let small : m ≤ n = omega arith in
      let split = rows_sub c.size small in
      let b : List ℕ = part at (1 + n * c.size) s in
      let len = P.length_part at (1 + n * c.size) s h in
      let bytes = P.bytes_part at (1 + n * c.size) s ab in
      let count = count_at c n s at h m e in
      let z : at + (1 + m * c.size) ≡ at + 1 + m * c.size = omega arith in
      listed_spelled c n st b bytes len l m (e ∙ ap (λ (k : ℕ). min k n) (sym count))
      ∙ ap₂ (λ (k : ℕ) (t : Bool). leb k n && (t && all_zero (part (1 + m * c.size) ((n - m) * c.size) b))) count (each_spelled c ok b bytes m 1 (omega arith))
      ∙ ap (λ (r : List ℕ). leb (be (part at 1 s)) n && all_zero r) (P.part_part at (1 + n * c.size) (1 + m * c.size) ((n - m) * c.size) s (omega arith))
      ∙ ap (λ (k : ℕ). leb (be (part at 1 s)) n && all_zero (part k ((n - m) * c.size) s)) z

  -- too many
  pub list_over : n < be (part at 1 s) → in_form (listed c n) form (part at (1 + n * c.size) s) ≡ false
  unfolding in_form
  list_over g = and_left _ _ (asked (min (be (part at 1 s)) n) refl ∙ and_left _ _ (lt-leb (be (part at 1 s)) n g))

  module _ (m : ℕ) (e : m ≡ be (part at 1 s)) (g : m ≤ n) where
    least : m ≡ min (be (part at 1 s)) n
    least = omega arith

    -- the elements are not in form
    pub list_not : form (map c.read (runs m c.size (at + 1) s)) ≡ false → in_form (listed c n) form (part at (1 + n * c.size) s) ≡ false
    unfolding in_form
    list_not q = and_right (spelled (listed c n) (part at (1 + n * c.size) s)) _ (ap form (list_at c n s at h m least) ∙ q)

    -- they are, and the zeros behind them decide
    pub list_but : form (map c.read (runs m c.size (at + 1) s)) ≡ true
        → all_zero (part (at + 1 + m * c.size) ((n - m) * c.size) s) ≡ in_form (listed c n) form (part at (1 + n * c.size) s)
    unfolding in_form
    list_but q =
        sym
        (ap₂ ◌&&◌ (asked m least ∙ ap (λ (t : Bool). t && all_zero (part (at + 1 + m * c.size) ((n - m) * c.size) s)) (le-leb (be (part at 1 s)) n (omega arith)))
        (ap form (list_at c n s at h m least) ∙ q)
        ∙ and-true (all_zero (part (at + 1 + m * c.size) ((n - m) * c.size) s)))

-- ---- an array written

module _ {A : Type 0} (e : A → List ℕ) where
  flat_zeros : (z : A) (k : ℕ) → e z ≡ replicate k 0 → (n : ℕ) → flat e (replicate n z) ≡ replicate (n * k) 0
  unfolding flat
  flat_zeros z k h zero = let m : 0 ≡ 0 * k = omega arith in ap (λ (j : ℕ). replicate j 0) m
  flat_zeros z k h (suc n) =
      ap₂ ◌++◌ h (flat_zeros z k h n) ∙ replicate-append-replicate k (n * k) 0 ∙ (let m : k + n * k ≡ suc n * k = omega arith in ap (λ (j : ℕ). replicate j 0) m)

-- the bytes of a list are its count and the bytes of an array that holds it, zero past it
pub spell_array : {A B : Type 0} (c : Codec A) (n : ℕ) (e : B → List ℕ) (z : B) → e z ≡ replicate c.size 0 → (xs : List A) (ys : List B) → flat e ys ≡ flat c.spell xs
    → (listed c n).spell xs ≡ bytes_of 1 (length xs) ++ flat e (ys ++ replicate (n - length xs) z)
spell_array c n e z h xs ys g =
    ap (λ (l : List ℕ). bytes_of 1 (length xs) ++ l) (sym (F.flat_append e ys (replicate (n - length xs) z) ∙ ap₂ ◌++◌ g (flat_zeros e z c.size h (n - length xs))))

-- values by value, each laid out for an element that it says
module _ {A B : Type 0} (laid : A → B) (says : B → A) (h : (x : A) → says (laid x) ≡ x) where
  pub flat_laid : (e : A → List ℕ) (xs : List A) → flat (λ y. e (says y)) (map laid xs) ≡ flat e xs
  unfolding flat
  flat_laid e [] = refl
  flat_laid e (x ∷ xs) = ap₂ (λ (y : A) (l : List ℕ). e y ++ l) (h x) (flat_laid e xs)

  back : (xs : List A) → map says (map laid xs) ≡ xs
  back [] = refl
  back (x ∷ xs) = ap₂ ◌∷◌ (h x) (back xs)

  -- what the first of an array say
  pub says_array : (xs : List A) (n : ℕ) (rest : List B) → length xs ≡ n → map says (take n (map laid xs ++ rest)) ≡ xs
  says_array xs n rest e = ap (map says) (take_at (map laid xs) rest n (length-map xs laid ∙ e)) ∙ back xs

-- how many bytes a list has
pub list_long : {A : Type 0} (c : Codec A) (n : ℕ) → ((x : A) → length (c.spell x) ≡ c.size) → (xs : List A) → length xs ≤ n → length ((listed c n).spell xs) ≡ 1 + n * c.size
list_long c n h xs l =
    let split = rows_sub c.size l in
    let zs : List ℕ = replicate ((n - length xs) * c.size) 0 in
    length-append (bytes_of 1 (length xs)) (flat c.spell xs ++ zs)
    ∙ ap₂ ◌+◌ (N.length_bytes_of 1 (length xs)) (length-append (flat c.spell xs) zs ∙ ap₂ ◌+◌ (F.length_flat c.size c.spell h xs ∙ mul_comm c.size (length xs)) (length-replicate ((n - length xs) * c.size) 0))
    ∙ omega arith
