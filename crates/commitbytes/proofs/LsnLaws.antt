-- The checkpoint LSNs of a commit in bytes: numbers of 8 bytes, so that any bytes are an LSN's, and an LSN is in form where it is not 0. Assumes nothing.
use Rattle.std.proofs.Common.{◌≡◌, ℕ, zero, suc, ◌+◌, ◌-◌, ◌*◌, ◌^◌, ◌<◌, ◌≤◌, min, Bool, true, false, ◌&&◌, List, [], ◌∷◌, ◌++◌, map, length, get_or, take, drop, replicate, sym, refl, ap, ◌∙◌, ap₂, add-one, arith, drop_of_length-le, length-take, drop-cons, le-ltb, lt-ltb, le-leb}
use mathlib.Core.Bool.{and-true}
use lib.ListN.{length-map}
use Rattle.octets.specs.Bytes.{be, bytes_of, part, put, AreBytes, all_zero}
use Rattle.octets.specs.Flat.{flat}
use Rattle.octets.specs.Tab.{tab}
use Rattle.octets.proofs.Numbers as N
use Rattle.octets.proofs.Flats as F
use Rattle.octets.proofs.Places as P
use Rattle.table.specs.Table.{runs}
use Rattle.basics.specs.declared.lsn.Lsn.{Lsn}
use Rattle.basics.specs.Numbers.{counts, last_lsn}
use Rattle.rules.specs.Lists.{all}
use Rattle.rules.specs.Forms.{lsn_form}
use Rattle.layout.specs.Codecs.{number, listed, in_form}
use Rattle.layout.proofs.SpellLaws.{number_steady, number_spelled}
use Rattle.setbytes.proofs.ListLaws.{length_read, read_nth, filled, list_at, list_over, list_not, list_but, spell_array, flat_laid, says_array, list_long}
use Rattle.basics.specs.Says.{lsn_laid}
use Rattle.commitbytes.specs.Laid.{lsns_at, lsn_says, lsns_laid, lsns_form, IsLaid}

-- ---- the LSNs at a place

length_lsns : (n at : ℕ) (s : List ℕ) → length (lsns_at n at s) ≡ n
unfolding lsns_at
length_lsns n at s = length_read be 8 n at s

lsn_nth : (n at : ℕ) (s : List ℕ) (z i : ℕ) → i < n → get_or (lsns_at n at s) i z ≡ be (part (at + i * 8) 8 s)
unfolding lsns_at
lsn_nth n at s z i h = read_nth be 8 n at s z i h

module _ (n at : ℕ) (s : List ℕ) (i : ℕ) where
  pub counts_end : n ≤ i → all counts (drop i (lsns_at n at s)) ≡ true
  unfolding all
  counts_end h = ap (all counts) (drop_of_length-le (lsns_at n at s) {i = i} (omega (arith, length_lsns n at s)))

  -- LSN i, as the code reads it
  module _ (h : i < n) (m : ℕ) (e : m ≡ be (part (at + i * 8) 8 s)) where
    next : all counts (drop i (lsns_at n at s)) ≡ counts m && all counts (drop (i + 1) (lsns_at n at s))
    unfolding all
    next =
        ap (all counts) (drop-cons (lsns_at n at s) i m (omega (arith, length_lsns n at s)))
        ∙ ap₂ (λ (x k : ℕ). counts x && all counts (drop k (lsns_at n at s))) (lsn_nth n at s m i h ∙ sym e) (sym (add-one i))

    pub counts_zero : m ≡ 0 → all counts (drop i (lsns_at n at s)) ≡ false
    counts_zero z = next ∙ ap (λ (t : Bool). t && all counts (drop (i + 1) (lsns_at n at s))) (le-ltb 0 m (omega arith))

    pub counts_step : (m ≡ 0 → ⊥) → all counts (drop i (lsns_at n at s)) ≡ all counts (drop (i + 1) (lsns_at n at s))
    counts_step z = next ∙ ap (λ (t : Bool). t && all counts (drop (i + 1) (lsns_at n at s))) (lt-ltb 0 m (omega arith))

-- ---- their form

-- a number of 8 bytes is at most the last LSN
lsn_is : (n : ℕ) → n < 256 ^ 8 → lsn_form n ≡ counts n
unfolding lsn_form last_lsn
lsn_is n h = ap (λ (t : Bool). counts n && t) (le-leb n (2 ^ 64 - 1) (omega arith)) ∙ and-true (counts n)

all_is : (s : List ℕ) → AreBytes s → (n at : ℕ) → at + n * 8 ≤ length s → all lsn_form (map be (runs n 8 at s)) ≡ all counts (map be (runs n 8 at s))
unfolding all runs
all_is s ab zero at h = refl
all_is s ab (suc n) at h = ap₂ ◌&&◌ (lsn_is (be (part at 8 s)) (P.be_part_lt at 8 s ab (omega arith))) (all_is s ab n (at + 8) (omega arith))

-- the LSNs that are spelled at a place
pub lsns_at_lem : (s : List ℕ) (at : ℕ) → at + 65 ≤ length s → (m : ℕ) → m ≡ min (be (part at 1 s)) 8 → (listed (number 8) 8).read (part at 65 s) ≡ lsns_at m (at + 1) s
unfolding lsns_at
lsns_at_lem s at h m e = list_at (number 8) 8 s at h m e

module _ (s : List ℕ) (ab : AreBytes s) (at : ℕ) (h : at + 65 ≤ length s) where
  pub over_8 : 8 < be (part at 1 s) → in_form (listed (number 8) 8) lsns_form (part at 65 s) ≡ false
  over_8 l = list_over (number 8) 8 (number_steady 8) (number_spelled 8) (omega arith) s ab at h lsns_form l

  module _ (n : ℕ) (c : n ≡ be (part at 1 s)) (l : n ≤ 8) where
    form_is : lsns_form (lsns_at n (at + 1) s) ≡ all counts (lsns_at n (at + 1) s)
    unfolding lsns_form lsns_at
    form_is = ap₂ ◌&&◌ (le-leb (length (map be (runs n 8 (at + 1) s))) 8 (omega (arith, length_read be 8 n (at + 1) s))) (all_is s ab n (at + 1) (omega arith))

    pub with_zero : all counts (lsns_at n (at + 1) s) ≡ false → in_form (listed (number 8) 8) lsns_form (part at 65 s) ≡ false
    unfolding lsns_at
    with_zero e = list_not (number 8) 8 (number_steady 8) (number_spelled 8) (omega arith) s ab at h lsns_form n c l (form_is ∙ e)

    pub but_clear : all counts (lsns_at n (at + 1) s) ≡ true → all_zero (part (at + 1 + n * 8) ((8 - n) * 8) s) ≡ in_form (listed (number 8) 8) lsns_form (part at 65 s)
    unfolding lsns_at
    but_clear e = list_but (number 8) 8 (number_steady 8) (number_spelled 8) (omega arith) s ab at h lsns_form n c l (form_is ∙ e)

-- ---- LSNs read

pub lsns_number : (s : List ℕ) (at : ℕ) → at + 65 ≤ length s → (n : ℕ) → n ≡ min (be (part at 1 s)) 8 → n ≡ length ((listed (number 8) 8).read (part at 65 s))
lsns_number s at h n e = sym (length_lsns n (at + 1) s) ∙ ap length (sym (lsns_at_lem s at h n e))

-- an array that was zero, filled with them
pub lsns_made : (s : List ℕ) (at : ℕ) → at + 65 ≤ length s → (n : ℕ) → n ≡ min (be (part at 1 s)) 8 → (ns : List Lsn) (i : ℕ)
    → ns ≡ tab (λ j. lsn_laid (be (part (at + 1 + j * 8) 8 s))) i ++ drop i (replicate 8 (lsn_laid 0)) → i ≡ n → ns ≡ lsns_laid ((listed (number 8) 8).read (part at 65 s))
unfolding lsns_at
lsns_made s at h n e ns i p q =
    filled (λ b. lsn_laid (be b)) 8 n (at + 1) s (lsn_laid 0) 8 ns i p q
    ∙ ap₂ (λ (ms : List Lsn) (k : ℕ). ms ++ replicate (8 - k) (lsn_laid 0)) (twice (runs n 8 (at + 1) s)) (sym (length_lsns n (at + 1) s))
    ∙ ap lsns_laid (sym (lsns_at_lem s at h n e))
  where
    twice : (bs : List (List ℕ)) → map (λ b. lsn_laid (be b)) bs ≡ map lsn_laid (map be bs)
    twice [] = refl
    twice (b ∷ bs) = ap (λ (l : List Lsn). lsn_laid (be b) ∷ l) (twice bs)

-- ---- LSNs written

-- the bytes of an LSN by value
abbrev pub lsn_spell : Lsn → List ℕ
lsn_spell n = bytes_of 8 (lsn_says n)

pub lsn_long : (n : Lsn) → length (lsn_spell n) ≡ 8
lsn_long n = N.length_bytes_of 8 n.0

lsn_zero : lsn_spell (lsn_laid 0) ≡ replicate 8 0
unfolding bytes_of
lsn_zero = refl

-- what an array says is what it was laid out for
pub says_lsns : (ns : List ℕ) (n : ℕ) → length ns ≡ n → map lsn_says (take n (lsns_laid ns)) ≡ ns
says_lsns ns n e = says_array lsn_laid lsn_says (λ x. refl) ns n (replicate (8 - length ns) (lsn_laid 0)) e

pub lsns_stored : (at n : ℕ) (ns : List Lsn) (s t u : List ℕ) → IsLaid n ns → length ns ≡ 8 → at + 65 ≤ length s
    → t ≡ put at (bytes_of 1 n) s → u ≡ put (at + 1) (flat lsn_spell ns) t → u ≡ put at ((listed (number 8) 8).spell (map lsn_says (take n ns))) s
lsns_stored at n ns s t u e l h p q =
    let k : length (flat lsn_spell ns) ≡ 64 = F.length_flat 8 lsn_spell lsn_long ns ∙ ap (λ (k : ℕ). 8 * k) l in
    let ms : List ℕ = map lsn_says (take n ns) in
    P.chain at 1 64 (bytes_of 1 n) (flat lsn_spell ns) s t u (N.length_bytes_of 1 n) k (omega arith) p q
    ∙ ap (λ (l : List ℕ). put at l s)
    (ap₂ (λ (j : ℕ) (xs : List Lsn). bytes_of 1 j ++ flat lsn_spell xs) (sym e.count) (sym e.array)
    ∙ sym (spell_array (number 8) 8 lsn_spell (lsn_laid 0) lsn_zero ms (map lsn_laid ms) (flat_laid lsn_laid lsn_says (λ x. refl) (bytes_of 8) ms)))

pub lsns_long : (n : ℕ) (ns : List Lsn) → length ns ≡ 8 → length ((listed (number 8) 8).spell (map lsn_says (take n ns))) ≡ 65
lsns_long n ns l =
    let k : length (map lsn_says (take n ns)) ≤ 8 = omega (arith, length-map (take n ns) lsn_says, length-take n ns) in
    list_long (number 8) 8 (λ m. N.length_bytes_of 8 m) (map lsn_says (take n ns)) k

-- an array that is laid out counts no more than there are
pub laid_8 : (n : ℕ) (ns : List Lsn) → IsLaid n ns → length ns ≡ 8 → n ≤ 8
laid_8 n ns e l = omega (arith, e.count, length-map (take n ns) lsn_says, length-take n ns)
