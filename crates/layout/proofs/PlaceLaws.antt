-- The byte forms at a place of lent bytes: what the form of each part asks of the bytes there, what they are read as, and what stores write. A form's fields
-- stand one after another, so each law gives the parts of a form at their own places of the same bytes, and code that goes field by field cites them in turn.
use Rattle.std.proofs.Common.{◌≡◌, ℕ, suc, ◌+◌, ◌-◌, ◌^◌, ◌<◌, ◌≤◌, Bool, true, false, cond, ◌&&◌, eqb, ltb, leb, List, [], ◌∷◌, ◌++◌, length, replicate, sym, refl, ap, ◌∙◌, ap₂, arith, lt-ltb, eq-eqb, ne_eqb, le-leb}
use mathlib.Core.Option.{none, some}
use mathlib.Core.Bool.{and-true, and_assoc}
use lib.ListN.{length-replicate}
use Rattle.octets.specs.Bytes.{be, bytes_of, down, part, put, AreBytes, all_zero}
use Rattle.octets.proofs.Numbers as N
use Rattle.octets.proofs.Places as P
use Rattle.basics.specs.Numbers.{counts, last_lsn}
use Rattle.rules.specs.Lists.{all, given}
use Rattle.rules.specs.Records.{Id}
use Rattle.rules.specs.Forms.{lsn_form, bytes_form, id_form}
use Rattle.rules.proofs.TableLaws.{and_both}
use Rattle.layout.specs.Codecs.{Codec, number, raw, reserved, optional, pair, viewed, spelled, in_form}
use Rattle.layout.specs.Records.{log_lsn_bytes}
use Rattle.layout.proofs.SpellLaws as S

-- ---- bytes

pub all_bytes : (b : List ℕ) → AreBytes b → all (λ x. ltb x 256) b ≡ true
unfolding all
all_bytes [] h = refl
all_bytes (x ∷ b) h = and_both (lt-ltb x 256 (h 0)) (all_bytes b (λ i. h (suc i)))

-- 16 bytes are an identifier
pub id_form_lem : (a : Id) → length a ≡ 16 → AreBytes a → id_form a ≡ true
unfolding bytes_form
id_form_lem a l b = and_both (eq-eqb (length a) 16 l) (all_bytes a b)

module _ (s : List ℕ) (at : ℕ) where
  -- the front of a run
  pub front : (j k : ℕ) → part 0 j (part at (j + k) s) ≡ part at j s
  front j k =
      let z : at + 0 ≡ at = omega arith in
      P.part_part at (j + k) 0 j s (omega arith) ∙ ap (λ (n : ℕ). part n j s) z

  -- and what is behind it
  pub behind : (j k bt : ℕ) → at + j ≡ bt → part j k (part at (j + k) s) ≡ part bt k s
  behind j k bt e = P.part_part at (j + k) j k s (omega arith) ∙ ap (λ (n : ℕ). part n k s) e

-- ---- a chain of tests

-- the first that fails is the answer
pub stops : {a : Bool} (b : Bool) → a ≡ false → false ≡ a && b
stops b h = sym (ap (λ (t : Bool). t && b) h)

-- past one that holds the rest is
pub goes_on : {a : Bool} (b r : Bool) → a ≡ true → r ≡ b → r ≡ a && b
goes_on b r h p = p ∙ sym (ap (λ (t : Bool). t && b) h)

-- ---- what is asked

module _ {A : Type 0} (c : Codec A) where
  -- two tests that agree
  pub same_form : (f g : A → Bool) (b : List ℕ) → ((x : A) → f x ≡ g x) → in_form c f b ≡ in_form c g b
  unfolding in_form
  same_form f g b h = ap (λ (t : Bool). spelled c b && t) (h (c.read b))

  pub viewed_form : {B : Type 0} (to : A → B) (from : B → A) (f : B → Bool) (b : List ℕ) → ((x : A) → from (to x) ≡ x) → in_form (viewed c to from) f b ≡ in_form c (λ x. f (to x)) b
  unfolding in_form
  viewed_form to from f b h = ap (λ (t : Bool). t && f (to (c.read b))) (S.viewed_spelled c to from h b)

module _ (s : List ℕ) (ab : AreBytes s) (at : ℕ) where
  -- an LSN: it is not 0
  pub lsn_at : at + 8 ≤ length s → in_form (number 8) lsn_form (part at 8 s) ≡ counts (be (part at 8 s))
  unfolding in_form lsn_form last_lsn
  lsn_at h =
      let n : ℕ = be (part at 8 s) in
      let small : n < 256 ^ 8 = P.be_part_lt at 8 s ab h in
      ap (λ (t : Bool). t && (counts n && leb n (2 ^ 64 - 1))) (S.number_spelled 8 (part at 8 s) (P.bytes_part at 8 s ab) (P.length_part at 8 s h))
      ∙ ap (λ (t : Bool). counts n && t) (le-leb n (2 ^ 64 - 1) (omega arith))
      ∙ and-true (counts n)

  -- n bytes: nothing
  pub raw_at : (n : ℕ) → at + n ≤ length s → in_form (raw n) (bytes_form n) (part at n s) ≡ true
  unfolding in_form bytes_form
  raw_at n h =
      and_both (S.raw_spelled n (part at n s))
      (and_both (eq-eqb (length (part at n s)) n (P.length_part at n s h)) (all_bytes (part at n s) (P.bytes_part at n s ab)))

  module _ {A : Type 0} (c : Codec A) (f : A → Bool) where
    -- behind a reserved byte: it is 0
    pub reserved_at : at + (1 + c.size) ≤ length s → in_form (reserved c) f (part at (1 + c.size) s) ≡ eqb (be (part at 1 s)) 0 && in_form c f (part (at + 1) c.size s)
    unfolding in_form
    reserved_at h =
        let b : List ℕ = part at (1 + c.size) s in
        ap (λ (t : Bool). t && f (c.read (part 1 c.size b))) (S.reserved_spelled c b (P.bytes_part at (1 + c.size) s ab) (P.length_part at (1 + c.size) s h))
        ∙ ap₂ (λ (x y : List ℕ). eqb (be x) 0 && spelled c y && f (c.read y)) (front s at 1 c.size) (behind s at 1 c.size (at + 1) refl)
        ∙ and_assoc (eqb (be (part at 1 s)) 0) (spelled c (part (at + 1) c.size s)) (f (c.read (part (at + 1) c.size s)))

    -- a value that may be missing: the flag is 0 and the rest is zero, or the flag is 1 and the value is in form
    pub optional_at : at + (1 + c.size) ≤ length s
        → in_form (optional c) (given f) (part at (1 + c.size) s)
        ≡ cond (eqb (be (part at 1 s)) 0) (all_zero (part (at + 1) c.size s)) (eqb (be (part at 1 s)) 1 && in_form c f (part (at + 1) c.size s))
    unfolding in_form
    optional_at h =
        let b : List ℕ = part at (1 + c.size) s in
        ap (λ (t : Bool). t && given f ((optional c).read b)) (S.optional_spelled c b (P.bytes_part at (1 + c.size) s ab) (P.length_part at (1 + c.size) s h))
        ∙ go (eqb (be (part 0 1 b)) 0) (all_zero (part 1 c.size b)) (eqb (be (part 0 1 b)) 1) (spelled c (part 1 c.size b)) (c.read (part 1 c.size b))
        ∙ ap₂ (λ (x y : List ℕ). cond (eqb (be x) 0) (all_zero y) (eqb (be x) 1 && (spelled c y && f (c.read y)))) (front s at 1 c.size) (behind s at 1 c.size (at + 1) refl)
      where
        go : (z e o p : Bool) (x : A) → cond z e (o && p) && given f (cond z none (some x)) ≡ cond z e (o && (p && f x))
        go true e o p x = and-true e
        go false e o p x = and_assoc o p (f x)

    -- the same, by the flag that code has read
    module _ (h : at + (1 + c.size) ≤ length s) (flag : ℕ) (e : flag ≡ be (part at 1 s)) where
      pub flag_none : (r : Bool) → flag ≡ 0 → r ≡ all_zero (part (at + 1) c.size s) → r ≡ in_form (optional c) (given f) (part at (1 + c.size) s)
      flag_none r z p = p ∙ sym (optional_at h ∙ ap (λ (t : Bool). cond t (all_zero (part (at + 1) c.size s)) (eqb (be (part at 1 s)) 1 && in_form c f (part (at + 1) c.size s))) (eq-eqb (be (part at 1 s)) 0 (sym e ∙ z)))

      flag_some : (flag ≡ 0 → ⊥) → in_form (optional c) (given f) (part at (1 + c.size) s) ≡ (eqb flag 1 && in_form c f (part (at + 1) c.size s))
      flag_some n =
          optional_at h
          ∙ ap (λ (t : Bool). cond t (all_zero (part (at + 1) c.size s)) (eqb (be (part at 1 s)) 1 && in_form c f (part (at + 1) c.size s))) (ne_eqb (be (part at 1 s)) 0 (λ q. n (e ∙ q)))
          ∙ ap (λ (m : ℕ). eqb m 1 && in_form c f (part (at + 1) c.size s)) (sym e)

      pub flag_wrong : (flag ≡ 0 → ⊥) → (flag ≡ 1 → ⊥) → false ≡ in_form (optional c) (given f) (part at (1 + c.size) s)
      flag_wrong n m = sym (flag_some n ∙ ap (λ (t : Bool). t && in_form c f (part (at + 1) c.size s)) (ne_eqb flag 1 m))

      pub flag_there : (r : Bool) → flag ≡ 1 → r ≡ in_form c f (part (at + 1) c.size s) → r ≡ in_form (optional c) (given f) (part at (1 + c.size) s)
      flag_there r o p =
          let n : flag ≡ 0 → ⊥ = λ q. absurd (omega arith) in
          p ∙ sym (flag_some n ∙ ap (λ (t : Bool). t && in_form c f (part (at + 1) c.size s)) (eq-eqb flag 1 o))

  -- one value, and then another at the place behind it: each is in form
  pub pair_at : {A B : Type 0} (c : Codec A) (d : Codec B) (f : A → Bool) (g : B → Bool) (bt : ℕ) → S.Steady c → at + c.size ≡ bt → bt + d.size ≤ length s
      → in_form (pair c d) (λ x. f x.0 && g x.1) (part at (c.size + d.size) s) ≡ in_form c f (part at c.size s) && in_form d g (part bt d.size s)
  unfolding in_form
  pair_at c d f g bt t e h =
      let b : List ℕ = part at (c.size + d.size) s in
      ap (λ (u : Bool). u && (f (c.read (part 0 c.size b)) && g (d.read (part c.size d.size b)))) (S.pair_spelled c d t b (P.length_part at (c.size + d.size) s (omega arith)))
      ∙ mixed (spelled c (part 0 c.size b)) (spelled d (part c.size d.size b)) (f (c.read (part 0 c.size b))) (g (d.read (part c.size d.size b)))
      ∙ ap₂ (λ (x y : List ℕ). (spelled c x && f (c.read x)) && (spelled d y && g (d.read y))) (front s at c.size d.size) (behind s at c.size d.size bt e)
    where
      mixed : (p q u v : Bool) → (p && q) && (u && v) ≡ (p && u) && (q && v)
      mixed true true u v = refl
      mixed true false true v = refl
      mixed true false false v = refl
      mixed false q u v = refl

-- ---- what is read

module _ (s : List ℕ) (at : ℕ) where
  pub pair_read : {A B : Type 0} (c : Codec A) (d : Codec B) (bt : ℕ) → at + c.size ≡ bt → (pair c d).read (part at (c.size + d.size) s) ≡ (c.read (part at c.size s), d.read (part bt d.size s))
  pair_read c d bt e = ap₂ (λ (x y : List ℕ). (c.read x, d.read y)) (front s at c.size d.size) (behind s at c.size d.size bt e)

  module _ {A : Type 0} (c : Codec A) where
    pub reserved_read : (reserved c).read (part at (1 + c.size) s) ≡ c.read (part (at + 1) c.size s)
    reserved_read = ap c.read (behind s at 1 c.size (at + 1) refl)

    -- missing where the flag is 0
    pub optional_read : (optional c).read (part at (1 + c.size) s) ≡ cond (eqb (be (part at 1 s)) 0) none (some (c.read (part (at + 1) c.size s)))
    optional_read = ap₂ (λ (x y : List ℕ). cond (eqb (be x) 0) none (some (c.read y))) (front s at 1 c.size) (behind s at 1 c.size (at + 1) refl)

    -- the same, by the flag that code has read
    pub read_none : (flag : ℕ) → flag ≡ be (part at 1 s) → flag ≡ 0 → (optional c).read (part at (1 + c.size) s) ≡ none
    read_none flag e z = optional_read ∙ ap (λ (t : Bool). cond t none (some (c.read (part (at + 1) c.size s)))) (eq-eqb (be (part at 1 s)) 0 (sym e ∙ z))

    pub read_some : (flag : ℕ) → flag ≡ be (part at 1 s) → (flag ≡ 0 → ⊥) → (optional c).read (part at (1 + c.size) s) ≡ some (c.read (part (at + 1) c.size s))
    read_some flag e n = optional_read ∙ ap (λ (t : Bool). cond t none (some (c.read (part (at + 1) c.size s)))) (ne_eqb (be (part at 1 s)) 0 (λ q. n (e ∙ q)))

-- ---- what is written: one store after another, as code has them, t after the first and u after the second

-- the second stands behind the first
pub pair_stored : (at bt : ℕ) (x y s t u : List ℕ) → at + length x ≡ bt → bt + length y ≤ length s → t ≡ put at x s → u ≡ put bt y t → u ≡ put at (x ++ y) s
pair_stored at bt x y s t u e h p q =
    q ∙ ap₂ (λ (n : ℕ) (z : List ℕ). put n y z) (sym e) p ∙ P.put_put at x y s (omega arith)

-- a value behind its flag
pub there_stored : {A : Type 0} (c : Codec A) (x : A) (at : ℕ) (s t u : List ℕ) → at + (1 + length (c.spell x)) ≤ length s
    → t ≡ put at (bytes_of 1 1) s → u ≡ put (at + 1) (c.spell x) t → u ≡ put at ((optional c).spell (some x)) s
unfolding bytes_of
there_stored c x at s t u h p q = pair_stored at (at + 1) (bytes_of 1 1) (c.spell x) s t u refl (omega arith) p q

-- a store keeps the length
pub length_stored : (at : ℕ) (x s t : List ℕ) → at + length x ≤ length s → t ≡ put at x s → length t ≡ length s
length_stored at x s t h p = ap length p ∙ P.length_put at x s h

-- ---- the key of a log and an LSN

pub key_long : (log : List ℕ) (lsn : ℕ) → length log ≡ 16 → length (log_lsn_bytes.spell (log, lsn)) ≡ 25
unfolding log_lsn_bytes
key_long log lsn e = ap suc (P.length_two 16 8 log (down 8 lsn) e (N.length_down 8 lsn))

-- its three stores are one store of its bytes
pub key_stored : (at lsn : ℕ) (log s t u v : List ℕ) → length log ≡ 16 → at + 25 ≤ length s → t ≡ put at (bytes_of 1 0) s → u ≡ put (at + 1) log t
    → v ≡ put (at + 17) (bytes_of 8 (18446744073709551615 - lsn)) u → v ≡ put at (log_lsn_bytes.spell (log, lsn)) s
unfolding log_lsn_bytes down bytes_of
key_stored at lsn log s t u v i h p q r =
    let e : at + 17 ≡ at + (1 + 16) = omega arith in
    let c = bytes_of 8 (18446744073709551615 - lsn) in
    (P.then_stored (P.then_stored (P.stored at 1 (bytes_of 1 0) s refl p) 16 log i (omega arith) q) 8 c (N.length_bytes_of 8 (18446744073709551615 - lsn)) (omega arith) (r ∙ ap (λ (n : ℕ). put n c u) e)).bytes

-- over zeros they are its bytes and nothing else
pub key_alone : (lsn : ℕ) (log key : List ℕ) → length log ≡ 16 → key ≡ put 0 (log_lsn_bytes.spell (log, lsn)) (replicate 25 0) → key ≡ log_lsn_bytes.spell (log, lsn)
key_alone lsn log key l e = e ∙ P.put_all (log_lsn_bytes.spell (log, lsn)) (replicate 25 0) (key_long log lsn l ∙ sym (length-replicate {A = ℕ} 25 0))
