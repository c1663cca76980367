-- One turn of a comparison, which goes on or decides, and the test for zeros.
use mathlib.Core.Path.{◌≡◌, refl, sym, ap, ap₂, ◌∙◌, subst}
use mathlib.Core.Bool.{Bool, true, false, cond}
use mathlib.Core.List.{List, [], ◌∷◌}
use Prim.Native.Nat.{ℕ, zero, suc, ◌+◌, ◌-◌, ◌≤◌}
use native.Mathlib.Omega.{arith}
use lib.ListN.{length}
use lib.Dec.{eqb}
use Rattle.std.proofs.Common.{fold, bit_or}
use Rattle.std.proofs.lemmas.Nat.{le_or_l}
use Rattle.std.specs.Int.Bits.{or_zero_l}
use borrow.Author.Tests.{ne_eqb}
use Rattle.octets.specs.Bytes.{be, part, AreBytes, all_zero}
use Rattle.octets.specs.Order.{order, then_by, lex, is_equal}
use Rattle.std.proofs.Common.{Ordering, Equal}
use Rattle.octets.proofs.Orders as O

-- ---- comparisons

module _ (a b : List ℕ) (at bt : ℕ) where
  -- none yet
  pub no_bytes : lex (part at 0 a) (part bt 0 b) ≡ Equal
  unfolding part lex
  no_bytes = refl

  -- what the first j bytes decide
  pub decided : (j n : ℕ) (o : Ordering) → at + n ≤ length a → bt + n ≤ length b → j ≤ n → lex (part at j a) (part bt j b) ≡ o → is_equal o ≡ false → lex (part at n a) (part bt n b) ≡ o
  decided j n o ha hb l e h =
      let f : j + (n - j) ≡ n = omega arith in
      subst (λ (m : ℕ). lex (part at m a) (part bt m b) ≡ o) f
      (O.lex_two a b at bt j (n - j) (omega arith) (omega arith)
      ∙ ap (λ (q : Ordering). then_by q (lex (part (at + j) (n - j) a) (part (bt + j) (n - j) b))) e
      ∙ O.then_decided o _ h)

  -- after j equal bytes the others decide
  pub rest : (j n : ℕ) → at + n ≤ length a → bt + n ≤ length b → j ≤ n → lex (part at j a) (part bt j b) ≡ Equal → lex (part (at + j) (n - j) a) (part (bt + j) (n - j) b) ≡ lex (part at n a) (part bt n b)
  unfolding then_by
  rest j n ha hb l e =
      let f : j + (n - j) ≡ n = omega arith in
      sym (ap (λ (m : ℕ). lex (part at m a) (part bt m b)) (sym f)
      ∙ O.lex_two a b at bt j (n - j) (omega arith) (omega arith)
      ∙ ap (λ (o : Ordering). then_by o (lex (part (at + j) (n - j) a) (part (bt + j) (n - j) b))) e)

  -- after j equal bytes, a word of k bytes: x on one side, y on the other
  module _ (p : AreBytes a) (q : AreBytes b) (j k x y : ℕ) (ha : at + (j + k) ≤ length a) (hb : bt + (j + k) ≤ length b) (e : lex (part at j a) (part bt j b) ≡ Equal) (ex : x ≡ be (part (at + j) k a)) (ey : y ≡ be (part (bt + j) k b)) where
    pub by_word : lex (part at (j + k) a) (part bt (j + k) b) ≡ order x y
    unfolding then_by
    by_word =
        O.lex_two a b at bt j k ha hb
        ∙ ap (λ (o : Ordering). then_by o (lex (part (at + j) k a) (part (bt + j) k b))) e
        ∙ O.lex_be_at a b (at + j) (bt + j) k p q (omega arith) (omega arith)
        ∙ sym (ap₂ order ex ey)

-- ---- all zero: the bits of all together are none

or_none : (a b : ℕ) → eqb (bit_or a b) 0 ≡ cond (eqb a 0) (eqb b 0) false
or_none zero b = ap (λ (n : ℕ). eqb n 0) (or_zero_l b)
or_none (suc a) b =
    let some : suc a ≤ bit_or (suc a) b = le_or_l (suc a) b in
    ne_eqb (bit_or (suc a) b) 0 (λ e. omega arith) ∙ rw (ne_eqb (suc a) 0 (λ e. omega arith))

pub bits_none : (a : ℕ) (xs : List ℕ) → eqb (fold bit_or a xs) 0 ≡ cond (eqb a 0) (all_zero xs) false
unfolding all_zero
bits_none a [] = kept (eqb a 0)
  where
    kept : (b : Bool) → b ≡ cond b true false
    kept true = refl
    kept false = refl
bits_none a (x ∷ xs) = bits_none (bit_or a x) xs ∙ ap (λ (b : Bool). cond b (all_zero xs) false) (or_none a x) ∙ both (eqb a 0) (eqb x 0)
  where
    both : (p q : Bool) → cond (cond p q false) (all_zero xs) false ≡ cond p (cond q (all_zero xs) false) false
    both true q = refl
    both false q = refl
