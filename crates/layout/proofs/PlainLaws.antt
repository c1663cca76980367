-- Forms that any bytes of their length spell: numbers, complements, bytes, and pairs of these. So of a key only the reserved byte is asked.
use Rattle.std.proofs.Common.{◌≡◌, ℕ, ◌+◌, Bool, true, false, ◌&&◌, eqb, List, length, refl, ap, ◌∙◌, ap₂, arith}
use Rattle.octets.specs.Bytes.{be, part, AreBytes}
use Rattle.octets.proofs.Places as P
use Rattle.layout.specs.Codecs.{Codec, number, complement, raw, reserved, pair, viewed, spelled}
use Rattle.layout.proofs.SpellLaws as S

-- any bytes of the form's length are its bytes
pub record Plain {A : Type 0} (c : Codec A) : Type 0 where
  pub steady : S.Steady c
  pub any : (b : List ℕ) → AreBytes b → length b ≡ c.size → spelled c b ≡ true

pub number_plain : (k : ℕ) → Plain (number k)
number_plain k = record { steady = S.number_steady k; any = S.number_spelled k }

pub complement_plain : (k : ℕ) → Plain (complement k)
complement_plain k = record { steady = S.complement_steady k; any = S.complement_spelled k }

pub raw_plain : (n : ℕ) → Plain (raw n)
raw_plain n = record { steady = S.raw_steady n; any = λ b ab e. S.raw_spelled n b }

module _ {A B : Type 0} (c : Codec A) where
  pub pair_plain : (d : Codec B) → Plain c → Plain d → Plain (pair c d)
  pair_plain d p q = record {
    steady = S.pair_steady c d p.steady q.steady;
    any = λ b ab e.
        S.pair_spelled c d p.steady b e
        ∙ ap₂ ◌&&◌ (p.any (part 0 c.size b) (P.bytes_part 0 c.size b ab) (P.length_part 0 c.size b (omega arith)))
        (q.any (part c.size d.size b) (P.bytes_part c.size d.size b ab) (P.length_part c.size d.size b (omega arith)));
  }

  pub viewed_plain : (to : A → B) (from : B → A) → ((x : A) → from (to x) ≡ x) → Plain c → Plain (viewed c to from)
  viewed_plain to from h p = record { steady = S.viewed_steady c to from h p.steady; any = λ b ab e. S.viewed_spelled c to from h b ∙ p.any b ab e }

-- behind a reserved byte only that byte is asked
pub key_spelled : {A : Type 0} (c : Codec A) → Plain c → (b : List ℕ) → AreBytes b → length b ≡ 1 + c.size → spelled (reserved c) b ≡ eqb (be (part 0 1 b)) 0
key_spelled c p b ab e =
    S.reserved_spelled c b ab e
    ∙ ap (λ t. eqb (be (part 0 1 b)) 0 && t) (p.any (part 1 c.size b) (P.bytes_part 1 c.size b ab) (P.length_part 1 c.size b (omega arith)))
    ∙ and-true (eqb (be (part 0 1 b)) 0)
  where
    and-true : (x : Bool) → (x && true) ≡ x
    and-true true = refl
    and-true false = refl
