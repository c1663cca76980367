-- Byte forms, built from parts: a number, bytes, one value after another, a reserved byte in front, a value that may be missing, a list of at most n.
-- Every value has one byte form: what holds nothing is zero, a flag is 0 or 1, a reserved byte is 0.
use Rattle.std.specs.Prelude.{◌≡◌, ℕ, ◌+◌, ◌-◌, ◌*◌, ◌^◌, min, Bool, cond, ◌&&◌, List, [], ◌∷◌, ◌++◌, map, length, replicate, ◌==◌}
use Rattle.std.proofs.Math.Option.{Option, none, some}
use Rattle.octets.specs.Bytes.{be, bytes_of, down, part, AreBytes}
use Rattle.octets.specs.Order.{lex, is_equal}
use Rattle.octets.specs.Flat.{flat}
use Rattle.table.specs.Table.{runs}

-- a form: its number of bytes, the bytes of a value, and the value that bytes spell
pub record Codec (A : Type 0) : Type 0 where
  pub size : ℕ
  pub spell : A → List ℕ
  pub read : List ℕ → A

-- ---- the parts

-- a number of k bytes
abbrev pub number : ℕ → Codec ℕ
number k = record { size = k; spell = bytes_of k; read = be }

-- a number of k bytes that goes down in a key order: its complement
abbrev pub complement : ℕ → Codec ℕ
complement k = record { size = k; spell = down k; read = λ b. 256 ^ k - 1 - be b }

-- n bytes
abbrev pub raw : ℕ → Codec (List ℕ)
raw n = record { size = n; spell = λ x. x; read = λ b. b }

-- at most n bytes, zero past their number, and then their number
abbrev pub padded : ℕ → Codec (List ℕ)
padded n = record {
  size = n + 1;
  spell = λ x. (x ++ replicate (n - length x) 0) ++ bytes_of 1 (length x);
  read = λ b. part 0 (min (be (part n 1 b)) n) b;
}

module _ {A : Type 0} (c : Codec A) where
  -- behind a reserved byte
  abbrev pub reserved : Codec A
  reserved = record { size = 1 + c.size; spell = λ x. 0 ∷ c.spell x; read = λ b. c.read (part 1 c.size b) }

  -- 0 and zeros where it is missing, 1 and the value where it is there
  abbrev pub flagged : Option A → List ℕ
  flagged none = 0 ∷ replicate c.size 0
  flagged (some x) = 1 ∷ c.spell x

  -- a value that may be missing
  abbrev pub optional : Codec (Option A)
  optional = record { size = 1 + c.size; spell = flagged; read = λ b. cond (be (part 0 1 b) == 0) none (some (c.read (part 1 c.size b))) }

  -- a list of at most n: its length, n places, zero past its length
  abbrev pub listed : ℕ → Codec (List A)
  listed n = record {
    size = 1 + n * c.size;
    spell = λ xs. bytes_of 1 (length xs) ++ (flat c.spell xs ++ replicate ((n - length xs) * c.size) 0);
    read = λ b. map c.read (runs (min (be (part 0 1 b)) n) c.size 1 b);
  }

  -- one value, and then another
  abbrev pub pair : {B : Type 0} → Codec B → Codec (A × B)
  pair d = record {
    size = c.size + d.size;
    spell = λ x. c.spell x.0 ++ d.spell x.1;
    read = λ b. (c.read (part 0 c.size b), d.read (part c.size d.size b));
  }

  -- the same bytes, read as another type
  abbrev pub viewed : {B : Type 0} → (A → B) → (B → A) → Codec B
  viewed to from = record { size = c.size; spell = λ y. c.spell (from y); read = λ b. to (c.read b) }

  -- ---- what is asked of bytes

  -- they are the bytes of the value that they spell
  unfoldable pub spelled : List ℕ → Bool
  spelled b = is_equal (lex (c.spell (c.read b)) b)

  -- and that value is in document 01's form
  unfoldable pub in_form : (A → Bool) → List ℕ → Bool
  in_form form b = spelled b && form (c.read b)

-- the form holds a value: it has the form's number of bytes, and they spell it
pub record Holds {A : Type 0} (c : Codec A) (x : A) : Type 0 where
  pub long : length (c.spell x) ≡ c.size
  pub bytes : AreBytes (c.spell x)
  pub back : c.read (c.spell x) ≡ x
