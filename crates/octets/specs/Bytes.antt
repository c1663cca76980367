-- Numbers as bytes, the first byte the highest, and runs of bytes at a place of a list.
use Rattle.std.specs.Prelude.{Bool, true, false, cond, List, [], ◌∷◌, ◌++◌, ℕ, zero, suc, ◌+◌, ◌-◌, ◌*◌, ◌/◌, ◌%◌, ◌^◌, ◌<◌, length, get_or, take, drop, eqb}

-- the number that bytes spell
unfoldable pub be : List ℕ → ℕ
be [] = 0
be (x ∷ xs) = x * 256 ^ length xs + be xs

-- the k low bytes of v
unfoldable pub bytes_of : ℕ → ℕ → List ℕ
bytes_of zero v = []
bytes_of (suc k) v = v / 256 ^ k % 256 ∷ bytes_of k v

-- the k bytes of a number below 256 ^ k that is to stand in falling order
unfoldable pub down : ℕ → ℕ → List ℕ
down k v = bytes_of k (256 ^ k - 1 - v)

-- the k bytes at a place
unfoldable pub part : ℕ → ℕ → List ℕ → List ℕ
part at k xs = take k (drop at xs)

-- xs with ys over what stood at a place
unfoldable pub put : ℕ → List ℕ → List ℕ → List ℕ
put at ys xs = take at xs ++ (ys ++ drop (at + length ys) xs)

-- every element is a byte
abbrev pub AreBytes : List ℕ → Type 0
AreBytes xs = (i : ℕ) → get_or xs i 0 < 256

-- every element is 0
unfoldable pub all_zero : List ℕ → Bool
all_zero [] = true
all_zero (x ∷ xs) = cond (eqb x 0) (all_zero xs) false
