-- The line that the call list program prints: line number, code, then log and LSN of the snapshot's head or the found commit.
use Rattle.std.specs.Prelude.{ℕ, zero, suc, ◌+◌, ◌/◌, ◌%◌, Bool, cond, List, [], ◌∷◌, ◌++◌, ltb}
use Rattle.std.proofs.Math.Option.{Option, none, some}

-- the decimal of a number, at most k digits of it: the decimal of its tenth, and its last digit
unfoldable pub digits : ℕ → ℕ → List ℕ
digits zero n = []
digits (suc k) n = cond (ltb n 10) ((48 + n) ∷ []) (digits k (n / 10) ++ ((48 + n % 10) ∷ []))

-- the decimal of a number of 64 bits, which has at most 20 digits, without leading zeros
unfoldable pub decimal : ℕ → List ℕ
decimal n = digits 20 n

-- a digit of lower case hex
unfoldable pub hex_byte : ℕ → ℕ
hex_byte d = cond (ltb d 10) (48 + d) (87 + d)

-- the last byte of an identifier as two hex digits
abbrev pub hex_pair : ℕ → List ℕ
hex_pair b = hex_byte (b / 16) ∷ hex_byte (b % 16) ∷ []

-- `-` where there is no commit
abbrev pub log_text : Option (ℕ × ℕ) → List ℕ
log_text none = 45 ∷ []
log_text (some h) = hex_pair h.0

-- and 0
abbrev pub lsn_of : Option (ℕ × ℕ) → ℕ
lsn_of none = 0
lsn_of (some h) = h.1

-- the names of the values, each with its `=`
abbrev pub line= : List ℕ
line= = 108 ∷ 105 ∷ 110 ∷ 101 ∷ 61 ∷ []

abbrev pub code= : List ℕ
code= = 32 ∷ 99 ∷ 111 ∷ 100 ∷ 101 ∷ 61 ∷ []

abbrev pub log= : List ℕ
log= = 32 ∷ 108 ∷ 111 ∷ 103 ∷ 61 ∷ []

abbrev pub lsn= : List ℕ
lsn= = 32 ∷ 108 ∷ 115 ∷ 110 ∷ 61 ∷ []

-- line=N code=C log=HH lsn=N
unfoldable pub output_line : ℕ → ℕ → Option (ℕ × ℕ) → List ℕ
output_line n c h = ((((((line= ++ decimal n) ++ code=) ++ decimal c) ++ log=) ++ log_text h) ++ lsn=) ++ decimal (lsn_of h)
