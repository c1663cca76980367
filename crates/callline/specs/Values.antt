-- The values that a call list line may hold. A text that is not in the form is 24.
use Rattle.std.specs.Prelude.{ℕ, ◌+◌, ◌-◌, ◌*◌, ◌^◌, Bool, true, false, cond, not, ◌&&◌, ◌||◌, List, [], ◌∷◌, length, ◌==◌, nat_le, nat_lt, slice_index}
use Rattle.basics.specs.Answers.{Answer, refused, done, ask, ◌>>=◌, ◌>>◌}
use Rattle.callline.specs.Texts.{Text, split, is_text}

-- the number of a line that is not in the form
abbrev pub malformed : ℕ
malformed = 24

-- `0` to `9`
abbrev pub is_digit : ℕ → Bool
is_digit b = nat_le 48 b && nat_le b 57

-- the value of a digit of lower case hex, `0` to `9` and `a` to `f`; 16 for any other byte
unfoldable pub hex_digit : ℕ → ℕ
hex_digit b = cond (is_digit b) (b - 48) (cond (nat_le 97 b && nat_le b 102) (b - 87) 16)

-- two hex digits are an identifier's last byte
unfoldable pub identifier_of : Text → Answer ℕ
identifier_of t = do
  ask (length t == 2) malformed
  ask (nat_lt (hex_digit (slice_index t 0)) 16) malformed
  ask (nat_lt (hex_digit (slice_index t 1)) 16) malformed
  done (hex_digit (slice_index t 0) * 16 + hex_digit (slice_index t 1))

-- every byte is a digit
unfoldable pub all_digits : Text → Bool
all_digits [] = true
all_digits (b ∷ t) = cond (is_digit b) (all_digits t) false

-- the number that decimal digits spell behind those of n
unfoldable pub spelled : ℕ → Text → ℕ
spelled n [] = n
spelled n (b ∷ t) = spelled (n * 10 + (b - 48)) t

-- at least one digit, and no leading zero: `0` alone may begin with it
unfoldable pub leads : Text → Bool
leads t = nat_lt 0 (length t) && (length t == 1 || not (slice_index t 0 == 48))

-- a decimal without leading zeros, no number above the limit
unfoldable pub decimal_of : ℕ → Text → Answer ℕ
decimal_of limit t = do
  ask (leads t) malformed
  ask (all_digits t && nat_le (spelled 0 t) limit) malformed
  done (spelled 0 t)

-- the pages from first to last
pub record Range : Type 0 where
  pub first : ℕ
  pub last : ℕ

-- the largest page number and page count
abbrev pub last32 : ℕ
last32 = 4294967295

-- a page alone, or two with `-` between
unfoldable pub ends_of : List Text → Answer Range
ends_of [] = refused malformed
ends_of (a ∷ []) = do
  n ← decimal_of last32 a
  done (record { first = n; last = n })
ends_of (a ∷ b ∷ []) = do
  n ← decimal_of last32 a
  m ← decimal_of last32 b
  done (record { first = n; last = m })
ends_of (a ∷ b ∷ c ∷ ps) = refused malformed

-- `7` or `1-3`
unfoldable pub range_of : Text → Answer Range
range_of t = ends_of (split 45 t)

-- a range starts above the page given and does not fall
abbrev pub follows : ℕ → Range → Bool
follows low r = nat_lt low r.first && nat_le r.first r.last

-- ranges, each above the one before, the first above the page given
unfoldable pub rising : ℕ → List Text → Answer (List Range)
rising low [] = done []
rising low (p ∷ ps) = do
  r ← range_of p
  ask (follows low r) malformed
  rs ← rising r.last ps
  done (r ∷ rs)

-- `-`
abbrev pub dash : Text
dash = 45 ∷ []

-- rising ranges from 1 up with `,` between, or `-` for an empty set
unfoldable pub pages_of : Text → Answer (List Range)
pages_of t = cond (is_text dash t) (done []) (rising 0 (split 44 t))
