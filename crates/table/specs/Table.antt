-- A table of records of s bytes in a list of bytes: two bytes of count, then the records, one after another.
use Rattle.std.specs.Prelude.{◌≡◌, Bool, ◌&&◌, List, [], ◌∷◌, ◌++◌, ℕ, zero, suc, ◌+◌, ◌-◌, ◌/◌, min, length, leb}
use Rattle.octets.specs.Bytes.{be, bytes_of, part}
use Rattle.octets.specs.Bytes as B
use Rattle.table.specs.Records.{rises}

-- the n runs of s bytes from a place on
unfoldable pub runs : ℕ → ℕ → ℕ → List ℕ → List (List ℕ)
runs zero s at t = []
runs (suc n) s at t = part at s t ∷ runs n s (at + s) t

-- the bytes of records, one after another
unfoldable pub join : List (List ℕ) → List ℕ
join [] = []
join (r ∷ rs) = r ++ join rs

-- every record is s bytes long
abbrev pub Each : ℕ → List (List ℕ) → Type 0
Each s [] = Unit {0}
Each s (r ∷ rs) = (length r ≡ s) × Each s rs

-- the count that the first two bytes spell
unfoldable pub count_of : List ℕ → ℕ
count_of t = be (part 0 2 t)

-- how many records t can hold
unfoldable pub cap_of : ℕ → List ℕ → ℕ
cap_of s t = min ((length t - 2) / s) 65535

-- the records of the table t
unfoldable pub recs : ℕ → List ℕ → List (List ℕ)
recs s t = runs (count_of t) s 2 t

-- t with the table of the records rs over its front; what lies past them stays
unfoldable pub laid : List (List ℕ) → List ℕ → List ℕ
laid rs t = B.put 0 (bytes_of 2 (length rs) ++ join rs) t

-- t is a table of records of s bytes with keys of k: it has a count that it can hold, and its keys strictly rise
unfoldable pub well_ordered : ℕ → ℕ → List ℕ → Bool
well_ordered s k t = leb 2 (length t) && (leb (count_of t) (cap_of s t) && rises k (recs s t))

-- t can hold n records
unfoldable pub holds : ℕ → ℕ → List ℕ → Bool
holds s n t = leb n (cap_of s t)

-- t can hold the records rs
abbrev pub fits : ℕ → List (List ℕ) → List ℕ → Bool
fits s rs t = holds s (length rs) t
