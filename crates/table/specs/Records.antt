-- Records in the order of their keys: a key is a record's first k bytes.
use Rattle.std.specs.Prelude.{Bool, true, ◌&&◌, List, [], ◌∷◌, ◌++◌, ℕ, suc, ◌+◌, take, drop, Result, Ok, Err}
use Rattle.std.proofs.Math.Option.{Option, some, none}
use Rattle.octets.specs.Bytes.{part}
use Rattle.octets.specs.Order.{lex, is_less}
use Rattle.std.specs.declared.cmp.Ordering.{Ordering}
use Rattle.std.specs.declared.cmp.Ordering.TheVariants.{Less, Equal, Greater}

-- how the keys of two records stand, or a key and that of a record
abbrev pub cmp : ℕ → List ℕ → List ℕ → Ordering
cmp k a b = lex (part 0 k a) (part 0 k b)

-- the keys strictly rise
abbrev pub rises : ℕ → List (List ℕ) → Bool
rises k [] = true
rises k (x ∷ []) = true
rises k (x ∷ y ∷ rs) = is_less (cmp k x y) && rises k (y ∷ rs)

-- ---- where a key stands

-- the spot, one record further
abbrev pub next : Result ℕ ℕ → Result ℕ ℕ
next (Ok i) = Ok (suc i)
next (Err i) = Err (suc i)

-- the spot by how the key and the first record's stand, and by the spot among the others
abbrev pub spot_by : Ordering → Result ℕ ℕ → Result ℕ ℕ
spot_by Less o = Err 0
spot_by Equal o = Ok 0
spot_by Greater o = next o

-- where the record of that key stands, or where it would
abbrev pub spot : ℕ → List ℕ → List (List ℕ) → Result ℕ ℕ
spot k key [] = Err 0
spot k key (x ∷ rs) = spot_by (cmp k key x) (spot k key rs)

-- the first place at or after the key
abbrev pub place : Result ℕ ℕ → ℕ
place (Ok i) = i
place (Err i) = i

-- how many records have the key: 1 or 0
abbrev pub hits : Result ℕ ℕ → ℕ
hits (Ok i) = 1
hits (Err i) = 0

-- the first place after the key
abbrev pub past : Result ℕ ℕ → ℕ
past o = place o + hits o

-- ---- the record of a key

abbrev pub look_by : Ordering → List ℕ → Option (List ℕ) → Option (List ℕ)
look_by Less x o = o
look_by Equal x o = some x
look_by Greater x o = o

-- the first record of that key, if there is one
abbrev pub look : ℕ → List ℕ → List (List ℕ) → Option (List ℕ)
look k key [] = none
look k key (x ∷ rs) = look_by (cmp k key x) x (look k key rs)

-- ---- the records after a call

-- r before record i
abbrev pub inserted : ℕ → List ℕ → List (List ℕ) → List (List ℕ)
inserted i r rs = take i rs ++ r ∷ drop i rs

-- without record i
abbrev pub removed : ℕ → List (List ℕ) → List (List ℕ)
removed i rs = take i rs ++ drop (suc i) rs

-- by how r and the first record stand, and by the others after a put of r
abbrev pub put_by : Ordering → List ℕ → List ℕ → List (List ℕ) → List (List ℕ) → List (List ℕ)
put_by Less r x rs later = r ∷ x ∷ rs
put_by Equal r x rs later = r ∷ rs
put_by Greater r x rs later = x ∷ later

-- r in the place of the record of its key, or in its place in the order
abbrev pub put : ℕ → List ℕ → List (List ℕ) → List (List ℕ)
put k r [] = r ∷ []
put k r (x ∷ rs) = put_by (cmp k r x) r x rs (put k r rs)
