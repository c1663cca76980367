-- Small tables by computation: records of 3 bytes with keys of 2.
use mathlib.Core.Path.{◌≡◌, refl}
use mathlib.Core.Bool.{true, false}
use mathlib.Core.List.{List, [], ◌∷◌}
use Prim.Native.Nat.{ℕ}
use Rattle.octets.specs.Bytes.{be, bytes_of, part}
use Rattle.octets.specs.Bytes as B
use Rattle.octets.specs.Order.{order, then_by, lex}
use Rattle.table.specs.Records.{removed, put}
use Rattle.table.specs.Table.{runs, join, count_of, cap_of, recs, laid, well_ordered, holds}

-- two records, then a byte that is no record
abbrev two : List ℕ
two = 0 ∷ 2 ∷ 1 ∷ 1 ∷ 9 ∷ 1 ∷ 2 ∷ 8 ∷ 7 ∷ []

is_table : well_ordered 3 2 two ≡ true
unfolding well_ordered count_of cap_of recs runs be part order then_by lex
is_table = refl

-- two bytes alone are an empty table without room
empty_table : well_ordered 3 2 (0 ∷ 0 ∷ []) ≡ true
unfolding well_ordered count_of cap_of recs runs be part
empty_table = refl

no_room : holds 3 1 (0 ∷ 0 ∷ []) ≡ false
unfolding holds cap_of
no_room = refl

-- no tables: too short, a count over the capacity, equal keys
too_short : well_ordered 3 2 (0 ∷ []) ≡ false
unfolding well_ordered
too_short = refl

over_capacity : well_ordered 3 2 (0 ∷ 3 ∷ 1 ∷ 1 ∷ 9 ∷ 1 ∷ 2 ∷ 8 ∷ 7 ∷ []) ≡ false
unfolding well_ordered count_of cap_of be part
over_capacity = refl

equal_keys : well_ordered 3 2 (0 ∷ 2 ∷ 1 ∷ 1 ∷ 8 ∷ 1 ∷ 1 ∷ 9 ∷ []) ≡ false
unfolding well_ordered count_of cap_of recs runs be part order then_by lex
equal_keys = refl

-- a put over a record of the same key
over : laid (put 2 (1 ∷ 2 ∷ 5 ∷ []) (recs 3 two)) two ≡ 0 ∷ 2 ∷ 1 ∷ 1 ∷ 9 ∷ 1 ∷ 2 ∷ 5 ∷ 7 ∷ []
unfolding laid count_of recs runs join be bytes_of part B.put order then_by lex
over = refl

-- after a removal the last slot keeps its bytes
gone_first : laid (removed 0 (recs 3 two)) two ≡ 0 ∷ 1 ∷ 1 ∷ 2 ∷ 8 ∷ 1 ∷ 2 ∷ 8 ∷ 7 ∷ []
unfolding laid count_of recs runs join be bytes_of part B.put
gone_first = refl
