-- The first record at or after a key, and the records from a key to another: what a search in key order finds.
use Rattle.std.specs.Prelude.{◌≡◌, ℕ, zero, suc, ◌-◌, Bool, cond, not, ◌&&◌, List, [], ◌∷◌, take, drop, Result, Ok, Err}
use Prim.Native.Nat.{Ordering}
use Rattle.std.proofs.Math.Option.{Option, none, some}
use Rattle.std.proofs.Math.Dec.{is_le}
use Rattle.basics.specs.Orders.{is_lt}
use Rattle.rules.specs.Lists.{first}
use Rattle.rules.specs.Tables.{get}
use Rattle.table.specs.Records.{spot}
use Rattle.table.specs.Table.{recs}
use Rattle.layout.specs.Codecs.{Codec}
use Rattle.layout.specs.Tables.{table_in}

-- record i, if there is one
abbrev pub nth : {A : Type 0} → ℕ → List A → Option A
nth i [] = none
nth zero (x ∷ xs) = some x
nth (suc i) (x ∷ xs) = nth i xs

-- the records from place i up to place j, that one not included
abbrev pub stretch : {A : Type 0} → ℕ → ℕ → List A → List A
stretch i j l = take (j - i) (drop i l)

-- a record, if it is there and passes the test
abbrev pub only_if : {A : Type 0} → (A → Bool) → Option A → Option A
only_if f none = none
only_if f (some x) = cond (f x) (some x) none

module _ {R K : Type 0} (key : R → K) (order : K → K → Ordering) where
  -- the first record at or after a key
  unfoldable pub from : K → List R → Option R
  from x l = first (λ r. is_le (order x (key r))) l

  -- a record's key is not below x and not above y
  abbrev pub within : K → K → R → Bool
  within x y r = is_le (order x (key r)) && not (is_lt (order y (key r)))

-- the record at a spot; in a gap there is none
abbrev pub at_spot : {A : Type 0} → Result ℕ ℕ → List A → Option A
at_spot (Ok i) l = nth i l
at_spot (Err i) l = none

-- the spot o of a key x, whose bytes are kb, in bytes t with rows of s bytes: the place of the key's bytes, and the record there is the one that the rules find
pub record FoundAt {R K : Type 0} (key : R → K) (order : K → K → Ordering) (c : Codec R) (s k : ℕ) (kb : List ℕ) (x : K) (t : List ℕ) (o : Result ℕ ℕ) : Type 0 where
  pub place : o ≡ spot k kb (recs s t)
  pub says : at_spot o (table_in c t).rows ≡ get key order x (table_in c t).rows
