-- The records whose keys lie from one key to another.
use Rattle.std.specs.Prelude.{◌≡◌, Bool, cond, not, ◌&&◌, List, [], ◌∷◌, ℕ, ◌≤◌}
use Rattle.octets.specs.Order.{is_less}
use Rattle.table.specs.Records.{cmp, spot, place, past}
use Rattle.table.specs.Table.{count_of, recs}

-- the record's key is not below a and not above b
abbrev pub in_run : ℕ → List ℕ → List ℕ → List ℕ → Bool
in_run k a b r = not (is_less (cmp k r a)) && not (is_less (cmp k b r))

-- the records whose keys lie from a to b
abbrev pub run : ℕ → List ℕ → List ℕ → List (List ℕ) → List (List ℕ)
run k a b [] = []
run k a b (x ∷ rs) = cond (in_run k a b x) (x ∷ run k a b rs) (run k a b rs)

-- the places where the run from a to b begins and ends
pub record RunOf (s k : ℕ) (a b t : List ℕ) (from to : ℕ) : Type 0 where
  pub begins : from ≡ place (spot k a (recs s t))
  pub ends : to ≡ past (spot k b (recs s t))
  pub inside : (from ≤ count_of t) × (to ≤ count_of t)
