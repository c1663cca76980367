-- Many records put into one table, and the new keys among them.
use Rattle.std.specs.Prelude.{◌≡◌, List, [], ◌∷◌, ◌++◌, ℕ, ◌+◌, ◌-◌, ◌*◌}
use Rattle.std.proofs.Math.Option.{Option, some, none}
use Rattle.octets.specs.Bytes.{part}
use Rattle.octets.specs.Bytes as B
use Rattle.table.specs.Records.{put, look, spot, place, hits, past}
use Rattle.table.specs.Table.{runs}

-- the records rs put into l, one by one
abbrev pub put_all : ℕ → List (List ℕ) → List (List ℕ) → List (List ℕ)
put_all k [] l = l
put_all k (r ∷ rs) l = put_all k rs (put k r l)

-- 1 where there is no record, else 0
abbrev pub gone : Option (List ℕ) → ℕ
gone none = 1
gone (some x) = 0

-- 1 where no record of l has the key, else 0
unfoldable pub lacks : ℕ → List ℕ → List (List ℕ) → ℕ
lacks k key l = gone (look k key l)

-- how many distinct keys of rs are not held in l: each counts once, where it is named last
abbrev pub news : ℕ → List (List ℕ) → List (List ℕ) → ℕ
news k [] l = 0
news k (r ∷ rs) l = lacks k r (rs ++ l) + news k rs l

-- how many of rs have a key that is not held in l
abbrev pub fresh : ℕ → List (List ℕ) → List (List ℕ) → ℕ
fresh k [] l = 0
fresh k (r ∷ rs) l = lacks k r l + fresh k rs l

-- the records from q up to i moved up by d places, and r right below them
unfoldable pub lifted : ℕ → ℕ → ℕ → ℕ → List ℕ → List ℕ → List ℕ
lifted s q i d r t = B.put (2 + (q + d - 1) * s) (r ++ part (2 + q * s) ((i - q) * s) t) t

-- one step of a merge from the back, r next: u is t after it; of the first i records `held` are left, of d new keys `fresh`
pub record Merged (s k i d : ℕ) (r t : List ℕ) (held fresh : ℕ) (u : List ℕ) : Type 0 where
  pub left : held ≡ place (spot k r (runs i s 2 t))
  pub coming : fresh ≡ d + hits (spot k r (runs i s 2 t)) - 1
  pub bytes : u ≡ lifted s (past (spot k r (runs i s 2 t))) i d r t
