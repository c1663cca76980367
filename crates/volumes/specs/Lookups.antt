-- What a lookup among volumes answers.
use Rattle.std.specs.Prelude.{ℕ, List, ◌∷◌, Result}
use Rattle.basics.specs.Orders.{bytes}
use Rattle.rules.specs.Records.{Id, volume_key}
use Rattle.layout.specs.Records.{volume_bytes}
use Rattle.rows.specs.Lookups.{FoundAt}

-- the spot of an identifier in bytes t: the place of its key, where the volume is that the rules find
abbrev pub Found : List ℕ → Id → Result ℕ ℕ → Type 0
Found t vid o = FoundAt volume_key bytes volume_bytes 117 17 (0 ∷ vid) vid t o
