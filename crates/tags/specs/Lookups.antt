-- What a lookup among tags answers.
use Rattle.std.specs.Prelude.{ℕ, List, Result}
use Rattle.basics.specs.Orders.{bytes}
use Rattle.rules.specs.Records.{Name, tag_key}
use Rattle.layout.specs.Codecs.{Codec, reserved, padded}
use Rattle.layout.specs.Records.{tag_bytes}
use Rattle.rows.specs.Lookups.{FoundAt}

-- a name as a key: behind a reserved byte, zero past its length, and its length
abbrev pub key_bytes : Codec Name
key_bytes = reserved (padded 32)

-- the spot of a name in bytes t: the place of its key, where the tag is that the rules find
abbrev pub Found : List ℕ → Name → Result ℕ ℕ → Type 0
Found t name o = FoundAt tag_key bytes tag_bytes 50 34 (key_bytes.spell name) name t o
