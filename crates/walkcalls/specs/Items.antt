-- The byte form of an item of the walk.
use Rattle.std.specs.Prelude.{ℕ}
use Rattle.rules.specs.Records.{Id, Pages, Segment}
use Rattle.rules.specs.Walk.{Item}
use Rattle.layout.specs.Codecs.{Codec, number, pair, viewed}
use Rattle.layout.specs.Values.{id_bytes, set_bytes, segment_bytes}

abbrev pub item_of : Id × (ℕ × (Segment × Pages)) → Item
item_of x = record { log = x.0; lsn = x.1.0; segment = x.1.1.0; pages = x.1.1.1 }

abbrev pub item_parts : Item → Id × (ℕ × (Segment × Pages))
item_parts i = (i.log, (i.lsn, (i.segment, i.pages)))

-- an item names its commit's log and LSN; then its segment, and its gift
unfoldable pub item_bytes : Codec Item
item_bytes = viewed (pair id_bytes (pair (number 8) (pair segment_bytes set_bytes))) item_of item_parts
