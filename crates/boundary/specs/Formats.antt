-- The byte format, as an integrator asks for it.
use Rattle.std.specs.Prelude.{ℕ, ◌+◌, ◌*◌, cond, List, [], ◌∷◌, ◌==◌, nat_lt, slice_index}
use Rattle.layout.specs.Codecs.{number}
use Rattle.layout.specs.Values.{part_bytes}
use Rattle.layout.specs.Records.{volume_bytes, tag_bytes, commit_bytes, checkpoint_bytes, entry_bytes, present_bytes}
use Rattle.walkcalls.specs.Items.{item_bytes}

-- the sizes of the tables' records: volumes, tags, commits, checkpoints, index, presence
unfoldable pub record_sizes : List ℕ
record_sizes = volume_bytes.size ∷ tag_bytes.size ∷ commit_bytes.size ∷ checkpoint_bytes.size ∷ entry_bytes.size ∷ present_bytes.size ∷ []

-- the size of a table's records, 0 where there is no such table
unfoldable pub record_size : ℕ → ℕ
record_size table = slice_index record_sizes table

-- the sizes of the result lists' entries: volumes, tags, stored LSNs, commits of a snapshot, frames of a segment, walk, missing frames
unfoldable pub entry_sizes : List ℕ
entry_sizes = volume_bytes.size ∷ tag_bytes.size ∷ (number 8).size ∷ commit_bytes.size ∷ part_bytes.size ∷ item_bytes.size ∷ part_bytes.size ∷ []

-- the size of a result list's entries, 0 where there is no such list
unfoldable pub entry_size : ℕ → ℕ
entry_size list = slice_index entry_sizes list

-- the bytes of a table with room for so many records: two of count, then the records; 0 where there is no such table, and above 65,535 records
unfoldable pub table_bytes : ℕ → ℕ → ℕ
table_bytes table records = cond (record_size table == 0) 0 (cond (nat_lt 65535 records) 0 (2 + records * record_size table))
