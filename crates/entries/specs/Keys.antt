-- The three tables whose record is its key, and a record of one of them as numbers that the code compares.
use Rattle.std.specs.Prelude.{ℕ, Bool, ◌&&◌, List}
use Rattle.octets.specs.Bytes.{be, part}
use Rattle.octets.specs.Order.{order, then_by}
use Rattle.std.specs.declared.cmp.Ordering.{Ordering}
use Rattle.table.specs.Table.{runs}
use Rattle.table.specs.Records.{rises}
use Rattle.rules.specs.Lists.{all}
use Rattle.rules.specs.Forms.{checkpoint_form, entry_form, present_form}
use Rattle.layout.specs.Codecs.{in_form}
use Rattle.layout.specs.Records.{checkpoint_bytes, entry_bytes, present_bytes}
use Rattle.layout.specs.Tables.{checkpoints_ok, index_ok, presence_ok}
use Rattle.entries.specs.declared.Row.{Row}

-- the tables
pub data Keyed : Type 0 where
  Checkpoints : Keyed
  Index : Keyed
  Presence : Keyed

-- a record's size
abbrev pub size_of : Keyed → ℕ
size_of Checkpoints = 25
size_of Index = 29
size_of Presence = 21

-- a record's form
abbrev pub row_form : Keyed → List ℕ → Bool
row_form Checkpoints b = in_form checkpoint_bytes checkpoint_form b
row_form Index b = in_form entry_bytes entry_form b
row_form Presence b = in_form present_bytes present_form b

-- 20 of each
abbrev pub table_ok : Keyed → List ℕ → Bool
table_ok Checkpoints t = checkpoints_ok t
table_ok Index t = index_ok t
table_ok Presence t = presence_ok t

-- of n records: their keys strictly rise, and each is in form
unfoldable pub rows_ok : Keyed → ℕ → List ℕ → Bool
rows_ok k n t = rises (size_of k) (runs n (size_of k) 2 t) && all (row_form k) (runs n (size_of k) 2 t)

-- the page and the LSN of a record as they stand in its bytes, 0 where it has none
abbrev pub page_in : Keyed → List ℕ → ℕ
page_in Checkpoints b = 0
page_in Index b = be (part 17 4 b)
page_in Presence b = be (part 17 4 b)

abbrev pub lsn_in : Keyed → List ℕ → ℕ
lsn_in Checkpoints b = be (part 17 8 b)
lsn_in Index b = be (part 21 8 b)
lsn_in Presence b = 0

-- a record as numbers: whether it is in form, the two halves of its identifier, its page, its LSN
abbrev pub row_of : Keyed → List ℕ → Row
row_of k b = record { formed = row_form k b; high = be (part 1 8 b); low = be (part 9 8 b); page = page_in k b; lsn = lsn_in k b }

-- how the numbers of two records stand, one after the other
abbrev pub row_order : Row → Row → Ordering
row_order x y = then_by (order x.high y.high) (then_by (order x.low y.low) (then_by (order x.page y.page) (order x.lsn y.lsn)))
