-- The six tables in lent bytes: when bytes are a table (20), and the table of the rules that they hold.
use Rattle.std.specs.Prelude.{ℕ, ◌-◌, ◌/◌, Bool, ◌&&◌, List, map, length}
use Rattle.table.specs.Table.{recs, well_ordered, laid}
use Rattle.rules.specs.Lists.{all}
use Rattle.rules.specs.Records.{Commit, Volume, Entry, Checkpoint, Present, Tag}
use Rattle.rules.specs.Forms.{commit_form, checkpoint_form, entry_form, present_form, volume_form, tag_form}
use Rattle.rules.specs.Tables.{Table}
use Rattle.layout.specs.Codecs.{Codec, in_form}
use Rattle.layout.specs.Records.{volume_bytes, tag_bytes, commit_bytes, checkpoint_bytes, entry_bytes, present_bytes}

module _ {R : Type 0} (c : Codec R) where
  -- bytes are a table of such records: a count that they can hold, keys of k bytes that strictly rise, each record in form
  unfoldable pub formed_in : ℕ → (R → Bool) → List ℕ → Bool
  formed_in k form t = well_ordered c.size k t && all (in_form c form) (recs c.size t)

  -- the table that bytes hold: the whole records that fit, and the records
  unfoldable pub table_in : List ℕ → Table R
  table_in t = record { room = (length t - 2) / c.size; rows = map c.read (recs c.size t) }

  -- a table of the rules laid over the front of bytes; what lies past it stays
  unfoldable pub laid_over : Table R → List ℕ → List ℕ
  laid_over t b = laid (map c.spell t.rows) b

-- ---- the six tables

abbrev pub volumes_in : List ℕ → Table Volume
volumes_in t = table_in volume_bytes t

abbrev pub tags_in : List ℕ → Table Tag
tags_in t = table_in tag_bytes t

abbrev pub commits_in : List ℕ → Table Commit
commits_in t = table_in commit_bytes t

abbrev pub checkpoints_in : List ℕ → Table Checkpoint
checkpoints_in t = table_in checkpoint_bytes t

abbrev pub index_in : List ℕ → Table Entry
index_in t = table_in entry_bytes t

abbrev pub presence_in : List ℕ → Table Present
presence_in t = table_in present_bytes t

-- 20 of each

abbrev pub volumes_ok : List ℕ → Bool
volumes_ok t = formed_in volume_bytes 17 volume_form t

abbrev pub tags_ok : List ℕ → Bool
tags_ok t = formed_in tag_bytes 34 tag_form t

abbrev pub commits_ok : List ℕ → Bool
commits_ok t = formed_in commit_bytes 25 commit_form t

abbrev pub checkpoints_ok : List ℕ → Bool
checkpoints_ok t = formed_in checkpoint_bytes 25 checkpoint_form t

abbrev pub index_ok : List ℕ → Bool
index_ok t = formed_in entry_bytes 29 entry_form t

abbrev pub presence_ok : List ℕ → Bool
presence_ok t = formed_in present_bytes 21 present_form t
