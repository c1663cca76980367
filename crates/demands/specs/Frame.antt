-- The tables of the frame theorem (T5) over save.
use Rattle.std.specs.Prelude.{ℕ, List}
use Rattle.rules.specs.Calls.{Tables, empty}
use Rattle.layout.specs.Tables.{volumes_in, presence_in}
use Rattle.writecalls.specs.Written.{logs_in}

-- those that the bytes lent to a save hold; it is lent no tags
abbrev pub tables_in : (volumes commits checkpoints index presence : List ℕ) → Tables
tables_in volumes commits checkpoints index presence = record { volumes = volumes_in volumes; logs = logs_in commits checkpoints index; presence = presence_in presence; tags = empty 0 }
