-- What a lookup asks of a record, and the LSN of what it finds.
use Rattle.std.specs.Prelude.{ℕ, Bool, ◌&&◌, List, nat_le}
use Rattle.std.proofs.Math.Option.{Option, map}
use Rattle.rules.specs.Records.{Id, Checkpoint, Entry}
use Rattle.rules.specs.Tables.{same_id}

-- a checkpoint of the log, at or below an LSN
abbrev pub at_or_below : Id → ℕ → Checkpoint → Bool
at_or_below log lsn k = same_id log k.log && nat_le k.lsn lsn

-- the LSN of a checkpoint, and of an index entry, if there is one
abbrev pub checkpoint_lsn : Option Checkpoint → Option ℕ
checkpoint_lsn o = map (λ (k : Checkpoint). k.lsn) o

abbrev pub entry_lsn : Option Entry → Option ℕ
entry_lsn o = map (λ (e : Entry). e.lsn) o
