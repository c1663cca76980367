-- Slots 0 to 3 hold snapshots: a byte, 0 while the slot is unset, and the 262 bytes of a snapshot.
use Rattle.std.specs.Prelude.{ℕ, ◌+◌, ◌*◌, Bool, cond, not, List, ◌∷◌, ◌==◌, slice_index}
use Rattle.std.proofs.Math.Option.{Option, none, some}
use Rattle.octets.specs.Bytes.{part, put}
use Rattle.basics.specs.Answers.{Answer, refused, done}
use Rattle.rules.specs.Records.{Snapshot}
use Rattle.layout.specs.Values.{snapshot_bytes}

-- a slot holds a snapshot
unfoldable pub is_set : List ℕ → ℕ → Bool
is_set slots k = not (slice_index slots (k * 263) == 0)

-- its bytes
unfoldable pub held : List ℕ → ℕ → List ℕ
held slots k = part (k * 263 + 1) 262 slots

-- the snapshot of a slot, in bytes, if it is set
abbrev pub slot_in : List ℕ → ℕ → Option (List ℕ)
slot_in slots k = cond (is_set slots k) (some (held slots k)) none

-- a slot set to a snapshot
unfoldable pub slot_set : ℕ → Snapshot → List ℕ → List ℕ
slot_set k s slots = put (k * 263) (1 ∷ snapshot_bytes.spell s) slots

-- a slot is set by a successful snap only
abbrev pub slots_after : ℕ → List ℕ → Answer Snapshot → List ℕ
slots_after k slots (refused n) = slots
slots_after k slots (done s) = slot_set k s slots
