-- Ranges as entries of a lent list, 417 bytes each; a list may have fewer places than there are entries.
use Rattle.std.specs.Prelude.{◌≡◌, ℕ, ◌+◌, ◌*◌, ◌/◌, Bool, cond, List, length, nat_le}
use Rattle.octets.specs.Bytes.{put}
use Rattle.octets.specs.Flat.{flat}
use Rattle.rules.specs.Frames.{Part}
use Rattle.layout.specs.Values.{part_bytes}

-- an entry is put where the list has a place for it
abbrev pub placed : ℕ → Part → List ℕ → List ℕ
placed to x was = cond (nat_le (length was / 417) to) was (put (to * 417) (part_bytes.spell x) was)

-- one that is asked for is entered, and the next number is one more
abbrev pub entered : Bool → ℕ → Part → List ℕ → ℕ × List ℕ
entered asked to x was = cond asked (to + 1, placed to x was) (to, was)

-- the entries of l stand from number `from` on, and each fills its bytes
pub record Entries (from : ℕ) (l : List Part) (was t : List ℕ) : Type 0 where
  pub long : length (flat part_bytes.spell l) ≡ length l * 417
  pub bytes : t ≡ put (from * 417) (flat part_bytes.spell l) was
