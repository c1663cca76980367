-- Commit hashes.
use Rattle.std.specs.Prelude.{ℕ, Bool, List, replicate}
use Rattle.octets.specs.Bytes.{all_zero}

-- a commit hash is 32 bytes, ZERO is all zeros
unfoldable pub zero_hash : List ℕ
zero_hash = replicate 32 0

-- whether a hash is ZERO
unfoldable pub is_zero : List ℕ → Bool
is_zero h = all_zero h
