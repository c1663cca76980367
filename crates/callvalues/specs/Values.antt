-- What the values of a line stand for, and what is printed of a head: the last byte of its log, and its LSN.
use Rattle.std.specs.Prelude.{ℕ, List, [], ◌∷◌, ◌++◌, replicate, slice_index}
use Rattle.std.proofs.Math.Option.{Option, none, some}
use Rattle.rules.specs.Records.{Id, Pages, Commit}

-- two hex digits are an identifier's last byte, the rest zero
unfoldable pub id_of : ℕ → Id
id_of b = replicate 15 0 ++ (b ∷ [])

-- the commit of op=fetch: no hash, frames or checkpoints
abbrev pub fetched : Id → ℕ → ℕ → Id → Pages → Commit
fetched log lsn count sid ws = record { log = log; lsn = lsn; count = count; hash = none; segment = some (record { sid = sid; pages = ws; frames = [] }); checkpoints = [] }

-- a snapshot's head
abbrev pub shortly : Option (Id × ℕ) → Option (ℕ × ℕ)
shortly none = none
shortly (some h) = some (slice_index h.0 15, h.1)

-- the commit that was found
abbrev pub commit_head : Option Commit → Option (ℕ × ℕ)
commit_head none = none
commit_head (some c) = some (slice_index c.log 15, c.lsn)
