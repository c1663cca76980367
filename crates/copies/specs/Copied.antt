-- A commit of a path, as a copy of it stands in the new local log.
use Rattle.std.specs.Prelude.{ℕ, Bool, nat_eq}
use Rattle.rules.specs.Lists.{any}
use Rattle.rules.specs.Records.{Id, Commit}

-- the log and the LSN are others, all else is kept
abbrev pub renumber : Id → ℕ → Commit → Commit
renumber log lsn c = record { log = log; lsn = lsn; count = c.count; hash = c.hash; segment = c.segment; checkpoints = c.checkpoints }

-- a commit lists the LSN
abbrev pub lists : ℕ → Commit → Bool
lists n c = any (nat_eq n) c.checkpoints
