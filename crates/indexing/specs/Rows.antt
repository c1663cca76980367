-- What writing a commit adds to two tables, as rows in their byte forms: one index entry per page, and its checkpoints. For the log, the LSN and the lists of a
-- commit the rows are those of the rules' `entries_of` and `checkpoints_of` (proofs/OfCommits.antt).
use Rattle.std.specs.Prelude.{ℕ, List, map, take}
use Rattle.octets.specs.Bytes.{bytes_of, put}
use Rattle.basics.specs.declared.lsn.Lsn.{Lsn}
use Rattle.rules.specs.Records.{Id, Pages, Entry, Checkpoint}
use Rattle.rules.specs.Pages.{pages_in}
use Rattle.layout.specs.Records.{entry_bytes, checkpoint_bytes}

-- ---- the index

-- the entry of a page
abbrev pub entry : Id → ℕ → ℕ → Entry
entry log lsn p = record { log = log; page = p; lsn = lsn }

-- its row
abbrev pub entry_row : Id → ℕ → ℕ → List ℕ
entry_row log lsn p = entry_bytes.spell (entry log lsn p)

-- a row with another page
abbrev pub with_page : List ℕ → ℕ → List ℕ
with_page row p = put 17 (bytes_of 4 p) row

-- the rows of all pages of a set
abbrev pub entry_rows : Id → ℕ → Pages → List (List ℕ)
entry_rows log lsn s = map entry_bytes.spell (map (entry log lsn) (pages_in s))

-- ---- the checkpoints

-- the checkpoint at an LSN
abbrev pub checkpoint : Id → ℕ → Checkpoint
checkpoint log n = record { log = log; lsn = n }

-- its row
abbrev pub checkpoint_row : Id → ℕ → List ℕ
checkpoint_row log n = checkpoint_bytes.spell (checkpoint log n)

-- the rows of all LSNs of a list
abbrev pub checkpoint_rows : Id → List ℕ → List (List ℕ)
checkpoint_rows log ns = map checkpoint_bytes.spell (map (checkpoint log) ns)

-- the first n of a commit's LSNs
abbrev pub listed : List Lsn → ℕ → List ℕ
listed lsns n = map (λ (x : Lsn). x.0) (take n lsns)
