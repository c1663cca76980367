-- Search.
use Rattle.std.specs.Prelude.{ℕ, Bool, ◌&&◌, List, [], ◌∷◌, ◌==◌, nat_le}
use Rattle.std.proofs.Math.Option.{Option, none, some}
use Rattle.basics.specs.Answers.{Answer, done, ask, need, ◌>>=◌, ◌>>◌}
use Rattle.basics.specs.Numbers.{counts}
use Rattle.rules.specs.Lists.{first}
use Rattle.rules.specs.Records.{Commit, Entry, Range, Snapshot}
use Rattle.rules.specs.Tables.{Table, commits_formed, index_formed, same_id, get_commit}
use Rattle.rules.specs.Arguments.{snapshot_lsns, snapshot_order, snapshot_form}

-- an index entry of that page, in the range
unfoldable pub entry_in : Range → ℕ → Entry → Bool
entry_in r p e = same_id r.log e.log && p == e.page && nat_le r.start e.lsn && nat_le e.lsn r.end

-- the entry's commit (21: index entry without commit), or what the later ranges have
abbrev pub found_by : Table Commit → Option Entry → Answer (Option Commit) → Answer (Option Commit)
found_by cs none later = later
found_by cs (some e) later = do
  c ← need (get_commit cs e.log e.lsn) 21
  done (some c)

-- per range, the index entry of that page with the highest LSN: the first, since LSNs go down
abbrev pub search_path : Table Commit → Table Entry → ℕ → List Range → Answer (Option Commit)
search_path cs es p [] = done none
search_path cs es p (r ∷ rs) = found_by cs (first (entry_in r p) es.rows) (search_path cs es p rs)

-- search; it does not test the page count
unfoldable pub search_page : Table Commit → Table Entry → Snapshot → ℕ → Answer (Option Commit)
search_page cs es s p = do
  ask (commits_formed cs && index_formed es) 20
  ask (snapshot_lsns s && counts p) 1
  ask (snapshot_order s) 2
  ask (snapshot_form s) 3
  search_path cs es p s.path
