-- Search with its snapshot in bytes and a place lent for the commit, and what a search of the table answers.
use Rattle.std.specs.Prelude.{◌≡◌, ℕ, ◌<◌, ◌&&◌, List, length, ◌==◌, Option as Maybe, Some, None, Result, Ok, Err}
use Rattle.std.proofs.Math.Option.{Option, none, some}
use Rattle.basics.specs.Answers.{Answer, refused, done, ask, need, ◌>>=◌, ◌>>◌}
use Rattle.basics.specs.Numbers.{counts}
use Rattle.basics.specs.Refusals.{number_of}
use Rattle.basics.specs.declared.refusal.Refusal.{Refusal}
use Rattle.rules.specs.Records.{Id, Commit, Entry}
use Rattle.rules.specs.Tables.{Table, get_commit}
use Rattle.rules.specs.Arguments.{snapshot_lsns, snapshot_order}
use Rattle.rules.specs.Search.{search_page}
use Rattle.table.specs.Table.{count_of}
use Rattle.layout.specs.Records.{commit_bytes}
use Rattle.commits.specs.Places.{commit_at}
use Rattle.arguments.specs.Snapshots.{snapshot_in, snapshot_formed}

-- search: 1, 2 and 3 of the arguments; 3 for a lent place of another size than a commit's; then the rule on the snapshot that the bytes spell
unfoldable pub search_in : Table Commit → Table Entry → List ℕ → ℕ → List ℕ → Answer (Option Commit)
search_in cs es b p out = do
  ask (snapshot_lsns (snapshot_in b) && counts p) 1
  ask (snapshot_order (snapshot_in b)) 2
  ask (snapshot_formed b) 3
  ask (length out == commit_bytes.size) 3
  search_page cs es (snapshot_in b) p

-- the commit that an index entry names (21: not stored)
abbrev pub entry_commit : Table Commit → Id → ℕ → Answer (Option Commit)
entry_commit cs log lsn = do
  c ← need (get_commit cs log lsn) 21
  done (some c)

-- what the end of a search says: a refusal, the commit at a place of the table, or nothing
abbrev pub hit_says : List ℕ → Result (Maybe ℕ) Refusal → Answer (Option Commit)
hit_says t (Err r) = refused (number_of r)
hit_says t (Ok (Some i)) = done (some (commit_at t i))
hit_says t (Ok None) = done none

-- a place where it ends is one of the table
abbrev pub Within : List ℕ → Result (Maybe ℕ) Refusal → Type 0
Within t (Err r) = Unit {0}
Within t (Ok (Some i)) = i < count_of t
Within t (Ok None) = Unit {0}

-- h is where a search ends that answers q
pub record HitOf (t : List ℕ) (q : Answer (Option Commit)) (h : Result (Maybe ℕ) Refusal) : Type 0 where
  pub says : hit_says t h ≡ q
  pub inside : Within t h
