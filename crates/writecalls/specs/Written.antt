-- A commit given as bytes, and the three tables that it is written to.
use Rattle.std.specs.Prelude.{◌≡◌, ℕ, Bool, true, ◌&&◌, List, map, length, ◌==◌, Result, Ok, Err}
use Rattle.basics.specs.Answers.{Answer, refused, done, ask, ◌>>=◌, ◌>>◌}
use Rattle.basics.specs.Refusals.{number_of}
use Rattle.basics.specs.declared.refusal.Refusal.{Refusal}
use Rattle.rules.specs.Records.{Commit}
use Rattle.rules.specs.Forms.{commit_form}
use Rattle.rules.specs.Arguments.{commit_lsns}
use Rattle.rules.specs.Write.{Logs, entries_of, logs_fit, write_commit}
use Rattle.table.specs.Table.{recs}
use Rattle.batch.specs.Batch.{news}
use Rattle.layout.specs.Codecs.{in_form}
use Rattle.layout.specs.Records.{commit_bytes, entry_bytes}
use Rattle.layout.specs.Tables.{commits_in, commits_ok, checkpoints_in, checkpoints_ok, index_in, index_ok}

-- bytes are those of a commit in form
abbrev pub IsCommit : List ℕ → Type 0
IsCommit b = (length b ≡ 722) × (in_form commit_bytes commit_form b ≡ true)

-- the commit that they spell
abbrev pub commit_in : List ℕ → Commit
commit_in b = commit_bytes.read b

-- the tables that the bytes lent to store commits hold
abbrev pub logs_in : List ℕ → List ℕ → List ℕ → Logs
logs_in commits checkpoints index = record { commits = commits_in commits; checkpoints = checkpoints_in checkpoints; index = index_in index }

-- 20 of the three
unfoldable pub logs_ok : List ℕ → List ℕ → List ℕ → Bool
logs_ok commits checkpoints index = commits_ok commits && checkpoints_ok checkpoints && index_ok index

-- write a commit that is given as bytes: of another number of bytes nothing else is looked at; bytes that are not those of a commit in form are 3, after 1
unfoldable pub write_in : Logs → List ℕ → Answer Logs
write_in g b = do
  ask (length b == 722) 3
  ask (commit_lsns (commit_in b)) 1
  ask (in_form commit_bytes commit_form b) 3
  write_commit g (commit_in b)

-- ---- a write that is planned before anything is stored

-- how many of a commit's entries have a key that the index lacks
abbrev pub fresh_in : List ℕ → Commit → ℕ
fresh_in t c = news 29 (map entry_bytes.spell (entries_of c)) (recs 29 t)

-- 19, once all else is asked
abbrev pub roomed : Logs → Answer Logs
roomed g = do
  ask (logs_fit g) 19
  done g

-- what a plan says: a refusal, or how many index entries are new
abbrev pub plan_says : Result ℕ Refusal → Answer ℕ
plan_says (Err r) = refused (number_of r)
plan_says (Ok n) = done n

-- the plan of an answer: its refusal, or that n index entries are new
abbrev pub planned : Answer Logs → ℕ → Answer ℕ
planned (refused k) n = refused k
planned (done g) n = done n
