-- T2 over lent bytes: fresh tables are formed and have an exact index, one that lists exactly the pages of the stored commits; what is formed stays formed, and an exact index stays exact.
use Rattle.std.specs.Prelude.{◌≡◌, ℕ, Bool, true, ◌↔◌, List, [], ◌∷◌}
use Rattle.octets.specs.Bytes.{part}
use Rattle.rules.specs.Demand.{Exact, NoPageLost}
use Rattle.layout.specs.Tables.{commits_in, commits_ok, checkpoints_ok, index_in, index_ok}

-- a fresh table begins with two zero bytes, whatever lies behind them
abbrev pub Fresh : List ℕ → Type 0
Fresh t = part 0 2 t ≡ 0 ∷ 0 ∷ []

-- `ok` is 20's test of one table, `was` the bytes that are lent and `left` the same afterwards
abbrev pub StaysFormed : (List ℕ → Bool) → List ℕ → List ℕ → Type 0
StaysFormed ok was left = ok was ≡ true → ok left ≡ true

-- the three tables of commits
pub record LogsStayFormed (commits checkpoints index commits' checkpoints' index' : List ℕ) : Type 0 where
  pub of_commits : StaysFormed commits_ok commits commits'
  pub of_checkpoints : StaysFormed checkpoints_ok checkpoints checkpoints'
  pub of_index : StaysFormed index_ok index index'

-- the index stays exact
abbrev pub StaysExact : (commits index commits' index' : List ℕ) → Type 0
StaysExact commits index commits' index' = Exact (commits_in commits) (index_in index) → Exact (commits_in commits') (index_in index')

-- it does just while no stored commit is overwritten by one lacking any of its pages
abbrev pub StaysExactWhile : (commits index commits' index' : List ℕ) → Type 0
StaysExactWhile commits index commits' index' =
    Exact (commits_in commits) (index_in index) → Exact (commits_in commits') (index_in index') ↔ NoPageLost (commits_in commits) (commits_in commits')
