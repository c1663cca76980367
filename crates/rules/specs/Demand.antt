-- What search and the walk promise, page by page: the words of demand 3.
use Rattle.std.specs.Prelude.{◌≡◌, ℕ, ◌<◌, ◌≤◌, Bool, true, false, ◌&&◌, ◌↔◌, List, [], ◌∷◌, ◌++◌, map, length}
use mathlib.Core.List.{Memᴰ}
use Rattle.std.proofs.Math.Option.{Option, none, some}
use Rattle.basics.specs.Orders.{log_page_lsn}
use Rattle.basics.specs.Answers.{refused, done}
use Rattle.pageset.specs.Sets.{holds}
use Rattle.rules.specs.Lists.{those, is_some}
use Rattle.rules.specs.Records.{Id, Commit, Entry, Range, Snapshot, LogLsn, commit_key, entry_key}
use Rattle.rules.specs.Tables.{Table, get, get_commit}
use Rattle.rules.specs.Arguments.{snapshot_lsns, snapshot_order, snapshot_form}
use Rattle.rules.specs.Write.{pages_of}
use Rattle.rules.specs.Walk.{in_range, Item, walk}
use Rattle.rules.specs.Search.{search_page}

-- a valid snapshot: one that no call refuses by 1, 2 or 3
unfoldable pub valid : Snapshot → Bool
valid s = snapshot_lsns s && snapshot_order s && snapshot_form s

-- the commit's set has the page
unfoldable pub commit_holds : ℕ → Commit → Bool
commit_holds p c = holds (pages_of c.segment) p

-- the index has an entry for that page of that log and LSN
abbrev pub listed : Table Entry → Id → ℕ → ℕ → Bool
listed es log p lsn = is_some (get entry_key log_page_lsn (log, (p, lsn)) es.rows)

-- the commit is there and holds the page
abbrev pub holds_at : ℕ → Option Commit → Bool
holds_at p none = false
holds_at p (some c) = commit_holds p c

-- the page index lists exactly the pages of the stored commits
abbrev pub Exact : Table Commit → Table Entry → Type 0
Exact cs es = (log : Id) (p lsn : ℕ) → listed es log p lsn ≡ holds_at p (get_commit cs log lsn)

-- no stored commit is overwritten by one lacking any of its pages
abbrev pub NoPageLost : Table Commit → Table Commit → Type 0
NoPageLost cs cs' = (log : Id) (p lsn : ℕ) → holds_at p (get_commit cs log lsn) ≡ true → holds_at p (get_commit cs' log lsn) ≡ true

-- c is a stored commit in the range, and holds the page
pub record Holder (cs : Table Commit) (p : ℕ) (r : Range) (c : Commit) : Type 0 where
  pub stored : Memᴰ c cs.rows
  pub within : in_range r c ≡ true
  pub holding : commit_holds p c ≡ true

-- c is the highest such commit of the earliest range that has one
pub record Winner (cs : Table Commit) (p : ℕ) (path : List Range) (c : Commit) : Type 0 where
  pub before : List Range
  pub range : Range
  pub later : List Range
  pub split : path ≡ before ++ range ∷ later
  pub earliest : (r : Range) → Memᴰ r before → (d : Commit) → Holder cs p r d → ⊥
  pub holder : Holder cs p range c
  pub highest : (d : Commit) → Holder cs p range d → d.lsn ≤ c.lsn

-- the commits, by log and LSN, to which a walk gives the page
abbrev pub givers : ℕ → List Item → List LogLsn
givers p items = map (λ (i : Item). (i.log, i.lsn)) (those (λ i. holds i.pages p) items)

-- no commit, or one
abbrev pub named : Option Commit → List LogLsn
named none = []
named (some c) = commit_key c ∷ []

-- demand 3, of one page of one snapshot
pub record Demand3 (cs : Table Commit) (es : Table Entry) (s : Snapshot) (p : ℕ) : Type 0 where
  -- search answers and does not refuse: nothing, or one commit
  pub answer : Option Commit
  pub answers : search_page cs es s p ≡ done answer
  -- it finds nothing exactly when no stored commit in the snapshot's ranges holds the page
  pub nothing : (answer ≡ none) ↔ ((r : Range) → Memᴰ r s.path → (c : Commit) → Holder cs p r c → ⊥)
  -- otherwise it names the highest such commit of the earliest range that has one
  pub winner : (c : Commit) → answer ≡ some c → Winner cs p s.path c
  -- the walk answers its items where the list is long enough, and 19 otherwise
  pub items : List Item
  pub walked : (slots : ℕ) → length items ≤ slots → walk cs slots s ≡ done items
  pub short : (slots : ℕ) → slots < length items → walk cs slots s ≡ refused 19
  -- within the page count it gives the page to exactly that commit, and to none where search finds nothing; above the count to none
  pub gives : p ≤ s.count → givers p items ≡ named answer
  pub above : s.count < p → givers p items ≡ []
