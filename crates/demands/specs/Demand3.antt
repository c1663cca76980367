-- Demand 3, as a caller of `search` and `walk` sees it: what it supposes of the lent bytes, and what it promises of the replies and of the lent place and list.
use Rattle.std.specs.Prelude.{◌≡◌, ℕ, true, ◌⊎◌, ◌↔◌, List, [], ◌∷◌, length}
use mathlib.Core.List.{Memᴰ}
use Rattle.octets.specs.Bytes.{put}
use Rattle.octets.specs.Flat.{flat}
use Rattle.basics.specs.Numbers.{counts}
use Rattle.rules.specs.Records.{Commit, Range, commit_key}
use Rattle.rules.specs.Walk.{Item}
use Rattle.rules.specs.Tables.{Table}
use Rattle.rules.specs.Demand.{valid, Exact, Holder, Winner, givers}
use Rattle.layout.specs.Records.{commit_bytes}
use Rattle.layout.specs.Tables.{commits_in, commits_ok, index_in, index_ok}
use Rattle.arguments.specs.declared.Reply.{Reply}
use Rattle.arguments.specs.Replies.{given, none_under}
use Rattle.arguments.specs.Snapshots.{snapshot_in, snapshot_formed}
use Rattle.walkcalls.specs.Items.{item_bytes}

-- the lent bytes of commits, index, snapshot and place for the answer, and the page
pub record Supposed (commits index snapshot out : List ℕ) (page : ℕ) : Type 0 where
  -- both tables are formed, and the index lists exactly the pages of the stored commits
  pub commits_formed : commits_ok commits ≡ true
  pub index_formed : index_ok index ≡ true
  pub exact : Exact (commits_in commits) (index_in index)
  -- the snapshot is valid: one that no call refuses by 1, 2 or 3
  pub snapshot_valid : valid (snapshot_in snapshot) ≡ true
  pub snapshot_formed : snapshot_formed snapshot ≡ true
  -- the page is not 0, and the place has a commit's size
  pub page_counts : counts page ≡ true
  pub place : length out ≡ commit_bytes.size

-- the call found nothing: number 0, and the lent place as it was
abbrev pub FoundNothing : List ℕ → Reply × List ℕ → Type 0
FoundNothing out left = left ≡ (none_under 0, out)

-- the call found c: number 0, and c's bytes in the lent place
abbrev pub Found : Commit → Reply × List ℕ → Type 0
Found c left = left ≡ (given, commit_bytes.spell c)

-- search of a page in the ranges of a path: `out` is the lent place before, `left` the reply and the lent place after
pub record Finds (cs : Table Commit) (path : List Range) (page : ℕ) (out : List ℕ) (left : Reply × List ℕ) : Type 0 where
  -- it finds nothing exactly when no stored commit in the ranges holds the page
  pub nothing : FoundNothing out left ↔ ((r : Range) → Memᴰ r path → (c : Commit) → Holder cs page r c → ⊥)
  -- otherwise it names the highest such commit of the earliest range that has one
  pub otherwise : FoundNothing out left ⊎ ((c : Commit) × Winner cs page path c × Found c left)

-- the walk of the same snapshot: `list` is the lent list before, `walked` the reply, the lent list and the number of its items after; `out` and `left` are those of a search for the page
pub record Gives (cs : Table Commit) (path : List Range) (page : ℕ) (list : List ℕ) (walked : Reply × (List ℕ × ℕ)) (out : List ℕ) (left : Reply × List ℕ) : Type 0 where
  -- the list holds items from its start on, and their number is answered
  pub items : List Item
  pub listed : walked ≡ (given, (put 0 (flat item_bytes.spell items) list, length items))
  -- where search finds nothing, no item has the page
  pub to_none : FoundNothing out left → givers page items ≡ []
  -- else exactly one has it, that of the commit that search names
  pub to_one : (c : Commit) → Winner cs page path c → Found c left → givers page items ≡ commit_key c ∷ []
