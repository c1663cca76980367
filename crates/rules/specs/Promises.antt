-- The words of the theorems about single calls.
use Rattle.std.specs.Prelude.{◌≡◌, ℕ, ◌≤◌, Bool, true, false, ◌⊎◌, List, ◌∷◌, ◌++◌, nat_eq}
use mathlib.Core.List.{Memᴰ}
use Rattle.std.proofs.Math.Option.{Option, none, some}
use Rattle.basics.specs.Numbers.{counts}
use Rattle.rules.specs.Lists.{first, any}
use Rattle.basics.specs.Orders.{bytes}
use Rattle.rules.specs.Records.{Id, Commit, Pending, Volume, Entry, Range, Snapshot, volume_key}
use Rattle.rules.specs.Tables.{Table, store, volumes_formed, commits_formed, index_formed, get_volume, get_commit, latest_lsn}
use Rattle.rules.specs.Write.{Logs, logs_formed}
use Rattle.rules.specs.Snapshots.{watermark_of, remote_of, below}
use Rattle.rules.specs.Push.{with_pending, is_hash}
use Rattle.rules.specs.Search.{entry_in}
use Rattle.rules.specs.Calls.{Tables, Change, recovering, does, with_volumes}
use Rattle.rules.specs.Demand.{valid}

-- the number is one of those
abbrev pub one_of : List ℕ → ℕ → Bool
one_of ns n = any (λ m. nat_eq n m) ns

-- x is stored and passes the test, and none that passes it has a higher LSN
pub record Highest {R : Type 0} (lsn_of : R → ℕ) (f : R → Bool) (l : List R) (x : R) : Type 0 where
  pub stored : Memᴰ x l
  pub passes : f x ≡ true
  pub highest : (y : R) → Memᴰ y l → f y ≡ true → lsn_of y ≤ lsn_of x

-- a side has moved: its head is there, and its base is missing or below it
pub record Moved (base head : Option ℕ) : Type 0 where
  pub top : ℕ
  pub is : head ≡ some top
  pub past : below base top ≡ true

-- the volume of that identifier, in well formed tables
pub record Volumed (vs : Table Volume) (cs : Table Commit) (vid : Id) : Type 0 where
  pub volumes : volumes_formed vs ≡ true
  pub commits : commits_formed cs ≡ true
  pub volume : Volume
  pub is : get_volume vs vid ≡ some volume

-- sync's 8: both the remote and the local log have moved
pub record BothMoved (vs : Table Volume) (cs : Table Commit) (vid : Id) : Type 0 where
  pub at_volume : Volumed vs cs vid
  pub remote : Moved (remote_of at_volume.volume.sync) (latest_lsn cs at_volume.volume.remote)
  pub local : Moved (watermark_of at_volume.volume.sync) (latest_lsn cs at_volume.volume.local)

-- a base without a head
pub record Headless (base head : Option ℕ) : Type 0 where
  pub bottom : ℕ
  pub is : base ≡ some bottom
  pub lost : head ≡ none

-- sync's 16: a sync point and an empty remote log; or remote changes, a watermark and an empty local log
pub record NoHead (vs : Table Volume) (cs : Table Commit) (vid : Id) : Type 0 where
  pub at_volume : Volumed vs cs vid
  pub side : Headless (remote_of at_volume.volume.sync) (latest_lsn cs at_volume.volume.remote)
      ⊎ (Moved (remote_of at_volume.volume.sync) (latest_lsn cs at_volume.volume.remote) × Headless (watermark_of at_volume.volume.sync) (latest_lsn cs at_volume.volume.local))

-- a commit of the local log that was not sent: above the watermark, or any at all without one
pub record Unsent (cs : Table Commit) (v : Volume) (c : Commit) : Type 0 where
  pub stored : Memᴰ c cs.rows
  pub local : v.local ≡ c.log
  pub above : below (watermark_of v.sync) c.lsn ≡ true

-- recover's 8: a commit is pending, and at its remote LSN one is stored with another hash or none
pub record Diverged (vs : Table Volume) (g : Logs) (vid : Id) : Type 0 where
  pub volumes : volumes_formed vs ≡ true
  pub logs : logs_formed g ≡ true
  pub volume : Volume
  pub is : get_volume vs vid ≡ some volume
  pub pending : Pending
  pub prepared : volume.pending ≡ some pending
  pub commit : Commit
  pub stored : get_commit g.commits volume.remote pending.commit ≡ some commit
  pub differs : is_hash commit.hash pending.hash ≡ false

-- in the first range that has an index entry of the page, the highest such entry's commit is not stored
pub record Lost (cs : Table Commit) (es : Table Entry) (p : ℕ) (path : List Range) : Type 0 where
  pub before : List Range
  pub range : Range
  pub later : List Range
  pub split : path ≡ before ++ range ∷ later
  pub earliest : (r : Range) → Memᴰ r before → first (entry_in r p) es.rows ≡ none
  pub entry : Entry
  pub found : first (entry_in range p) es.rows ≡ some entry
  pub alone : get_commit cs entry.log entry.lsn ≡ none

-- search's 21
pub record Orphan (cs : Table Commit) (es : Table Entry) (s : Snapshot) (p : ℕ) : Type 0 where
  pub commits : commits_formed cs ≡ true
  pub index : index_formed es ≡ true
  pub snapshot : valid s ≡ true
  pub page : counts p ≡ true
  pub lost : Lost cs es p s.path

-- the exception to "a refusal leaves all lent memory as found": recover's 8 drops its volume's pending commit, and changes nothing else
pub record Dropped (t : Tables) (c : Change) : Type 0 where
  pub vid : Id
  pub call : c ≡ recovering vid
  pub number : (does t c).0 ≡ 8
  pub diverged : Diverged t.volumes t.logs vid
  pub tables : (does t c).1 ≡ with_volumes t (store volume_key bytes (with_pending diverged.volume none) t.volumes)
