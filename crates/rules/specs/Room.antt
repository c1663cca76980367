-- Room in the words of the table of numbers: "for some table, records held plus the call's new keys exceed capacity".
use Rattle.std.specs.Prelude.{ℕ, ◌+◌, Bool, cond, ◌&&◌, List, [], ◌∷◌, ◌++◌, length, nat_le}
use Prim.Native.Nat.{Ordering}
use Rattle.std.proofs.Math.Dec.{compare_is_eq}
use Rattle.basics.specs.Orders.{log_lsn, log_page_lsn}
use Rattle.rules.specs.Lists.{any}
use Rattle.rules.specs.Records.{Commit, commit_key, checkpoint_key, entry_key}
use Rattle.rules.specs.Tables.{Table, capacity}
use Rattle.rules.specs.Write.{Logs, checkpoints_of, entries_of}

module _ {R K : Type 0} (key : R → K) (order : K → K → Ordering) where
  -- whether a record of that key is held
  unfoldable pub held : K → List R → Bool
  held k l = any (λ r. compare_is_eq (order k (key r))) l

  -- 1 for a key that is not held
  abbrev pub lacks : K → List R → ℕ
  lacks k l = cond (held k l) 0 1

  -- how many distinct keys of rs are not held in l: each counts once, where it is named last
  unfoldable pub news : List R → List R → ℕ
  news [] l = 0
  news (r ∷ rs) l = lacks (key r) (rs ++ l) + news rs l

  -- records held plus new keys do not exceed capacity
  unfoldable pub has_room : Table R → List R → Bool
  has_room t rs = nat_le (length t.rows + news rs t.rows) (capacity t)

-- what several commits bring to a table, one after the other
unfoldable pub each : {A B : Type 0} → (A → List B) → List A → List B
each f [] = []
each f (x ∷ xs) = f x ++ each f xs

-- the three tables have room for what writing these commits adds: their keys, their checkpoints, one index entry per page
unfoldable pub logs_room : Logs → List Commit → Bool
logs_room g cs =
    has_room commit_key log_lsn g.commits cs && has_room checkpoint_key log_lsn g.checkpoints (each checkpoints_of cs) && has_room entry_key log_page_lsn g.index (each entries_of cs)
