-- All arguments for 1, 2 and 3 in turn. Of a list over its limit only the entries within the limit are looked at for 1 and 2.
use Rattle.std.specs.Prelude.{ℕ, Bool, ◌&&◌, [], ◌∷◌, ◌++◌, length, take, nat_le, nat_lt}
use Rattle.basics.specs.Answers.{Answer, done, ask, ◌>>=◌, ◌>>◌}
use Rattle.basics.specs.Numbers.{counts}
use Rattle.rules.specs.Lists.{all, given}
use Rattle.rules.specs.Records.{Commit, Range, Snapshot}
use Rattle.rules.specs.Forms.{lists_form}

-- ---- a range

-- 1: neither end is LSN 0
abbrev pub range_lsns : Range → Bool
range_lsns r = counts r.start && counts r.end

-- 2: the start is not above the end
abbrev pub range_order : Range → Bool
range_order r = nat_le r.start r.end

-- ---- a snapshot: at most 8 ranges

-- 1: no LSN of its ranges is 0
unfoldable pub snapshot_lsns : Snapshot → Bool
snapshot_lsns s = all range_lsns (take 8 s.path)

-- 2: no range starts above its end
unfoldable pub snapshot_order : Snapshot → Bool
snapshot_order s = all range_order (take 8 s.path)

-- 3: the path is not over its limit
unfoldable pub snapshot_form : Snapshot → Bool
snapshot_form s = nat_le (length s.path) 8

-- ---- a commit: at most 8 checkpoint LSNs

-- 1: neither its LSN nor a listed checkpoint is 0
unfoldable pub commit_lsns : Commit → Bool
commit_lsns c = counts c.lsn && all counts (take 8 c.checkpoints)

-- 3: its set, its frames and its checkpoint list are in form and within their limits
unfoldable pub commit_lists : Commit → Bool
commit_lists c = given lists_form c.segment && nat_le (length c.checkpoints) 8

-- ---- building a snapshot

-- of one range
unfoldable pub snapshot_new : Range → ℕ → Answer Snapshot
snapshot_new r count = do
  ask (range_lsns r) 1
  ask (range_order r) 2
  done (record { path = r ∷ []; count = count })

-- a range more, the last of the path: a ninth is 3
unfoldable pub snapshot_append : Snapshot → Range → Answer Snapshot
snapshot_append s r = do
  ask (snapshot_lsns s && range_lsns r) 1
  ask (snapshot_order s && range_order r) 2
  ask (nat_lt (length s.path) 8) 3
  done (record { path = s.path ++ (r ∷ []); count = s.count })
