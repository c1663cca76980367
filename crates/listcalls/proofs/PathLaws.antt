-- The commits of a path: range by range, each range's run behind those before it. The count of all of them comes first, so that each run fits. Assumes nothing.
use Rattle.std.proofs.Common.{◌≡◌, ℕ, zero, suc, ◌+◌, ◌*◌, ◌/◌, ◌<◌, ◌≤◌, Bool, true, false, cond, leb, List, [], ◌∷◌, ◌++◌, map, length, get_or, take, sym, ap, ◌∙◌, subst, append_assoc, append-nil, add-one, arith, length-append, take-suc}
use Rattle.octets.specs.Bytes.{put}
use Rattle.octets.specs.Flat.{flat}
use Rattle.basics.specs.Answers.{Answer, done, ask, code, ◌>>=◌, ◌>>◌}
use Rattle.rules.specs.Lists.{those}
use Rattle.rules.specs.Records.{Commit, Range, Snapshot}
use Rattle.rules.specs.Tables.{Table}
use Rattle.rules.specs.Arguments.{snapshot_lsns, snapshot_order, snapshot_form}
use Rattle.rules.specs.Walk.{in_range, path_commits, snapshot_commits}
use Rattle.rules.proofs.TableLaws.{map-append}
use Rattle.table.specs.Table.{count_of}
use Rattle.layout.specs.Records.{commit_bytes}
use Rattle.layout.specs.Tables.{commits_in, commits_ok}
use Rattle.layout.specs.Lent.{lent}
use Rattle.layout.proofs.LentLaws.{lent_yes}
use Rattle.rows.proofs.Rows.{formed_rules}
use Rattle.rows.proofs.Tables.{commits}
use Rattle.volume.specs.declared.snapshot.LogRange.{LogRange}
use Rattle.volume.specs.declared.snapshot.Snapshot as declared
use Rattle.volume.specs.Snapshots as Snap
use Rattle.volume.specs.Snapshots.{range_says}
use Rattle.arguments.specs.Snapshots.{snapshot_in}
use Rattle.arguments.proofs.SnapshotLaws.{arg_says}
use Rattle.arguments.specs.Replies.{none_under, given}
use Rattle.resultlists.specs.Lists.{slots_in, list_left}
use Rattle.resultlists.specs.Snapshots.{snapshot_given, on_snapshot}
use Rattle.resultlists.proofs.EntryLaws.{Fill, fill_long, Listed, run_listed}
use Rattle.resultlists.proofs.AnswerLaws.{left_refused, left_put, room_none, room_there}
use Rattle.resultlists.proofs.RowLaws.{rows_fill, table_rows}
use Rattle.resultlists.proofs.SnapshotLaws.{given_refused, given_read, given_passed}
use Rattle.listcalls.specs.Runs.{range_commits, first_commits}

-- ---- a range more

path_more : (cs : Table Commit) (l : List Range) (r : Range) → path_commits cs (l ++ (r ∷ [])) ≡ path_commits cs l ++ those (in_range r) cs.rows
path_more cs [] r = append-nil (those (in_range r) cs.rows)
path_more cs (x ∷ l) r =
    ap (λ (m : List Commit). those (in_range x) cs.rows ++ m) (path_more cs l r) ∙ sym (append_assoc (those (in_range x) cs.rows) (path_commits cs l) (those (in_range r) cs.rows))

module _ (t : List ℕ) (path : List LogRange) where
  first_more : (i : ℕ) (z : LogRange) → i < length path → first_commits t (i + 1) path ≡ first_commits t i path ++ range_commits t (range_says (get_or path i z))
  first_more i z h =
      ap (λ (n : ℕ). first_commits t n path) (add-one i)
      ∙ ap (λ (l : List LogRange). path_commits (commits_in t) (map range_says l)) (take-suc path i z h)
      ∙ ap (path_commits (commits_in t)) (map-append range_says (take i path) (get_or path i z ∷ []))
      ∙ path_more (commits_in t) (map range_says (take i path)) (range_says (get_or path i z))

-- fewer ranges have no more commits
first_le : (t : List ℕ) (path : List LogRange) (i n : ℕ) → i ≤ n → length (first_commits t i path) ≤ length (first_commits t n path)
first_le t path zero n h = omega arith
first_le t [] (suc i) zero h = absurd (omega arith)
first_le t [] (suc i) (suc n) h = omega arith
first_le t (r ∷ path) (suc i) zero h = absurd (omega arith)
first_le t (r ∷ path) (suc i) (suc n) h =
    let own = range_commits t (range_says r) in
    omega (arith, first_le t path i n (omega arith), length-append own (first_commits t i path), length-append own (first_commits t n path))

-- ---- a turn of a loop over the path: the k commits of the first i ranges, and those of range i

module _ (t : List ℕ) (path : List LogRange) (i : ℕ) (z : LogRange) (k : ℕ) (e : k ≡ length (first_commits t i path)) where
  pub turn_count : i < length path → k + length (range_commits t (range_says (get_or path i z))) ≡ length (first_commits t (i + 1) path)
  turn_count h =
      ap (λ (n : ℕ). n + length (range_commits t (range_says (get_or path i z)))) e
      ∙ sym (ap length (first_more t path i z h) ∙ length-append (first_commits t i path) (range_commits t (range_says (get_or path i z))))

  -- they fit where those of all n ranges do
  pub turn_room : (n size : ℕ) → i < length path → i < n → length (first_commits t n path) * 722 ≤ size → (k + length (range_commits t (range_says (get_or path i z)))) * 722 ≤ size
  turn_room n size h l room = omega (arith, turn_count h, first_le t path (i + 1) n (omega arith))

-- ---- those of range i put behind the k before it

those_fill : {A : Type 0} (e : A → List ℕ) (s : ℕ) (f : A → Bool) (l : List A) → Fill e s l → Fill e s (those f l)
unfolding those Fill
those_fill e s f [] w = tt
those_fill e s f (x ∷ l) w = kept (f x) (those_fill e s f l w.1)
  where
    kept : (b : Bool) → Fill e s (those f l) → Fill e s (cond b (x ∷ those f l) (those f l))
    kept true g = (w.0, g)
    kept false g = g

module _ (t : List ℕ) (ok : commits_ok t ≡ true) (path : List LogRange) (i : ℕ) (z : LogRange) (h : i < length path) where
  abbrev own : List Commit
  own = range_commits t (range_says (get_or path i z))

  own_fill : Fill commit_bytes.spell 722 own
  own_fill =
      those_fill commit_bytes.spell 722 (in_range (range_says (get_or path i z))) (commits_in t).rows
      (subst (Fill commit_bytes.spell 722) (table_rows commits t ok) (rows_fill commits t ok 0 (count_of t) (omega arith) (omega arith)))

  pub path_turn : (was s u : List ℕ) (k : ℕ) → k ≡ length (first_commits t i path) → (k + length own) * 722 ≤ length was → Listed commit_bytes 722 was (first_commits t i path) s → u ≡ put (k * 722) (flat commit_bytes.spell own) s
      → Listed commit_bytes 722 was (first_commits t (i + 1) path) u
  path_turn was s u k e room w p =
      subst (λ (l : List Commit). Listed commit_bytes 722 was l u) (sym (first_more t path i z h))
      (run_listed commit_bytes 722 was (first_commits t i path) own s u w (fill_long commit_bytes.spell 722 own own_fill) (subst (λ (n : ℕ). (n + length own) * 722 ≤ length was) e room) (p ∙ ap (λ (n : ℕ). put (n * 722) (flat commit_bytes.spell own) s) e))

-- ---- the rule on a snapshot in bytes, by the number n that its check answers

module _ (t : List ℕ) (ok : commits_ok t ≡ true) (b : List ℕ) (n : ℕ) (e : n ≡ code (snapshot_given b)) (was : List ℕ) (items : ℕ) where
  abbrev answer : Answer (List Commit)
  answer = lent (commits_ok t) (on_snapshot b (snapshot_commits (commits_in t) (slots_in commit_bytes was)))

  abbrev all : List Commit
  all = path_commits (commits_in t) (snapshot_in b).path

  abbrev room : Answer (List Commit)
  room = ask (leb (length all) (slots_in commit_bytes was)) 19 >> done all

  -- 1, 2, 3
  pub commits_refused : (n ≡ 0 → ⊥) → (none_under n, (was, items)) ≡ list_left commit_bytes was items answer
  commits_refused z =
      left_refused commit_bytes was items answer n
      (lent_yes (commits_ok t) (on_snapshot b (snapshot_commits (commits_in t) (slots_in commit_bytes was))) ok ∙ ap (λ (x : Answer Snapshot). x >>= snapshot_commits (commits_in t) (slots_in commit_bytes was)) (given_refused b n e z))

  commits_room : n ≡ 0 → answer ≡ room
  unfolding snapshot_commits
  commits_room z =
      lent_yes (commits_ok t) (on_snapshot b (snapshot_commits (commits_in t) (slots_in commit_bytes was))) ok
      ∙ ap (λ (x : Answer Snapshot). x >>= snapshot_commits (commits_in t) (slots_in commit_bytes was)) (given_read b n e z)
      ∙ ap (λ (x : Bool). ask x 20 >> (ask (snapshot_lsns (snapshot_in b)) 1 >> (ask (snapshot_order (snapshot_in b)) 2 >> (ask (snapshot_form (snapshot_in b)) 3 >> room)))) (formed_rules commits t ok)
      ∙ given_passed b n e z room

  -- the snapshot by value that the bytes became, and m, the number of its commits
  module _ (z : n ≡ 0) (s : declared.Snapshot) (laid : s ≡ Snap.laid (snapshot_in b)) (m : ℕ) (k : m ≡ length (first_commits t s.len s.path)) where
    first_all : first_commits t s.len s.path ≡ all
    first_all = ap (λ (x : Snapshot). path_commits (commits_in t) x.path) (arg_says b s laid)

    -- too short
    pub commits_short : length was / 722 < m → (none_under 19, (was, items)) ≡ list_left commit_bytes was items answer
    commits_short h = left_refused commit_bytes was items answer 19 (commits_room z ∙ room_none commit_bytes 722 commits.wide was all m (k ∙ ap length first_all) h)

    -- put
    pub commits_put : m ≤ length was / 722 → (u : List ℕ) → u ≡ put 0 (flat commit_bytes.spell (first_commits t s.len s.path)) was → (given, (u, m)) ≡ list_left commit_bytes was items answer
    commits_put h u p =
        left_put commit_bytes was items answer all u m
        (commits_room z ∙ room_there commit_bytes 722 commits.wide was all m (k ∙ ap length first_all) h)
        (p ∙ ap (λ (l : List Commit). put 0 (flat commit_bytes.spell l) was) first_all)
        (k ∙ ap length first_all)
