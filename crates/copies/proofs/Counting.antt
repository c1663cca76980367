-- Counting what copies add, one commit of the path after another: with the commit that is met, what is counted and what is still to be counted make up the whole (`entries_next`,
-- `checkpoints_next`). A commit's checkpoint LSNs are read where they stand, one after another.
use Rattle.std.proofs.Common.{◌≡◌, ℕ, suc, ◌+◌, ◌*◌, ◌^◌, ◌<◌, ◌≤◌, min, Bool, true, false, ◌&&◌, ◌||◌, eqb, List, [], ◌∷◌, ◌++◌, map, length, sym, refl, ap, ◌∙◌, ap₂, add-one, arith, eq-eqb, eqb-true}
use mathlib.Core.Option.{none}
use Rattle.octets.specs.Bytes.{be, part}
use Rattle.basics.specs.Orders.{log_lsn, log_page_lsn}
use Rattle.pageset.specs.Sets.{shown}
use Rattle.pageset.specs.declared.PageSet.{PageSet}
use Rattle.rules.specs.Lists.{any}
use Rattle.rules.specs.Records.{Id, Commit, Checkpoint, Entry, checkpoint_key, entry_key}
use Rattle.rules.specs.Tables.{fits, latest}
use Rattle.rules.specs.Write.{pages_of, checkpoints_of, entries_of, write_all, logs_fit}
use Rattle.rules.specs.Room.{lacks, news, each}
use Rattle.rules.specs.Walk.{path_commits}
use Rattle.rules.specs.Copies.{renumbered}
use Rattle.rules.proofs.TableLaws.{cases}
use Rattle.rules.proofs.Write.{entries_form}
use Rattle.table.specs.Table.{count_of, recs, runs, holds}
use Rattle.batch.specs.Batch as Many
use Rattle.layout.specs.Codecs.{listed, number}
use Rattle.layout.specs.Records.{log_lsn_bytes}
use Rattle.layout.specs.Tables.{commits_in, commits_ok, checkpoints_in, checkpoints_ok, index_in, index_ok}
use Rattle.rows.proofs.Tables.{commits, checkpoints, index, checkpoint_key_lem}
use Rattle.rows.proofs.News.{lacks_is, news_spelled, news_fit}
use Rattle.setbytes.specs.Laid.{set_laid}
use Rattle.commits.specs.Places.{commit_at}
use Rattle.commitbytes.specs.Laid.{lsns_at}
use Rattle.commitbytes.proofs.LsnLaws.{lsns_at_lem}
use Rattle.commitbytes.proofs.CommitLaws.{commit_at_lem}
use Rattle.indexing.specs.Rows.{entry_rows, checkpoint}
use Rattle.writecalls.specs.Written.{IsCommit, commit_in, logs_in}
use Rattle.writecalls.proofs.Rows.{is_form, entry_rows_lem}
use Rattle.paths.specs.Left.{left_says, Meets}
use Rattle.paths.specs.declared.Left.{Left}
use Rattle.paths.specs.declared.Met.{Met}
use Rattle.copies.specs.Copied.{renumber, lists}
use Rattle.copies.proofs.Copying.{end_commits, end_checkpoints, end_index, fit_parts}
use Rattle.copies.proofs.RoomLaws.{all_new, entries_step, entries_few, checkpoints_step}

-- ---- the LSNs at a place

-- the first, and those after it
lsns_cons : (m j from : ℕ) (s : List ℕ) → j + 1 ≡ m → lsns_at m from s ≡ be (part from 8 s) ∷ lsns_at j (from + 8) s
unfolding lsns_at runs
lsns_cons m j from s e = ap (λ (n : ℕ). map be (runs n 8 from s)) (sym e ∙ add-one j)

module _ (lsn m j from : ℕ) (s : List ℕ) (e : j + 1 ≡ m) (x : ℕ) (ex : x ≡ be (part from 8 s)) where
  step : any (eqb lsn) (lsns_at m from s) ≡ (eqb lsn x || any (eqb lsn) (lsns_at j (from + 8) s))
  unfolding any
  step = ap (any (eqb lsn)) (lsns_cons m j from s e) ∙ ap (λ (y : ℕ). eqb lsn y || any (eqb lsn) (lsns_at j (from + 8) s)) (sym ex)

  pub listed_here : x ≡ lsn → any (eqb lsn) (lsns_at m from s) ≡ true
  listed_here h = step ∙ ap (λ (b : Bool). b || any (eqb lsn) (lsns_at j (from + 8) s)) (eq-eqb lsn x (sym h))

  pub listed_next : (x ≡ lsn → ⊥) → any (eqb lsn) (lsns_at j (from + 8) s) ≡ any (eqb lsn) (lsns_at m from s)
  listed_next h =
      sym (step ∙ ap (λ (b : Bool). b || any (eqb lsn) (lsns_at j (from + 8) s)) (cases (eqb lsn x) (λ q. absurd (h (sym (eqb-true lsn x q)))) (λ q. q)))

  -- the first counts as new where it is not named again
  pub news_next : (log : Id) (l : List Checkpoint) (r : ℕ) → r ≡ lacks checkpoint_key log_lsn (log, x) (map (checkpoint log) (lsns_at j (from + 8) s) ++ l)
      → news checkpoint_key log_lsn (map (checkpoint log) (lsns_at m from s)) l ≡ r + news checkpoint_key log_lsn (map (checkpoint log) (lsns_at j (from + 8) s)) l
  unfolding news
  news_next log l r er =
      ap (λ (ns : List ℕ). news checkpoint_key log_lsn (map (checkpoint log) ns) l) (lsns_cons m j from s e)
      ∙ ap (λ (n : ℕ). n + news checkpoint_key log_lsn (map (checkpoint log) (lsns_at j (from + 8) s)) l)
      (ap (λ (y : ℕ). lacks checkpoint_key log_lsn (log, y) (map (checkpoint log) (lsns_at j (from + 8) s) ++ l)) (sym ex) ∙ sym er)

pub listed_end : (lsn from m : ℕ) (s : List ℕ) → m ≡ 0 → any (eqb lsn) (lsns_at m from s) ≡ false
unfolding any lsns_at runs
listed_end lsn from m s e = ap (λ (n : ℕ). any (eqb lsn) (lsns_at n from s)) e

pub news_end : (log : Id) (from m : ℕ) (s : List ℕ) (l : List Checkpoint) → m ≡ 0 → news checkpoint_key log_lsn (map (checkpoint log) (lsns_at m from s)) l ≡ 0
unfolding news lsns_at runs
news_end log from m s l e = ap (λ (n : ℕ). news checkpoint_key log_lsn (map (checkpoint log) (lsns_at n from s)) l) e

-- the LSNs of a stored commit stand behind its row's first 658 bytes
pub row_lists : (t : List ℕ) (row q n : ℕ) → q ≡ 2 + row * 722 → q + 722 ≤ length t → n ≡ min (be (part (q + 657) 1 t)) 8 → (commit_at t row).checkpoints ≡ lsns_at n (q + 657 + 1) t
row_lists t row q n eq h en =
    ap (λ (c : Commit). c.checkpoints) (commit_at_lem t (2 + row * 722))
    ∙ ap (λ (a : ℕ). (listed (number 8) 8).read (part (a + 657) 65 t)) (sym eq) ∙ lsns_at_lem t (q + 657) (omega (arith, h)) n en

-- ---- a commit's entries

pub entries_counted : (b : List ℕ) (ok : IsCommit b) (t : List ℕ) → index_ok t ≡ true → (set : PageSet) (es : set ≡ set_laid (pages_of (commit_in b).segment))
    (log : List ℕ) (el : log ≡ (commit_in (part 0 722 b)).log) (lsn : ℕ) (en : lsn ≡ (commit_in (part 0 722 b)).lsn) (r : ℕ) → r ≡ Many.news 29 (entry_rows log lsn (shown set)) (recs 29 t)
    → (r ≡ news entry_key log_page_lsn (entries_of (commit_in b)) (index_in t).rows) × (r ≤ 2048)
entries_counted b ok t good set es log el lsn en r er =
    let e : r ≡ news entry_key log_page_lsn (entries_of (commit_in b)) (index_in t).rows =
    er ∙ ap (λ (rs : List (List ℕ)). Many.news 29 rs (recs 29 t)) (entry_rows_lem b ok set es log el lsn en) ∙ news_spelled index t good (entries_of (commit_in b)) (entries_form (commit_in b) (is_form b ok)) in
    (e, omega (arith, e, entries_few (commit_in b) (is_form b ok) (index_in t).rows))

-- ---- the checkpoint of a key

pub lacking_is : (t : List ℕ) → checkpoints_ok t ≡ true → (log : Id) → length log ≡ 16 → (lsn : ℕ) → lsn < 2 ^ 64 → (key : List ℕ) → key ≡ log_lsn_bytes.spell (log, lsn) → (r : ℕ) → r ≡ Many.lacks 25 key (recs 25 t)
    → r ≡ lacks checkpoint_key log_lsn (log, lsn) (checkpoints_in t).rows
lacking_is t good log l lsn h key ek r er =
    er ∙ ap (λ (b : List ℕ). Many.lacks 25 b (recs 25 t)) ek ∙ lacks_is checkpoints t good (log_lsn_bytes.spell (log, lsn)) (log, lsn) (checkpoint_key_lem (log, lsn) (l, omega (arith, h)))

-- ---- the next commit of what is left

nothing : {A : Type 0} (l : List A) → 0 ≡ length l → l ≡ []
nothing [] e = refl
nothing (x ∷ xs) e = absurd (omega (arith, e))

module _ (t : List ℕ) (rest : Left) (k : ℕ) (ek : k ≡ length (path_commits (commits_in t) (left_says rest))) where
  -- with none left nothing is left to count
  module _ (z : k ≡ 0) where
    none_left : path_commits (commits_in t) (left_says rest) ≡ []
    none_left = nothing (path_commits (commits_in t) (left_says rest)) (sym z ∙ ek)

    pub entries_end : (log : Id) (l : List Entry) → news entry_key log_page_lsn (each entries_of (renumbered log (path_commits (commits_in t) (left_says rest)))) l ≡ 0
    unfolding news each
    entries_end log l = ap (λ (cs : List Commit). news entry_key log_page_lsn (each entries_of (renumbered log cs)) l) none_left

    pub checkpoints_end : (log : Id) (l : List Checkpoint) → news checkpoint_key log_lsn (each checkpoints_of (renumbered log (path_commits (commits_in t) (left_says rest)))) l ≡ 0
    unfolding news each
    checkpoints_end log l = ap (λ (cs : List Commit). news checkpoint_key log_lsn (each checkpoints_of (renumbered log cs)) l) none_left

    pub later_end : (lsn : ℕ) → any (lists lsn) (path_commits (commits_in t) (left_says rest)) ≡ false
    unfolding any
    later_end lsn = ap (any (lists lsn)) none_left

  module _ (m : Met) (meets : Meets t rest m) where
    is_next : k ≡ suc (length (path_commits (commits_in t) (left_says m.left)))
    is_next = ek ∙ ap (length {A = Commit}) meets.here

    pub one_fewer : (j : ℕ) → j + 1 ≡ k → j ≡ length (path_commits (commits_in t) (left_says m.left))
    one_fewer j e = omega (arith, e, is_next)

    pub entries_next : (log : Id) (l : List Entry) (b : List ℕ) → commit_in b ≡ renumber log k (commit_at t m.row) → (r : ℕ) → r ≡ news entry_key log_page_lsn (entries_of (commit_in b)) l
        → news entry_key log_page_lsn (each entries_of (renumbered log (path_commits (commits_in t) (left_says rest)))) l ≡ r + news entry_key log_page_lsn (each entries_of (renumbered log (path_commits (commits_in t) (left_says m.left)))) l
    entries_next log l b is r er =
        ap (λ (cs : List Commit). news entry_key log_page_lsn (each entries_of (renumbered log cs)) l) meets.here
        ∙ entries_step log (commit_at t m.row) (path_commits (commits_in t) (left_says m.left)) l
        ∙ ap (λ (n : ℕ). n + news entry_key log_page_lsn (each entries_of (renumbered log (path_commits (commits_in t) (left_says m.left)))) l)
        (ap (λ (n : ℕ). news entry_key log_page_lsn (entries_of (renumber log n (commit_at t m.row))) l) (sym is_next) ∙ ap (λ (c : Commit). news entry_key log_page_lsn (entries_of c) l) (sym is) ∙ sym er)

    pub checkpoints_next : (log : Id) (l : List Checkpoint) (r : ℕ) → r ≡ news checkpoint_key log_lsn (map (checkpoint log) (commit_at t m.row).checkpoints) (each checkpoints_of (renumbered log (path_commits (commits_in t) (left_says m.left))) ++ l)
        → news checkpoint_key log_lsn (each checkpoints_of (renumbered log (path_commits (commits_in t) (left_says rest)))) l ≡ r + news checkpoint_key log_lsn (each checkpoints_of (renumbered log (path_commits (commits_in t) (left_says m.left)))) l
    checkpoints_next log l r er =
        ap (λ (cs : List Commit). news checkpoint_key log_lsn (each checkpoints_of (renumbered log cs)) l) meets.here
        ∙ checkpoints_step log (commit_at t m.row) (path_commits (commits_in t) (left_says m.left)) l
        ∙ ap (λ (n : ℕ). n + news checkpoint_key log_lsn (each checkpoints_of (renumbered log (path_commits (commits_in t) (left_says m.left)))) l) (sym er)

    later_step : (lsn : ℕ) → any (lists lsn) (path_commits (commits_in t) (left_says rest)) ≡ (lists lsn (commit_at t m.row) || any (lists lsn) (path_commits (commits_in t) (left_says m.left)))
    unfolding any
    later_step lsn = ap (any (lists lsn)) meets.here

    pub later_here : (lsn : ℕ) → lists lsn (commit_at t m.row) ≡ true → any (lists lsn) (path_commits (commits_in t) (left_says rest)) ≡ true
    later_here lsn e = later_step lsn ∙ ap (λ (b : Bool). b || any (lists lsn) (path_commits (commits_in t) (left_says m.left))) e

    pub later_next : (lsn : ℕ) → lists lsn (commit_at t m.row) ≡ false → any (lists lsn) (path_commits (commits_in t) (left_says m.left)) ≡ any (lists lsn) (path_commits (commits_in t) (left_says rest))
    later_next lsn e = sym (later_step lsn ∙ ap (λ (b : Bool). b || any (lists lsn) (path_commits (commits_in t) (left_says m.left))) e)

-- ---- the three tables

module _ (cs ks es : List ℕ) (good : (commits_ok cs ≡ true) × (checkpoints_ok ks ≡ true) × (index_ok es ≡ true)) (left : Left) (log : Id) where
  abbrev path : List Commit
  path = path_commits (commits_in cs) (left_says left)

  abbrev fit : Bool
  fit = logs_fit (write_all (logs_in cs ks es) (renumbered log path))

  pub commits_room : (n : ℕ) → n ≡ length path → latest (commits_in cs) log ≡ none → (r : Bool) → r ≡ holds 722 (count_of cs + n) cs → r ≡ fits (end_commits cs ks es left log)
  commits_room n en e r er = news_fit commits cs good.0 (renumbered log path) r n (en ∙ sym (all_new log (commits_in cs) e path)) er

  pub index_room : (n : ℕ) → n ≡ news entry_key log_page_lsn (each entries_of (renumbered log path)) (index_in es).rows → (r : Bool) → r ≡ holds 29 (count_of es + n) es → r ≡ fits (end_index cs ks es left log)
  index_room n en r er = news_fit index es good.2 (each entries_of (renumbered log path)) r n en er

  pub checkpoints_room : (n : ℕ) → n ≡ news checkpoint_key log_lsn (each checkpoints_of (renumbered log path)) (checkpoints_in ks).rows → (r : Bool) → r ≡ holds 25 (count_of ks + n) ks → r ≡ fits (end_checkpoints cs ks es left log)
  checkpoints_room n en r er = news_fit checkpoints ks good.1 (each checkpoints_of (renumbered log path)) r n en er

  both_false : (a b : Bool) → false ≡ (a && b && false)
  both_false true true = refl
  both_false true false = refl
  both_false false b = refl

  both_true : (b : Bool) → b ≡ (b && true)
  both_true true = refl
  both_true false = refl

  -- no room for the commits
  pub no_commits : fits (end_commits cs ks es left log) ≡ false → false ≡ fit
  no_commits e = sym (fit_parts cs ks es left log ∙ ap (λ (b : Bool). b && fits (end_checkpoints cs ks es left log) && fits (end_index cs ks es left log)) e)

  -- none for their entries
  pub no_entries : fits (end_index cs ks es left log) ≡ false → false ≡ fit
  no_entries e =
      both_false (fits (end_commits cs ks es left log)) (fits (end_checkpoints cs ks es left log))
      ∙ sym (fit_parts cs ks es left log ∙ ap (λ (b : Bool). fits (end_commits cs ks es left log) && fits (end_checkpoints cs ks es left log) && b) e)

  -- else the checkpoints decide
  pub checkpoints_decide : fits (end_commits cs ks es left log) ≡ true → fits (end_index cs ks es left log) ≡ true → fits (end_checkpoints cs ks es left log) ≡ fit
  checkpoints_decide a b =
      both_true (fits (end_checkpoints cs ks es left log))
      ∙ sym (fit_parts cs ks es left log ∙ ap₂ (λ (x y : Bool). x && fits (end_checkpoints cs ks es left log) && y) a b)
