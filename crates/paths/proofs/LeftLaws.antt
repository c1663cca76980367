-- What is left of a path, in code: an array, a place and a number of ranges. A range that has no commit is passed over; of the first that has one, the run's first row is the next commit, and
-- with its end lowered below that commit the ranges left give the rest.
use Rattle.std.proofs.Common.{◌≡◌, ℕ, zero, suc, ◌+◌, ◌-◌, ◌*◌, ◌<◌, ◌≤◌, min, Bool, true, false, cond, not, leb, List, [], ◌∷◌, ◌++◌, map, length, get_or, take, drop, set, sym, refl, ap, ◌∙◌, ap₂, append-nil, add-one, arith, length-append, length-drop, length-set, take-append-drop, drop_of_length-le, length-take, drop-cons, get_or-take, take-suc, get_or-set_same, drop-drop, take-suc-set, take_at, drop-set-lt, ltb-true, leb-false, leb-true, Some, None}
use mathlib.Core.Option.{Option, none, some}
use mir.Val.{Val}
use denote.Laws.{Is}
use denote.Struct.Declared.{row}
use lib.ListN.{length-map}
use lib.Seq.{take-set-lt}
use Rattle.basics.specs.Numbers.{counts, last_lsn}
use Rattle.rules.specs.Forms.{lsn_form, commit_form}
use Rattle.basics.specs.Orders.{log_lsn}
use Rattle.rules.specs.Lists.{first, those, all, is_none}
use Rattle.rules.specs.Records.{Id, Commit, Range, commit_key}
use Rattle.rules.specs.Tables.{Table, fits, in_order, same_id}
use Rattle.basics.proofs.OrderLaws.{log_lsn_lawful}
use Rattle.rules.specs.Walk.{in_range, path_commits}
use Rattle.rules.proofs.TableLaws.{cases, clash, missing, options, and_fst, and_snd, first_some, those_append, length_those, formed_parts}
use Rattle.table.specs.Table.{count_of}
use Rattle.layout.specs.Tables.{commits_in, commits_ok}
use Rattle.rows.specs.Lookups.{stretch}
use Rattle.rows.proofs.Finds.{map_drop, stretch_next, stretch_end}
use Rattle.rows.proofs.Rows.{formed_up, formed_rules, length_rows}
use Rattle.rows.proofs.Checks.{row_form_lem}
use Rattle.rows.proofs.Tables.{commits}
use Rattle.volume.specs.Snapshots.{range_says, no_range}
use Rattle.volume.specs.declared.snapshot.LogRange.{LogRange}
use Rattle.commits.specs.Places.{commit_at, PlaceOf, RunOfRange}
use Rattle.paths.specs.declared.Left.{Left}
use Rattle.paths.specs.contracts.Left.{the_type}
use Rattle.paths.specs.Left.{lowered, other_log, leading, is_left, left_says, others, left_without, lowered_at, Meets}
use Rattle.paths.proofs.PathLaws.{those_next}

-- what is left has places for 8 ranges: of a parameter, by `.good .1 .0`
pub places : (l : Left) (vs : List Val) → Is (row the_type) l vs → length l.path ≡ 8
places l vs g = g.1.1.0.1.0.1

-- ---- the first commit of a range

module _ {A : Type 0} (f : A → Bool) where
  -- where none passes a test there is no first
  none_first : (l : List A) → those f l ≡ [] → first f l ≡ none
  unfolding those first
  none_first [] e = refl
  none_first (x ∷ xs) e = cases (f x) (λ q. absurd (omega (arith, ap (length {A = A}) (rw q at e)))) (λ q. rw q (none_first xs (rw q at e)))

  -- of those that pass, the head is the first
  head_first : (l : List A) (x : A) (xs : List A) → those f l ≡ x ∷ xs → first f l ≡ some x
  unfolding those first
  head_first [] x xs e = absurd (omega (arith, ap (length {A = A}) e))
  head_first (y ∷ ys) x xs e = cases (f y) (λ q. let s : y ≡ x = cc in rw (q, s) refl) (λ q. rw q (head_first ys x xs (rw q at e)))

  -- and back
  first_head : (l : List A) → first f l ≡ none → those f l ≡ []
  unfolding those first
  first_head [] e = refl
  first_head (y ∷ ys) e = cases (f y) (λ q. absurd (missing (rw q at e) refl)) (λ q. rw q (first_head ys (rw q at e)))

module _ (t : List ℕ) (r : Range) (from to : ℕ) (run : RunOfRange t r from to) where
  pub first_missing : to ≤ from → PlaceOf t (first (in_range r) (commits_in t).rows) None
  first_missing h = record { says = sym (none_first (in_range r) (commits_in t).rows (sym run.commits ∙ stretch_end from to (commits_in t).rows h)); inside = tt }

  -- the run's first row, and those after it
  run_rows : from < to → those (in_range r) (commits_in t).rows ≡ commit_at t from ∷ stretch (from + 1) to (commits_in t).rows
  run_rows h = sym run.commits ∙ stretch_next commits t from to h run.places.inside.1

  pub first_there : from < to → PlaceOf t (first (in_range r) (commits_in t).rows) (Some from)
  first_there h = record { says = sym (head_first (in_range r) (commits_in t).rows (commit_at t from) _ (run_rows h)); inside = omega (arith, h, run.places.inside) }

-- ---- ranges in front without commits

module _ (path : List LogRange) (len i : ℕ) (d : LogRange) (h : i < len) (k : i < length path) where
  -- the range at i, and those after it
  pub left_step : map range_says (drop i (take len path)) ≡ range_says (get_or path i d) ∷ map range_says (drop (i + 1) (take len path))
  left_step =
      let l : i < length (take len path) = simp length-take (omega arith) in
      rw (add-one i, ← get_or-take len path i d h) (ap (map range_says) (drop-cons (take len path) i d l))

-- nothing is left
pub left_end : (path : List LogRange) (len i : ℕ) → len ≤ i → map range_says (drop i (take len path)) ≡ []
left_end path len i h =
    let l : length (take len path) ≤ i = simp length-take (omega arith) in
    rw (drop_of_length-le (take len path) l) refl

module _ (cs : Table Commit) where
  -- a range without commits is passed over
  pub leading_more : (r : Range) (rs ps : List Range) → ps ≡ r ∷ rs → none ≡ first (in_range r) cs.rows → leading cs ps ≡ leading cs rs + 1
  leading_more r rs ps e n = ap (leading cs) e ∙ ap (λ (o : Option Commit). cond (is_none o) (suc (leading cs rs)) 0) (sym n) ∙ sym (add-one (leading cs rs))

  -- one that has a commit ends it
  pub leading_here : (r : Range) (rs ps : List Range) (c : Commit) → ps ≡ r ∷ rs → some c ≡ first (in_range r) cs.rows → leading cs ps ≡ 0
  leading_here r rs ps c e n = ap (leading cs) e ∙ ap (λ (o : Option Commit). cond (is_none o) (suc (leading cs rs)) 0) (sym n)

  -- what they give is nothing
  leading_gives : (ps : List Range) → path_commits cs ps ≡ path_commits cs (drop (leading cs ps) ps)
  leading_gives [] = refl
  leading_gives (r ∷ rs) =
      options (first (in_range r) cs.rows) (λ n. rw (n, first_head (in_range r) cs.rows n) (leading_gives rs)) (λ c n. rw n refl)

  -- where there is a commit, the first range after them has one
  leading_lt : (ps : List Range) → 0 < length (path_commits cs ps) → leading cs ps < length ps
  leading_lt [] h = absurd (omega (arith, h))
  leading_lt (r ∷ rs) h =
      options (first (in_range r) cs.rows)
      (λ n. let e : path_commits cs (r ∷ rs) ≡ path_commits cs rs = ap (λ (l : List Commit). l ++ path_commits cs rs) (first_head (in_range r) cs.rows n) in
      rw n (omega (arith, leading_lt rs (rw e at h)))) (λ c n. rw n (omega arith))

-- ---- the next commit

module _ {A : Type 0} where
  -- inside a list the value past its end does not matter
  get_d_any : (l : List A) (i : ℕ) (d e : A) → i < length l → get_or l i d ≡ get_or l i e
  get_d_any [] i d e h = absurd (omega (arith, h))
  get_d_any (x ∷ xs) zero d e h = refl
  get_d_any (x ∷ xs) (suc i) d e h = get_d_any xs i d e (omega (arith, h))

  -- the head of those that pass a test passes it
  head_passes : (f : A → Bool) (l : List A) (x : A) (xs : List A) → those f l ≡ x ∷ xs → f x ≡ true
  head_passes f l x xs e = (first_some f l (head_first f l x xs e)).1

  all_drop : (f : A → Bool) (n : ℕ) (l : List A) → all f l ≡ true → all f (drop n l) ≡ true
  unfolding all
  all_drop f zero l e = e
  all_drop f (suc n) [] e = refl
  all_drop f (suc n) (x ∷ xs) e = all_drop f n xs (and_snd (f x) (all f xs) e)

-- a lowered range names the same log
low_other : (log : Id) (r : Range) (n : ℕ) (rs : List Range) → all (other_log log) (lowered r n ∷ rs) ≡ all (other_log log) (r ∷ rs)
unfolding all
low_other log r n rs = refl

-- the range after those passed over has a commit
leading_stops : (cs : Table Commit) (ps : List Range) (r : Range) (rs : List Range) → drop (leading cs ps) ps ≡ r ∷ rs → is_none (first (in_range r) cs.rows) ≡ false
leading_stops cs [] r rs e = absurd (omega (arith, ap (length {A = Range}) e))
leading_stops cs (q ∷ qs) r rs e =
    options (first (in_range q) cs.rows) (λ n. leading_stops cs qs r rs (rw n at e))
    (λ c n. let s : q ∷ qs ≡ r ∷ rs = rw n at e in let t : q ≡ r = cc in rw (← t, n) refl)

-- a range lowered below its first commit, and those after it, give what comes after that commit
path_next : (cs : Table Commit) (r : Range) (rs : List Range) (c : Commit) (l : List Commit) → in_order commit_key log_lsn cs.rows ≡ true → 0 < c.lsn → those (in_range r) cs.rows ≡ c ∷ l
    → path_commits cs (r ∷ rs) ≡ c ∷ path_commits cs (lowered r c.lsn ∷ rs)
path_next cs r rs c l up p e =
    ap (λ (x : List Commit). x ++ path_commits cs rs) e
    ∙ ap (λ (x : List Commit). c ∷ (x ++ path_commits cs rs)) (sym (those_next r c (head_passes (in_range r) cs.rows c l e) p cs.rows l up e))

module _ (path : List LogRange) (k : length path ≡ 8) (len i n : ℕ) (d : LogRange) (h : i < len) (m : len ≤ 8) where
  -- with the range at i lowered, those after it stay
  lowered_left : map range_says (drop i (take len (lowered_at (get_or path i d) i n path))) ≡ lowered (range_says (get_or path i d)) n ∷ map range_says (drop (i + 1) (take len path))
  lowered_left =
      let low = lowered_at (get_or path i d) i n path in
      let a : LogRange = record { log = (get_or path i d).log; start = (get_or path i d).start; end = record { 0 = n - 1 } } in
      let b : i < length path = omega (arith, k) in
      let e : length low ≡ 8 = length-set path i a ∙ k in
      left_step low len i d h (omega (arith, e))
      ∙ ap₂ (λ (x : LogRange) (l : List LogRange). range_says x ∷ map range_says l) (get_or-set_same path i a d b)
      (ap (drop (i + 1)) (take-set-lt len path i a h) ∙ drop-set-lt (i + 1) (take len path) i a (omega arith))

form_counts : (n : ℕ) → lsn_form n ≡ true → 0 < n
unfolding lsn_form
form_counts n h = ltb-true 0 n (and_fst (counts n) (leb n last_lsn) h)

-- the LSN of a stored commit is not 0
lsn_of_lem : (c : Commit) → commit_form c ≡ true → 0 < c.lsn
unfolding commit_form
lsn_of_lem c e = let h : lsn_form c.lsn ≡ true = search (and_fst, and_snd) in form_counts c.lsn h

commit_lsn : (t : List ℕ) → commits_ok t ≡ true → (i : ℕ) → i < count_of t → 0 < (commit_at t i).lsn
commit_lsn t ok i h = lsn_of_lem (commit_at t i) (row_form_lem commits t ok i h)

module _ (t : List ℕ) (ok : commits_ok t ≡ true) (l : Left) (k : length l.path ≡ 8) (is : is_left l) (some_left : 0 < length (path_commits (commits_in t) (left_says l))) where
  -- the range that has the next commit
  pub next_at : (i : ℕ) → i ≡ l.at + leading (commits_in t) (left_says l) → i < l.len
  next_at i e =
      let a : length (left_says l) ≡ length (drop l.at (take l.len l.path)) = length-map (drop l.at (take l.len l.path)) range_says in
      let b : length (drop l.at (take l.len l.path)) ≡ l.len - l.at = simp (length-drop, length-take) (omega (arith, k, is)) in
      omega (arith, e, a, b, is, leading_lt (commits_in t) (left_says l) some_left)

  module _ (i : ℕ) (e : i ≡ l.at + leading (commits_in t) (left_says l)) (d : LogRange) where
    -- the ranges from it on
    on : drop (leading (commits_in t) (left_says l)) (left_says l) ≡ range_says (get_or l.path i d) ∷ map range_says (drop (i + 1) (take l.len l.path))
    on =
        sym (map_drop range_says (leading (commits_in t) (left_says l)) (drop l.at (take l.len l.path)))
        ∙ ap (map range_says) (drop-drop (leading (commits_in t) (left_says l)) l.at (take l.len l.path) ∙ ap (λ (n : ℕ). drop n (take l.len l.path)) (sym e))
        ∙ left_step l.path l.len i d (next_at i e) (omega (arith, k, is, next_at i e))

    module _ (from to : ℕ) (run : RunOfRange t (range_says (get_or l.path i d)) from to) where
      has_run : from < to
      has_run =
          cases (leb to from)
          (λ q. let m = first_missing t (range_says (get_or l.path i d)) from to run (leb-true to from q) in
          absurd (clash (ap is_none (sym m.says)) (leading_stops (commits_in t) (left_says l) (range_says (get_or l.path i d)) _ on)))
          (λ q. leb-false to from q)

      pub row_in_table : from < count_of t
      row_in_table = omega (arith, has_run, run.places.inside)

      pub lsn_counts : 0 < (commit_at t from).lsn
      lsn_counts = commit_lsn t ok from row_in_table

      pub meets : Meets t l (record { row = from; left = record { path = lowered_at (get_or l.path i d) i (commit_at t from).lsn l.path; at = i; len = l.len } })
      meets = record {
        inside = row_in_table;
        here = leading_gives (commits_in t) (left_says l) ∙ ap (path_commits (commits_in t)) on
            ∙ path_next (commits_in t) (range_says (get_or l.path i d)) (map range_says (drop (i + 1) (take l.len l.path))) (commit_at t from) (stretch (from + 1) to (commits_in t).rows) (formed_up commits t ok) lsn_counts (run_rows t (range_says (get_or l.path i d)) from to run has_run)
            ∙ ap (λ (ps : List Range). commit_at t from ∷ path_commits (commits_in t) ps) (sym (lowered_left l.path k l.len i (commit_at t from).lsn d (next_at i e) is.1));
        left_is = ap₂ (λ (r : LogRange) (n : ℕ). record { path = lowered_at r i (commit_at t from).lsn l.path; at = n; len = l.len }) (get_d_any l.path i d no_range (omega (arith, k, is, next_at i e))) e;
        is_left = (omega (arith, next_at i e), is.1);
        others = λ log a. ap (all (other_log log)) (lowered_left l.path k l.len i (commit_at t from).lsn d (next_at i e) is.1) ∙ low_other log (range_says (get_or l.path i d)) (commit_at t from).lsn (map range_says (drop (i + 1) (take l.len l.path))) ∙ ap (all (other_log log)) (sym on) ∙ all_drop (other_log log) (leading (commits_in t) (left_says l)) (left_says l) a;
      }

-- ---- how many are left

pub count_step : (cs : Table Commit) (r : Range) (rs ps : List Range) (n : ℕ) → ps ≡ r ∷ rs → n ≡ length (those (in_range r) cs.rows) → length (path_commits cs ps) ≡ n + length (path_commits cs rs)
count_step cs r rs ps n e k =
    ap (λ (l : List Range). length (path_commits cs l)) e ∙ length-append (those (in_range r) cs.rows) (path_commits cs rs) ∙ ap (λ (m : ℕ). m + length (path_commits cs rs)) (sym k)

pub run_size : (t : List ℕ) (r : Range) (from to : ℕ) → RunOfRange t r from to → to - from ≡ length (those (in_range r) (commits_in t).rows)
run_size t r from to run =
    let l : length (commits_in t).rows ≡ count_of t = length_rows commits t in
    let e : length (stretch from to (commits_in t).rows) ≡ to - from = simp (length-take, length-drop) (omega (arith, l, run.places.inside)) in
    sym e ∙ ap (length {A = Commit}) run.commits

-- a table holds at most 65,535, so a path gives at most eight times as many
rows_small : {R : Type 0} (t : Table R) → fits t ≡ true → length t.rows ≤ 65535
unfolding fits
rows_small t e = omega (arith, leb-true (length t.rows) (min t.room 65535) e)

path_size : (t : List ℕ) → commits_ok t ≡ true → (ps : List Range) → length (path_commits (commits_in t) ps) ≤ 65535 * length ps
path_size t ok [] = omega arith
path_size t ok (r ∷ rs) =
    let a = length-append (those (in_range r) (commits_in t).rows) (path_commits (commits_in t) rs) in
    let f = formed_parts commit_key log_lsn log_lsn_lawful commit_form (commits_in t) (formed_rules commits t ok) in
    omega (arith, a, path_size t ok rs, length_those (in_range r) (commits_in t).rows, rows_small (commits_in t) f.fit)

pub left_small : (t : List ℕ) → commits_ok t ≡ true → (l : Left) → length l.path ≡ 8 → length (path_commits (commits_in t) (left_says l)) ≤ 524280
left_small t ok l k =
    let a : length (left_says l) ≡ length (drop l.at (take l.len l.path)) = length-map (drop l.at (take l.len l.path)) range_says in
    let b : length (drop l.at (take l.len l.path)) ≤ 8 = simp (length-drop, length-take) (omega (arith, k)) in
    omega (arith, a, b, path_size t ok (left_says l))

-- ---- the ranges that do not name a log

module _ (log : Id) (path kept : List LogRange) (i n : ℕ) (d : LogRange) (h : i < length path) (e : take n kept ≡ others log (take i path)) where
  one_more : others log (take (i + 1) path) ≡ others log (take i path) ++ others log (get_or path i d ∷ [])
  one_more =
      ap (others log) (ap (λ (m : ℕ). take m path) (add-one i) ∙ take-suc path i d h)
      ∙ those_append (λ (r : LogRange). other_log log (range_says r)) (take i path) (get_or path i d ∷ [])

  -- the next names another: it is kept
  pub other_kept : n < length kept → same_id log (get_or path i d).log ≡ false → take (n + 1) (set kept n (get_or path i d)) ≡ others log (take (i + 1) path)
  unfolding those
  other_kept k q =
      ap (λ (m : ℕ). take m (set kept n (get_or path i d))) (add-one n) ∙ take-suc-set kept n (get_or path i d) k
      ∙ ap (λ (l : List LogRange). l ++ get_or path i d ∷ []) e
      ∙ ap (λ (b : Bool). others log (take i path) ++ cond (not b) (get_or path i d ∷ []) []) (sym q)
      ∙ sym one_more

  -- the next names it: it is left out
  pub own_left : same_id log (get_or path i d).log ≡ true → take n kept ≡ others log (take (i + 1) path)
  unfolding those
  own_left q =
      e ∙ sym (append-nil (others log (take i path)))
      ∙ ap (λ (b : Bool). others log (take i path) ++ cond (not b) (get_or path i d ∷ []) []) (sym q)
      ∙ sym one_more

-- the places behind a range that is kept are as they were
pub rest_stays : (path kept : List LogRange) (n : ℕ) (r : LogRange) → drop n kept ≡ drop n path → drop (n + 1) (set kept n r) ≡ drop (n + 1) path
rest_stays path kept n r e = drop-set-lt (n + 1) kept n r (omega arith) ∙ sym (drop-drop 1 n kept) ∙ ap (drop 1) e ∙ drop-drop 1 n path

pub none_kept : (log : Id) (path : List LogRange) → take 0 path ≡ others log (take 0 path)
unfolding those
none_kept log path = refl

-- at the end
pub all_kept : (log : Id) (path kept : List LogRange) (n len : ℕ) → n ≤ length kept → take n kept ≡ others log (take len path) → drop n kept ≡ drop n path
    → record { path = kept; at = 0; len = n } ≡ left_without path len log
unfolding left_without
all_kept log path kept n len h e b =
    let l : n ≡ length (others log (take len path)) = sym (length-take n kept ∙ omega arith) ∙ ap (length {A = LogRange}) e in
    let k : kept ≡ others log (take len path) ++ drop (length (others log (take len path))) path = sym (take-append-drop n kept) ∙ ap₂ (λ (x y : List LogRange). x ++ y) e (b ∙ ap (λ (m : ℕ). drop m path) l) in
    ap₂ (λ (p : List LogRange) (m : ℕ). record { path = p; at = 0; len = m }) k l

-- what is left so is a path, of the ranges that do not name the log
says_others : (log : Id) (path : List LogRange) → map range_says (others log path) ≡ those (other_log log) (map range_says path)
unfolding those
says_others log [] = refl
says_others log (r ∷ rs) = cases (same_id log r.log) (λ q. rw q (says_others log rs)) (λ q. rw q (ap (λ (l : List Range). range_says r ∷ l) (says_others log rs)))

pub without_left : (path : List LogRange) (len : ℕ) (log : Id) (r : Left) → len ≤ 8 → r ≡ left_without path len log → is_left r
unfolding left_without
without_left path len log r h e =
    rw e (omega arith, omega (arith, length_those (λ (x : LogRange). other_log log (range_says x)) (take len path), length-take len path))

pub without_says : (path : List LogRange) (len : ℕ) (log : Id) (r : Left) → r ≡ left_without path len log → left_says r ≡ those (other_log log) (map range_says (take len path))
unfolding left_without
without_says path len log r e =
    ap left_says e
    ∙ ap (map range_says) (take_at (others log (take len path)) (drop (length (others log (take len path))) path) (length (others log (take len path))) refl)
    ∙ says_others log (take len path)
