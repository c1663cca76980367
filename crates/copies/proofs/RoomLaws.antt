-- What copies add to each table. A key counts as new where it is named last and not held (`news`). Copies of a log without commits are all new, since their LSNs
-- differ; so do the keys of different copies' index entries, whose new ones are counted copy by copy. Checkpoints of different copies may meet: each is counted against the rest of its
-- list, the commits after its own and the table.
use Rattle.std.proofs.Common.{◌≡◌, ℕ, suc, ◌+◌, ◌*◌, ◌%◌, ◌<◌, ◌≤◌, Bool, true, false, cond, ◌||◌, eqb, List, [], ◌∷◌, ◌++◌, map, length, sym, refl, ap, ◌∙◌, ap₂, append_assoc, arith, length-append}
use Prim.Native.Nat.{compare, Ordering}
use mathlib.Core.Option.{none}
use lib.Dec.{compare_is_eq}
use lib.ListN.{length-map}
use Rattle.basics.specs.Orders.{next, bytes, log_lsn, log_page_lsn}
use Rattle.basics.proofs.OrderLaws.{log_lsn_lawful, log_page_lsn_lawful}
use Rattle.pageset.specs.Sets.{bit}
use Rattle.rules.specs.Lists.{any, all, those, first}
use Rattle.rules.specs.Records.{Id, Pages, Commit, Checkpoint, Entry, LogLsn, LogPageLsn, commit_key, checkpoint_key, entry_key}
use Rattle.rules.specs.Pages.{numbers, pages_in}
use Rattle.rules.specs.Forms.{commit_form}
use Rattle.rules.specs.Tables.{Table, latest, same_id}
use Rattle.rules.specs.Write.{pages_of, checkpoints_of, entries_of}
use Rattle.rules.specs.Room.{held, lacks, news, each}
use Rattle.rules.specs.Copies.{renumbered}
use Rattle.rules.proofs.TableLaws.{cases, clash, missing, eq_of, and_fst, and_snd, any_map, any_and, length_those, eqb_turn}
use Rattle.rules.proofs.Facts.{id_same}
use Rattle.rules.proofs.Rooms.{held_nil, held_append}
use Rattle.rules.proofs.PageLaws.{length_numbers}
use Rattle.rules.proofs.Write.{set_form}
use Rattle.setbytes.proofs.LaidLaws.{few}
use Rattle.indexing.specs.Rows.{checkpoint}
use Rattle.copies.specs.Copied.{renumber, lists}

-- ---- any table

module _ {R K : Type 0} (key : R → K) (order : K → K → Ordering) where
  pub lacks_le : (k : K) (l : List R) → lacks key order k l ≤ 1
  lacks_le k l = cases (held key order k l) (λ q. rw q (omega arith)) (λ q. rw q (omega arith))

  -- no more are new than there are
  news_le : (rs l : List R) → news key order rs l ≤ length rs
  unfolding news
  news_le [] l = omega arith
  news_le (r ∷ rs) l = omega (arith, lacks_le (key r) (rs ++ l), news_le rs l)

  -- of two runs: those of the second, and those of the first that the second does not name
  news_append : (a b l : List R) → news key order (a ++ b) l ≡ news key order a (b ++ l) + news key order b l
  unfolding news
  news_append [] b l = omega arith
  news_append (r ∷ a) b l = omega (arith, news_append a b l, ap (lacks key order (key r)) (append_assoc a b l))

  -- records that name none of the keys count for nothing
  news_apart : (a b l : List R) → all (λ r. cond (held key order (key r) b) false true) a ≡ true → news key order a (b ++ l) ≡ news key order a l
  unfolding news all
  news_apart [] b l h = refl
  news_apart (r ∷ a) b l h =
      let q = not_held (held key order (key r) b) (and_fst (cond (held key order (key r) b) false true) (all (λ s. cond (held key order (key s) b) false true) a) h) in
      let e : held key order (key r) (a ++ (b ++ l)) ≡ held key order (key r) (a ++ l) = held_append key order (key r) a (b ++ l) ∙ rw (held_append key order (key r) b l, q, held_append key order (key r) a l) refl in
      rw (e, news_apart a b l (and_snd (cond (held key order (key r) b) false true) (all (λ s. cond (held key order (key s) b) false true) a) h)) refl
    where
      not_held : (x : Bool) → cond x false true ≡ true → x ≡ false
      not_held true e = sym e
      not_held false e = refl

-- ---- lists

any_none : {A : Type 0} (f : A → Bool) (l : List A) → ((x : A) → f x ≡ false) → any f l ≡ false
unfolding any
any_none f [] h = refl
any_none f (x ∷ l) h = rw (h x) (any_none f l h)

not-true : (b : Bool) → (b ≡ true → ⊥) → b ≡ false
not-true true h = absurd (h refl)
not-true false h = refl

-- ---- the commits

-- a log without commits has none at an LSN
none_held : (log : Id) (n : ℕ) (l : List Commit) → first (λ (c : Commit). same_id log c.log) l ≡ none → held commit_key log_lsn (log, n) l ≡ false
unfolding first held any
none_held log n [] e = refl
none_held log n (x ∷ l) e =
    cases (same_id log x.log) (λ q. absurd (missing (rw q at e) refl))
    (λ q. let d : compare_is_eq (log_lsn (log, n) (commit_key x)) ≡ false = not-true (compare_is_eq (log_lsn (log, n) (commit_key x))) (λ w. clash (id_same log x.log (ap (λ (k : LogLsn). k.0) (log_lsn_lawful.same (log, n) (commit_key x) (eq_of (log_lsn (log, n) (commit_key x)) w)))) q) in
    rw d (none_held log n l (rw q at e)))

-- copies have LSNs up to their number
below_held : (log : Id) (n : ℕ) (cs : List Commit) → length cs < n → held commit_key log_lsn (log, n) (renumbered log cs) ≡ false
unfolding held any
below_held log n [] h = refl
below_held log n (c ∷ cs) h =
    let d : compare_is_eq (log_lsn (log, n) (log, suc (length cs))) ≡ false = not-true (compare_is_eq (log_lsn (log, n) (log, suc (length cs)))) (λ w. omega (arith, h, ap (λ (k : LogLsn). k.1) (log_lsn_lawful.same (log, n) (log, suc (length cs)) (eq_of (log_lsn (log, n) (log, suc (length cs))) w)))) in
    rw d (below_held log n cs (omega (arith, h)))

pub all_new : (log : Id) (t : Table Commit) → latest t log ≡ none → (cs : List Commit) → news commit_key log_lsn (renumbered log cs) t.rows ≡ length cs
unfolding news
all_new log t e [] = refl
all_new log t e (c ∷ cs) =
    let d : held commit_key log_lsn (log, suc (length cs)) (renumbered log cs ++ t.rows) ≡ false = held_append commit_key log_lsn (log, suc (length cs)) (renumbered log cs) t.rows ∙ rw (below_held log (suc (length cs)) cs (omega arith), none_held log (suc (length cs)) t.rows e) refl in
    rw (d, all_new log t e cs) (omega arith)

-- ---- the index

-- entries of another LSN
own : (log : Id) (p n m : ℕ) (ps : List ℕ) → m < n → held entry_key log_page_lsn (log, (p, n)) (map (λ (q : ℕ). record { log = log; page = q; lsn = m }) ps) ≡ false
unfolding held
own log p n m ps h =
    any_map (λ (e : Entry). compare_is_eq (log_page_lsn (log, (p, n)) (entry_key e))) (λ (q : ℕ). record { log = log; page = q; lsn = m }) ps
    ∙ any_none (λ (q : ℕ). compare_is_eq (log_page_lsn (log, (p, n)) (log, (q, m)))) ps
    (λ q. not-true (compare_is_eq (log_page_lsn (log, (p, n)) (log, (q, m)))) (λ w. omega (arith, h, ap (λ (k : LogPageLsn). k.1.1) (log_page_lsn_lawful.same (log, (p, n)) (log, (q, m)) (eq_of (log_page_lsn (log, (p, n)) (log, (q, m))) w)))))

-- no entry of the copies after it has the LSN of a copy
entry_apart : (log : Id) (p n : ℕ) (cs : List Commit) → length cs < n → held entry_key log_page_lsn (log, (p, n)) (each entries_of (renumbered log cs)) ≡ false
unfolding each
entry_apart log p n [] h = held_nil entry_key log_page_lsn (log, (p, n))
entry_apart log p n (c ∷ cs) h =
    held_append entry_key log_page_lsn (log, (p, n)) (entries_of (renumber log (suc (length cs)) c)) (each entries_of (renumbered log cs))
    ∙ rw (own log p n (suc (length cs)) (pages_in (pages_of c.segment)) (omega (arith, h)), entry_apart log p n cs (omega (arith, h))) refl

pages_apart : (log : Id) (n : ℕ) (cs : List Commit) → length cs < n → (ps : List ℕ)
    → all (λ (r : Entry). cond (held entry_key log_page_lsn (entry_key r) (each entries_of (renumbered log cs))) false true) (map (λ (q : ℕ). record { log = log; page = q; lsn = n }) ps) ≡ true
unfolding all
pages_apart log n cs h [] = refl
pages_apart log n cs h (p ∷ ps) = rw (entry_apart log p n cs h) (pages_apart log n cs h ps)

-- a copy's new entries are counted by themselves
pub entries_step : (log : Id) (c : Commit) (cs : List Commit) (l : List Entry)
    → news entry_key log_page_lsn (each entries_of (renumbered log (c ∷ cs))) l ≡ news entry_key log_page_lsn (entries_of (renumber log (suc (length cs)) c)) l + news entry_key log_page_lsn (each entries_of (renumbered log cs)) l
unfolding each
entries_step log c cs l =
    news_append entry_key log_page_lsn (entries_of (renumber log (suc (length cs)) c)) (each entries_of (renumbered log cs)) l
    ∙ ap (λ (n : ℕ). n + news entry_key log_page_lsn (each entries_of (renumbered log cs)) l)
    (news_apart entry_key log_page_lsn (entries_of (renumber log (suc (length cs)) c)) (each entries_of (renumbered log cs)) l (pages_apart log (suc (length cs)) cs (omega arith) (pages_in (pages_of c.segment))))

-- a commit has at most 32 times 64 pages
pages_few : (s : Pages) → length (pages_in s) ≤ 64 * length s
unfolding pages_in
pages_few [] = omega arith
pages_few (w ∷ s) =
    omega (arith, length-append (those (λ p. bit w.mask (p % 64)) (numbers (w.index * 64) 64)) (pages_in s), length_those (λ p. bit w.mask (p % 64)) (numbers (w.index * 64) 64), length_numbers (w.index * 64) 64, pages_few s)

pub entries_few : (c : Commit) → commit_form c ≡ true → (l : List Entry) → news entry_key log_page_lsn (entries_of c) l ≤ 2048
entries_few c e l =
    let m : length (entries_of c) ≡ length (pages_in (pages_of c.segment)) = length-map (pages_in (pages_of c.segment)) (λ (p : ℕ). record { log = c.log; page = p; lsn = c.lsn }) in
    omega (arith, news_le entry_key log_page_lsn (entries_of c) l, m, pages_few (pages_of c.segment), few (pages_of c.segment) (set_form c e))

-- ---- the checkpoints

bytes_self : (log : Id) → bytes log log ≡ Ordering.eq
bytes_self log = first_part (bytes log log) (log_lsn_lawful.self (log, 0))
  where
    first_part : (o : Ordering) → next o (compare 0 0) ≡ Ordering.eq → o ≡ Ordering.eq
    first_part Ordering.lt e = e
    first_part Ordering.eq e = refl
    first_part Ordering.gt e = e

module _ (log : Id) (n : ℕ) where
  -- of a log's checkpoints, one at an LSN is there where the LSN is
  held_listed : (ns : List ℕ) → held checkpoint_key log_lsn (log, n) (map (checkpoint log) ns) ≡ any (eqb n) ns
  unfolding held
  held_listed ns =
      any_map (λ (k : Checkpoint). compare_is_eq (log_lsn (log, n) (checkpoint_key k))) (checkpoint log) ns
      ∙ any_and true (eqb n) (λ m. compare_is_eq (log_lsn (log, n) (log, m))) ns (λ m. same m)
    where
      same : (m : ℕ) → compare_is_eq (log_lsn (log, n) (log, m)) ≡ eqb n m
      same m = ap (λ (o : Ordering). compare_is_eq (next o (compare m n))) (bytes_self log) ∙ eqb_turn m n

  -- what later copies name
  held_later : (cs : List Commit) → held checkpoint_key log_lsn (log, n) (each checkpoints_of (renumbered log cs)) ≡ any (lists n) cs
  unfolding each any
  held_later [] = held_nil checkpoint_key log_lsn (log, n)
  held_later (c ∷ cs) =
      held_append checkpoint_key log_lsn (log, n) (map (checkpoint log) c.checkpoints) (each checkpoints_of (renumbered log cs))
      ∙ ap₂ ◌||◌ (held_listed c.checkpoints) (held_later cs)

  module _ (ns : List ℕ) (cs : List Commit) (l : List Checkpoint) where
    abbrev behind : List Checkpoint
    behind = map (checkpoint log) ns ++ (each checkpoints_of (renumbered log cs) ++ l)

    behind_held : held checkpoint_key log_lsn (log, n) behind ≡ (any (eqb n) ns || (any (lists n) cs || held checkpoint_key log_lsn (log, n) l))
    behind_held =
        held_append checkpoint_key log_lsn (log, n) (map (checkpoint log) ns) (each checkpoints_of (renumbered log cs) ++ l)
        ∙ ap₂ ◌||◌ (held_listed ns) (held_append checkpoint_key log_lsn (log, n) (each checkpoints_of (renumbered log cs)) l ∙ ap (λ (b : Bool). b || held checkpoint_key log_lsn (log, n) l) (held_later cs))

    -- named again in its list
    pub named_again : any (eqb n) ns ≡ true → 0 ≡ lacks checkpoint_key log_lsn (log, n) behind
    named_again e = sym (ap (λ (b : Bool). cond b 0 1) (behind_held ∙ ap (λ (b : Bool). b || (any (lists n) cs || held checkpoint_key log_lsn (log, n) l)) e))

    module _ (e : any (eqb n) ns ≡ false) where
      -- or by a later commit
      pub named_later : any (lists n) cs ≡ true → 0 ≡ lacks checkpoint_key log_lsn (log, n) behind
      named_later f = sym (ap (λ (b : Bool). cond b 0 1) (behind_held ∙ ap₂ (λ (a b : Bool). a || (b || held checkpoint_key log_lsn (log, n) l)) e f))

      -- else the table decides
      pub table_decides : any (lists n) cs ≡ false → lacks checkpoint_key log_lsn (log, n) l ≡ lacks checkpoint_key log_lsn (log, n) behind
      table_decides f = sym (ap (λ (b : Bool). cond b 0 1) (behind_held ∙ ap₂ (λ (a b : Bool). a || (b || held checkpoint_key log_lsn (log, n) l)) e f))

-- a copy's new checkpoints are counted against those of the copies after it
pub checkpoints_step : (log : Id) (c : Commit) (cs : List Commit) (l : List Checkpoint)
    → news checkpoint_key log_lsn (each checkpoints_of (renumbered log (c ∷ cs))) l
    ≡ news checkpoint_key log_lsn (map (checkpoint log) c.checkpoints) (each checkpoints_of (renumbered log cs) ++ l) + news checkpoint_key log_lsn (each checkpoints_of (renumbered log cs)) l
unfolding each
checkpoints_step log c cs l = news_append checkpoint_key log_lsn (map (checkpoint log) c.checkpoints) (each checkpoints_of (renumbered log cs)) l
