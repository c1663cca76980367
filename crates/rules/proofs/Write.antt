-- What writing a commit keeps. Forms: each new record has its form, so rows in order and in form stay so. The exact index: the entries of a commit
-- are those of its log and LSN and of its pages, so after a write the index lists them and what it listed; where the commit replaces another, every
-- page of that one must be a page of the new one.
use Rattle.std.proofs.Common.{◌≡◌, ℕ, Bool, true, false, ◌&&◌, eqb, leb, List, [], ◌∷◌, length, take, sym, refl, ap, ◌∙◌, take_all, leb-true}
use Prim.Native.Nat.{compare, Ordering}
use mathlib.Core.Option.{Option, none, some}
use mathlib.Core.Bool.{and-true, and-false}
use lib.Dec.{compare_is_eq}
use Rattle.basics.specs.Numbers.{counts, last_lsn}
use Rattle.pageset.specs.Sets.{normal_form}
use Rattle.basics.specs.Orders.{next, bytes, log_lsn, log_page_lsn}
use Rattle.rules.specs.Lists.{any, all, given}
use Rattle.rules.specs.Records.{Id, Segment, Commit, Entry, commit_key, checkpoint_key, entry_key}
use Rattle.rules.specs.Pages.{pages_in}
use Rattle.rules.specs.Forms.{lsn_form, page_form, count_form, id_form, hash_form, segment_form, lists_form, commit_form, checkpoint_form, entry_form}
use Rattle.rules.specs.Tables.{Table, get_commit}
use Rattle.rules.specs.Arguments.{commit_lsns, commit_lists}
use Rattle.rules.specs.Write.{Logs, pages_of, entries_of, checkpoints_of, write, write_all, logs_formed, logs_fit}
use Rattle.rules.specs.Calls.{commit_typed, lsn_typed}
use Rattle.rules.specs.Demand.{commit_holds, holds_at, Exact, NoPageLost}
use Rattle.basics.proofs.OrderLaws.{equal, log_lsn_lawful, log_page_lsn_lawful}
use Rattle.rules.proofs.TableLaws.{cases, clash, and_fst, and_snd, and_both, eq_of, any_map, any_and, all_map, all_weaken, get_put, some_put_all, Rows, rows_put_lem, rows_put_all, formed_rows, rows_formed}
use Rattle.rules.proofs.PageLaws.{pages_holds, pages_form, empty_form}
use Rattle.rules.proofs.Walk.{set_rises}

-- ---- forms

-- the pages of a commit in form are a set in normal form
pub set_form : (c : Commit) → commit_form c ≡ true → normal_form (pages_of c.segment) ≡ true
unfolding commit_form segment_form lists_form
set_form c e = go c.segment (search (and_fst, and_snd))
  where
    go : (o : Option Segment) → given segment_form o ≡ true → normal_form (pages_of o) ≡ true
    go none h = empty_form
    go (some s) h = search (and_fst, and_snd)

-- what it adds to the index and the checkpoints is in form
pub entries_form : (c : Commit) → commit_form c ≡ true → all entry_form (entries_of c) ≡ true
unfolding commit_form entry_form
entries_form c e =
    let i : id_form c.log ≡ true = search (and_fst, and_snd) in
    let l : lsn_form c.lsn ≡ true = search (and_fst, and_snd) in
    all_map entry_form (λ (p : ℕ). record { log = c.log; page = p; lsn = c.lsn }) (pages_in (pages_of c.segment))
    ∙ all_weaken page_form _ (pages_in (pages_of c.segment)) (λ p h. and_both (and_both i h) l) (pages_form (pages_of c.segment) (set_form c e))

pub checkpoints_form : (c : Commit) → commit_form c ≡ true → all checkpoint_form (checkpoints_of c) ≡ true
unfolding commit_form checkpoint_form
checkpoints_form c e =
    let i : id_form c.log ≡ true = search (and_fst, and_snd) in
    all_map checkpoint_form (λ (n : ℕ). record { log = c.log; lsn = n }) c.checkpoints
    ∙ all_weaken lsn_form _ c.checkpoints (λ p h. and_both i h) (search (and_fst, and_snd))

-- the lists of a commit in form are in form
pub form_lists : (c : Commit) → commit_form c ≡ true → commit_lists c ≡ true
unfolding commit_form commit_lists segment_form
form_lists c e =
    let n : leb (length c.checkpoints) 8 ≡ true = search (and_fst, and_snd) in
    and_both (go c.segment (search (and_fst, and_snd))) n
  where
    go : (o : Option Segment) → given segment_form o ≡ true → given lists_form o ≡ true
    go none h = refl
    go (some s) h = search (and_fst, and_snd)

-- the three tables' rows, in order and in form
pub record LogRows (g : Logs) : Type 0 where
  pub commits : Rows commit_key log_lsn log_lsn_lawful commit_form g.commits.rows
  pub checkpoints : Rows checkpoint_key log_lsn log_lsn_lawful checkpoint_form g.checkpoints.rows
  pub index : Rows entry_key log_page_lsn log_page_lsn_lawful entry_form g.index.rows

pub logs_rows : (g : Logs) → logs_formed g ≡ true → LogRows g
unfolding logs_formed
logs_rows g e = record {
  commits = formed_rows commit_key log_lsn log_lsn_lawful commit_form g.commits (search (and_fst, and_snd));
  checkpoints = formed_rows checkpoint_key log_lsn log_lsn_lawful checkpoint_form g.checkpoints (search (and_fst, and_snd));
  index = formed_rows entry_key log_page_lsn log_page_lsn_lawful entry_form g.index (search (and_fst, and_snd));
}

pub rows_logs : (g : Logs) → logs_fit g ≡ true → LogRows g → logs_formed g ≡ true
unfolding logs_formed logs_fit
rows_logs g f k =
    and_both
    (and_both (rows_formed commit_key log_lsn log_lsn_lawful commit_form g.commits (search (and_fst, and_snd)) k.commits)
    (rows_formed checkpoint_key log_lsn log_lsn_lawful checkpoint_form g.checkpoints (search (and_fst, and_snd)) k.checkpoints))
    (rows_formed entry_key log_page_lsn log_page_lsn_lawful entry_form g.index (search (and_fst, and_snd)) k.index)

pub write_rows : (g : Logs) (c : Commit) → commit_form c ≡ true → LogRows g → LogRows (write g c)
unfolding write
write_rows g c h k = record {
  commits = rows_put_lem commit_key log_lsn log_lsn_lawful commit_form c g.commits.rows h k.commits;
  checkpoints = rows_put_all checkpoint_key log_lsn log_lsn_lawful checkpoint_form (checkpoints_of c) g.checkpoints.rows (checkpoints_form c h) k.checkpoints;
  index = rows_put_all entry_key log_page_lsn log_page_lsn_lawful entry_form (entries_of c) g.index.rows (entries_form c h) k.index;
}

pub write_all_rows : (g : Logs) (cs : List Commit) → all commit_form cs ≡ true → LogRows g → LogRows (write_all g cs)
unfolding write_all all
write_all_rows g [] h k = k
write_all_rows g (c ∷ cs) h k = write_all_rows (write g c) cs (and_snd (commit_form c) (all commit_form cs) h) (write_rows g c (and_fst (commit_form c) (all commit_form cs) h) k)

-- a commit argument that passes 1 and 3 has its form
all_both : {A : Type 0} (f g h : A → Bool) (l : List A) → ((x : A) → f x ≡ true → g x ≡ true → h x ≡ true) → all f l ≡ true → all g l ≡ true → all h l ≡ true
unfolding all
all_both f g h [] k p q = refl
all_both f g h (x ∷ l) k p q =
    and_both (k x (and_fst (f x) (all f l) p) (and_fst (g x) (all g l) q)) (all_both f g h l k (and_snd (f x) (all f l) p) (and_snd (g x) (all g l) q))

seg_form : (s : Segment) → id_form s.sid ≡ true → lists_form s ≡ true → segment_form s ≡ true
unfolding segment_form
seg_form s a b = and_both a b

pub written_form : (c : Commit) → commit_typed c ≡ true → commit_lsns c ≡ true → commit_lists c ≡ true → commit_form c ≡ true
unfolding commit_lsns commit_lists commit_form lsn_form
written_form c t one three =
    let n : leb (length c.checkpoints) 8 ≡ true = search (and_fst, and_snd) in
    let k : all counts (take 8 c.checkpoints) ≡ true = search (and_fst, and_snd) in
    let k8 : all counts c.checkpoints ≡ true = rw (take_all 8 c.checkpoints (leb-true (length c.checkpoints) 8 n)) at k in
    let i : id_form c.log ≡ true = search (and_fst, and_snd) in
    let a : counts c.lsn ≡ true = search (and_fst, and_snd) in
    let b : leb c.lsn last_lsn ≡ true = search (and_fst, and_snd) in
    let m : count_form c.count ≡ true = search (and_fst, and_snd) in
    let d : given hash_form c.hash ≡ true = search (and_fst, and_snd) in
    let x : given (λ (s : Segment). id_form s.sid) c.segment ≡ true = search (and_fst, and_snd) in
    let y : given lists_form c.segment ≡ true = search (and_fst, and_snd) in
    let z : all lsn_typed c.checkpoints ≡ true = search (and_fst, and_snd) in
    and_both (and_both (and_both (and_both (and_both (and_both i (and_both a b)) m) d) (seg c.segment x y)) n) (all_both counts lsn_typed lsn_form c.checkpoints (λ x p q. and_both p q) k8 z)
  where
    seg : (o : Option Segment) → given (λ (s : Segment). id_form s.sid) o ≡ true → given lists_form o ≡ true → given segment_form o ≡ true
    seg none a b = refl
    seg (some s) a b = seg_form s a b

-- ---- the exact index

pub parts : (a b c : Ordering) → compare_is_eq (next a (next b c)) ≡ compare_is_eq (next a c) && compare_is_eq b
parts Ordering.lt b c = refl
parts Ordering.eq Ordering.lt c = sym (and-false (compare_is_eq c))
parts Ordering.eq Ordering.eq c = sym (and-true (compare_is_eq c))
parts Ordering.eq Ordering.gt c = sym (and-false (compare_is_eq c))
parts Ordering.gt b c = refl

-- the entries of a commit: of its log and LSN, and of its pages
entries : (c : Commit) (log : Id) (p lsn : ℕ) → set_rises c ≡ true
    → any (λ e. compare_is_eq (log_page_lsn (log, (p, lsn)) (entry_key e))) (entries_of c) ≡ compare_is_eq (log_lsn (log, lsn) (commit_key c)) && commit_holds p c
unfolding commit_holds
entries c log p lsn up =
    let k = compare_is_eq (log_lsn (log, lsn) (commit_key c)) in
    let ps = pages_in (pages_of c.segment) in
    any_map (λ (e : Entry). compare_is_eq (log_page_lsn (log, (p, lsn)) (entry_key e))) (λ (q : ℕ). record { log = c.log; page = q; lsn = c.lsn }) ps
    ∙ any_and k (λ q. eqb p q) (λ q. compare_is_eq (log_page_lsn (log, (p, lsn)) (c.log, (q, c.lsn)))) ps (λ q. parts (bytes log c.log) (compare p q) (compare c.lsn lsn))
    ∙ ap (λ (b : Bool). k && b) (pages_holds 0 (pages_of c.segment) p up)

-- where the commit lacks a page, the one that it replaces lacks it too
abbrev Keeps : Table Commit → Commit → Type 0
Keeps cs c = (p : ℕ) → commit_holds p c ≡ false → holds_at p (get_commit cs c.log c.lsn) ≡ false

exact_keeps : (g : Logs) (c : Commit) → set_rises c ≡ true → Exact g.commits g.index → Keeps g.commits c → Exact (write g c).commits (write g c).index
unfolding write
exact_keeps g c up exact keeps log p lsn =
    rw (
      some_put_all entry_key log_page_lsn log_page_lsn_lawful (log, (p, lsn)) (entries_of c) g.index.rows,
      entries c log p lsn up,
      exact log p lsn,
      get_put commit_key log_lsn log_lsn_lawful (log, lsn) c g.commits.rows,
    )
    (cases (compare_is_eq (log_lsn (log, lsn) (commit_key c)))
    (λ k. let s = log_lsn_lawful.same (log, lsn) (commit_key c) (eq_of (log_lsn (log, lsn) (commit_key c)) k) in
    cases (commit_holds p c) (λ h. rw (k, h)) (λ h. rw (k, h, s) (keeps p h)))
    (λ k. rw k))

-- the commit of its key, once written
own_commit : (g : Logs) (c : Commit) → get_commit (write g c).commits c.log c.lsn ≡ some c
unfolding write
own_commit g c = get_put commit_key log_lsn log_lsn_lawful (commit_key c) c g.commits.rows ∙ rw (equal log_lsn_lawful {a = commit_key c} refl)

-- a write that loses no page keeps the index exact
pub exact_write : (g : Logs) (c : Commit) → set_rises c ≡ true → Exact g.commits g.index → NoPageLost g.commits (write g c).commits → Exact (write g c).commits (write g c).index
exact_write g c up exact lost =
    exact_keeps g c up exact (λ p h.
    cases (holds_at p (get_commit g.commits c.log c.lsn)) (λ k. absurd (clash (ap (holds_at p) (sym (own_commit g c)) ∙ lost c.log p c.lsn k) h)) (λ k. k))

-- a write at a new key keeps the index exact
pub exact_new : (g : Logs) (c : Commit) → set_rises c ≡ true → Exact g.commits g.index → get_commit g.commits c.log c.lsn ≡ none → Exact (write g c).commits (write g c).index
exact_new g c up exact none_there = exact_keeps g c up exact (λ p h. rw none_there)

-- writing again what is stored keeps the index exact
pub exact_again : (g : Logs) (c : Commit) → set_rises c ≡ true → Exact g.commits g.index → get_commit g.commits c.log c.lsn ≡ some c → Exact (write g c).commits (write g c).index
exact_again g c up exact there = exact_keeps g c up exact (λ p h. rw there h)
