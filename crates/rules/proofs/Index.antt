-- Fresh tables have the exact index, and every call keeps it while no stored commit is overwritten by one lacking any of its pages. Save and the
-- copies store at new keys, recover stores again what is stored, and a write or a success that replaces a commit is held to lose no page.
use Rattle.std.proofs.Common.{◌≡◌, ℕ, suc, ◌<◌, ◌≤◌, min, Bool, true, ◌&&◌, eqb, List, [], ◌∷◌, length, sym, refl, ap, ◌∙◌, arith, le-leb}
use Prim.Native.Nat.{Ordering}
use mathlib.Core.Option.{Option, none, some, map}
use lib.Dec.{compare_is_eq}
use Rattle.basics.proofs.OrderLaws.{log_lsn_lawful}
use Rattle.basics.specs.Answers.{Answer, refused, done}
use Rattle.basics.specs.Numbers.{counts}
use Rattle.pageset.specs.Sets.{rising}
use Rattle.rules.specs.Lists.{first, all, given, is_none}
use Rattle.basics.specs.Orders.{bytes, log_lsn, log_page_lsn, sid_page}
use Rattle.rules.specs.Records.{Id, Pages, Segment, Commit, Pending, Volume, Present, Range, Snapshot, LogLsn, commit_key, checkpoint_key, entry_key, present_key, volume_key, tag_key}
use Rattle.rules.specs.Forms.{commit_form, checkpoint_form, entry_form, present_form, volume_form, tag_form, lists_form}
use Rattle.rules.specs.Tables.{Table, fits, formed, in_order, get, store, volumes_formed, get_volume, get_commit, latest, latest_lsn}
use Rattle.rules.specs.Arguments.{snapshot_lsns, snapshot_order, snapshot_form, commit_lsns, commit_lists}
use Rattle.rules.specs.Write.{Logs, pages_of, write, write_all, logs_formed, logs_fit, write_commit}
use Rattle.rules.specs.Open.{Ids}
use Rattle.rules.specs.Save.{saved_commit, save}
use Rattle.rules.specs.Push.{is_hash, same_there, pushed_volume, push, success, leaves, recover_by, recover_pending, recover}
use Rattle.rules.specs.Walk.{path_commits}
use Rattle.rules.specs.Copies.{copy_free, renumbered, new_volume, copied, from_snapshot, from_commit, from_logref}
use Rattle.rules.specs.Calls.{Tables, Change, writing, opening, saving, preparing, succeeding, dropping, recovering, syncing, copying, copying_ref, deleting_volume, marking, unmarking, unmarking_all, deleting_tag, replacing_tag, empty, fresh, well_formed, outcome, does, with_volumes, with_logs, with_presence, with_tags}
use Rattle.rules.specs.Open as O
use Rattle.rules.specs.Push as P
use Rattle.rules.specs.Sync as S
use Rattle.rules.specs.Reads as R
use Rattle.rules.specs.Demand.{Exact, NoPageLost}
use Rattle.rules.proofs.TableLaws.{none_of, cases, options, and_fst, and_snd, and_both, eq_of, get_some, get_put}
use Rattle.rules.proofs.PageLaws.{form_rising}
use Rattle.rules.proofs.AnswerLaws.{done_same, asked, needed, gotten}
use Rattle.rules.proofs.Lookups.{latest_some, latest_none}
use Rattle.rules.proofs.Walk.{set_rises}
use Rattle.rules.proofs.Demand.{set_rises_lem, path_rises, none_rises}
use Rattle.rules.proofs.Write.{logs_rows, exact_write, exact_new, exact_again}
use Rattle.rules.proofs.Kept.{commit_form_lem, next_above, save_done}

empty_formed : {R K : Type 0} (key : R → K) (order : K → K → Ordering) (form : R → Bool) (n : ℕ) → formed key order form (empty n) ≡ true
unfolding formed fits in_order all
empty_formed key order form n = and_both (and_both (le-leb 0 (min n 65535) (omega arith)) refl) refl

-- T2: fresh tables are well formed and have the exact index
pub fresh_formed : (v c k e p g : ℕ) → well_formed (fresh v c k e p g) ≡ true
unfolding well_formed logs_formed
fresh_formed v c k e p g =
    and_both (and_both (and_both (empty_formed volume_key bytes volume_form v) (and_both (and_both (empty_formed commit_key log_lsn commit_form c) (empty_formed checkpoint_key log_lsn checkpoint_form k)) (empty_formed entry_key log_page_lsn entry_form e)))
    (empty_formed present_key sid_page present_form p)) (empty_formed tag_key bytes tag_form g)

pub fresh_exact : (v c k e p g : ℕ) → Exact (fresh v c k e p g).logs.commits (fresh v c k e p g).logs.index
unfolding get first
fresh_exact v c k e p g log page lsn = refl

-- the sets of a commit argument that passes 3 rise
lists_rise : (c : Commit) → commit_lists c ≡ true → set_rises c ≡ true
unfolding commit_lists lists_form
lists_rise c e = go c.segment (search (and_fst, and_snd))
  where
    go : (o : Option Segment) → given lists_form o ≡ true → rising 0 (pages_of o) ≡ true
    go none h = none_rises
    go (some s) h = form_rising s.pages (search (and_fst, and_snd))

-- ---- new keys

-- a log with no commit has none at any LSN
none_at : (cs : Table Commit) (log : Id) (lsn : ℕ) → latest cs log ≡ none → get_commit cs log lsn ≡ none
none_at cs log lsn e =
    options (get_commit cs log lsn) (λ q. q)
    (λ c q. let s = get_some commit_key log_lsn log_lsn_lawful (log, lsn) cs.rows q in absurd (latest_none cs log e c s.0 (λ i. (s.1 i).0)))

-- nor is there one above the latest
none_above : (cs : Table Commit) (log : Id) (lsn : ℕ) → in_order commit_key log_lsn cs.rows ≡ true → ((m : ℕ) → latest_lsn cs log ≡ some m → m < lsn) → get_commit cs log lsn ≡ none
none_above cs log lsn up h =
    options (get_commit cs log lsn) (λ q. q)
    (λ c q. let s = get_some commit_key log_lsn log_lsn_lawful (log, lsn) cs.rows q in
    let u : lsn ≡ c.lsn = λ i. (s.1 i).1 in
    options (latest cs log) (λ n. absurd (latest_none cs log n c s.0 (λ i. (s.1 i).0)))
    (λ d n. let k = latest_some cs log d up n in
    absurd (omega (arith, k.highest c s.0 (λ i. (s.1 i).0), h d.lsn (ap (map (λ (x : Commit). x.lsn)) n)))))

-- another LSN has what it had
other_lsn : (g : Logs) (c : Commit) (lsn : ℕ) → (lsn ≡ c.lsn → ⊥) → get_commit (write g c).commits c.log lsn ≡ get_commit g.commits c.log lsn
unfolding write
other_lsn g c lsn d =
    get_put commit_key log_lsn log_lsn_lawful (c.log, lsn) c g.commits.rows
    ∙ cases (compare_is_eq (log_lsn (c.log, lsn) (commit_key c)))
    (λ q. absurd (d (λ i. (log_lsn_lawful.same (c.log, lsn) (commit_key c) (eq_of (log_lsn (c.log, lsn) (commit_key c)) q) i).1)))
    (λ q. rw q)

abbrev renamed : Id → ℕ → Commit → Commit
renamed log lsn c = record { log = log; lsn = lsn; count = c.count; hash = c.hash; segment = c.segment; checkpoints = c.checkpoints }

copies_exact : (g : Logs) (log : Id) (cs : List Commit) → all set_rises cs ≡ true → ((n : ℕ) → n ≤ length cs → get_commit g.commits log n ≡ none) → Exact g.commits g.index
    → Exact (write_all g (renumbered log cs)).commits (write_all g (renumbered log cs)).index
unfolding write_all all
copies_exact g log [] up free exact = exact
copies_exact g log (c ∷ cs) up free exact =
    let d = renamed log (suc (length cs)) c in
    copies_exact (write g d) log cs (and_snd (set_rises c) (all set_rises cs) up)
    (λ n h. other_lsn g d n (λ q. omega arith) ∙ free n (omega arith))
    (exact_new g d (and_fst (set_rises c) (all set_rises cs) up) exact (free (suc (length cs)) (omega arith)))

-- ---- call by call

abbrev ExactLogs : Logs → Type 0
ExactLogs g = Exact g.commits g.index

write_exact : (g g' : Logs) (c : Commit) → write_commit g c ≡ done g' → ExactLogs g → NoPageLost g.commits g'.commits → ExactLogs g'
unfolding write_commit
write_exact g g' c e exact lost =
    asked (logs_formed g) 20 _ e λ f e1.
    asked (commit_lsns c) 1 _ e1 λ one e2.
    asked (commit_lists c) 3 _ e2 λ three e3.
    asked (logs_fit (write g c)) 19 _ e3 λ room e4.
    go (done_same e4) three
  where
    go : write g c ≡ g' → commit_lists c ≡ true → ExactLogs g'
    go s three = rw (← s) (exact_write g c (lists_rise c three) exact (rw (← s) at lost))

pub save_exact : (vs : Table Volume) (g : Logs) (ps : Table Present) (vid : Id) (s : Snapshot) (count : ℕ) (sid : Id) (pages : Pages) (r : Snapshot × Logs × Table Present)
    → save vs g ps vid s count sid pages ≡ done r → ExactLogs g → ExactLogs r.1
save_exact vs g ps vid s count sid pages r e exact =
    let x = save_done vs g ps vid s count sid pages r e in
    let v = x.volume in
    let c = saved_commit v x.lsn count sid pages in
    rw (← x.result)
    (exact_new g c (form_rising pages x.set) exact
    (none_above g.commits v.local x.lsn (logs_rows g x.logs).commits.up (next_above (latest_lsn g.commits v.local) x.lsn x.next).1))

push_exact : (vs : Table Volume) (g : Logs) (v : Volume) (p : Pending) (c : Commit) (r : Table Volume × Logs) → push vs g v p c ≡ done r → (ExactLogs (write g c) → ExactLogs r.1)
push_exact vs g v p c r e h = asked (fits (store volume_key bytes (pushed_volume v p) vs) && logs_fit (write g c)) 19 _ e λ room e1. rw (← done_same e1) h

pushed_logs : (vs : Table Volume) (g : Logs) (v : Volume) (p : Pending) (c : Commit) (r : Table Volume × Logs) → push vs g v p c ≡ done r → write g c ≡ r.1
pushed_logs vs g v p c r e = asked (fits (store volume_key bytes (pushed_volume v p) vs) && logs_fit (write g c)) 19 _ e λ room e1. (λ i. (done_same e1 i).1)

success_exact : (vs : Table Volume) (g : Logs) (vid : Id) (c : Commit) (r : Table Volume × Logs) → success vs g vid c ≡ done r → ExactLogs g → NoPageLost g.commits r.1.commits → ExactLogs r.1
unfolding success
success_exact vs g vid c r e exact lost =
    asked (volumes_formed vs && logs_formed g) 20 _ e λ f e1.
    asked (commit_lsns c) 1 _ e1 λ one e2.
    asked (commit_lists c) 3 _ e2 λ three e3.
    needed (get_volume vs vid) 4 _ e3 λ v is e4.
    needed v.pending 10 _ e4 λ p pe e5.
    asked (eqb c.lsn p.commit && is_hash c.hash p.hash) 14 _ e5 λ fourteen e6.
    asked (same_there (get_commit g.commits c.log c.lsn) p.hash) 15 _ e6 λ fifteen e7.
    go (pushed_logs vs g v p c r e7) three
  where
    go : write g c ≡ r.1 → commit_lists c ≡ true → ExactLogs r.1
    go s three = rw (← s) (exact_write g c (lists_rise c three) exact (rw (← s) at lost))

leaves_exact : (vs : Table Volume) (g : Logs) (a : Answer (Table Volume × Logs)) → ExactLogs g → ((r : Table Volume × Logs) → a ≡ done r → ExactLogs r.1) → ExactLogs (leaves vs g a).2
leaves_exact vs g (refused n) b h = b
leaves_exact vs g (done r) b h = h r refl

-- the commit of a key has that key
keyed : (g : Logs) (log : Id) (lsn : ℕ) (c : Commit) → get_commit g.commits log lsn ≡ some c → get_commit g.commits c.log c.lsn ≡ some c
keyed g log lsn c q = ap (λ (k : LogLsn). get commit_key log_lsn k g.commits.rows) (sym (get_some commit_key log_lsn log_lsn_lawful (log, lsn) g.commits.rows q).1) ∙ q

recover_by_exact : (vs : Table Volume) (g : Logs) (v : Volume) (p : Pending) (o : Option Commit) → ExactLogs g
    → ((c : Commit) → o ≡ some c → (set_rises c ≡ true) × (get_commit g.commits c.log c.lsn ≡ some c)) → ExactLogs (recover_by vs g v p o).2
recover_by_exact vs g v p none exact h = exact
recover_by_exact vs g v p (some c) exact h =
    cases (is_hash c.hash p.hash)
    (λ q. rw q (leaves_exact vs g (push vs g v p c) exact (λ r e. push_exact vs g v p c r e (exact_again g c (h c refl).0 exact (h c refl).1))))
    (λ q. rw q exact)

recover_pending_exact : (vs : Table Volume) (g : Logs) (v : Volume) (o : Option Pending) → logs_formed g ≡ true → ExactLogs g → ExactLogs (recover_pending vs g v o).2
recover_pending_exact vs g v none f exact = exact
recover_pending_exact vs g v (some p) f exact =
    recover_by_exact vs g v p (get_commit g.commits v.remote p.commit) exact
    (λ c q. (set_rises_lem c (commit_form_lem g.commits v.remote p.commit c (logs_rows g f).commits q), keyed g v.remote p.commit c q))

recover_exact : (vs : Table Volume) (g : Logs) (vid : Id) → ExactLogs g → ExactLogs (recover vs g vid).2
unfolding recover
recover_exact vs g vid exact =
    cases (volumes_formed vs && logs_formed g)
    (λ f. rw f (options (get_volume vs vid) (λ q. rw q exact) (λ v is. rw is (recover_pending_exact vs g v v.pending (and_snd (volumes_formed vs) (logs_formed g) f) exact))))
    (λ f. rw f exact)

copied_exact : (vs : Table Volume) (g : Logs) (path : List Range) (x : Ids) (r : Volume × Table Volume × Logs) → logs_formed g ≡ true → copied vs g path x ≡ done r → ExactLogs g → ExactLogs r.2
unfolding copy_free
copied_exact vs g path x r f e exact =
    let cs = path_commits g.commits path in
    asked (copy_free vs g.commits x) 5 _ e λ free e1.
    asked (fits (store volume_key bytes (new_volume x) vs) && logs_fit (write_all g (renumbered x.local cs))) 19 _ e1 λ room e2.
    let n : is_none (latest g.commits x.local) ≡ true = search (and_fst, and_snd) in
    rw (← done_same e2)
    (copies_exact g x.local cs (path_rises g.commits path (logs_rows g f).commits.forms) (λ k h. none_at g.commits x.local k (none_of (latest g.commits x.local) n)) exact)

from_snapshot_exact : (vs : Table Volume) (g : Logs) (s : Snapshot) (x : Ids) (r : Volume × Table Volume × Logs) → from_snapshot vs g s x ≡ done r → ExactLogs g → ExactLogs r.2
unfolding from_snapshot
from_snapshot_exact vs g s x r e exact =
    asked (volumes_formed vs && logs_formed g) 20 _ e λ f e1.
    asked (snapshot_lsns s) 1 _ e1 λ one e2.
    asked (snapshot_order s) 2 _ e2 λ two e3.
    asked (snapshot_form s) 3 _ e3 λ three e4.
    copied_exact vs g s.path x r (and_snd (volumes_formed vs) (logs_formed g) f) e4 exact

from_commit_exact : (vs : Table Volume) (g : Logs) (log : Id) (lsn : ℕ) (x : Ids) (o : Option Commit) (r : Option Volume × Table Volume × Logs) → logs_formed g ≡ true
    → from_commit vs g log lsn x o ≡ done r → ExactLogs g → ExactLogs r.2
from_commit_exact vs g log lsn x none r f e exact = rw (← done_same e) exact
from_commit_exact vs g log lsn x (some c) r f e exact =
    gotten (copied vs g (record { log = log; start = 1; end = lsn } ∷ []) x) _ e λ q k e1.
    rw (← done_same e1) (copied_exact vs g (record { log = log; start = 1; end = lsn } ∷ []) x q f k exact)

from_logref_exact : (vs : Table Volume) (g : Logs) (log : Id) (lsn : ℕ) (x : Ids) (r : Option Volume × Table Volume × Logs) → from_logref vs g log lsn x ≡ done r → ExactLogs g → ExactLogs r.2
unfolding from_logref
from_logref_exact vs g log lsn x r e exact =
    asked (volumes_formed vs && logs_formed g) 20 _ e λ f e1.
    asked (counts lsn) 1 _ e1 λ one e2.
    from_commit_exact vs g log lsn x (get_commit g.commits log lsn) r (and_snd (volumes_formed vs) (logs_formed g) f) e2 exact

-- ---- all of them

outcome_exact : {A : Type 0} (t : Tables) (a : Answer A) (f : A → Tables) → ExactLogs t.logs → NoPageLost t.logs.commits (outcome t a f).1.logs.commits
    → ((x : A) → a ≡ done x → NoPageLost t.logs.commits (f x).logs.commits → ExactLogs (f x).logs) → ExactLogs (outcome t a f).1.logs
outcome_exact t (refused n) f exact lost h = exact
outcome_exact t (done x) f exact lost h = h x refl lost

-- T2: every call keeps the exact index while no stored commit is overwritten by one lacking any of its pages
pub exact_kept : (t : Tables) (c : Change) → Exact t.logs.commits t.logs.index → NoPageLost t.logs.commits (does t c).1.logs.commits
    → Exact (does t c).1.logs.commits (does t c).1.logs.index
unfolding does
exact_kept t (writing c) exact lost = outcome_exact t (write_commit t.logs c) (with_logs t) exact lost (λ g e l. write_exact t.logs g c e exact l)
exact_kept t (opening a x) exact lost = outcome_exact t (O.open_volume t.volumes t.logs.commits a x) (λ r. with_volumes t r.1) exact lost (λ r e l. exact)
exact_kept t (saving vid s count sid pages) exact lost =
    outcome_exact t (save t.volumes t.logs t.presence vid s count sid pages) (λ r. with_presence (with_logs t r.1) r.2) exact lost
    (λ r e l. save_exact t.volumes t.logs t.presence vid s count sid pages r e exact)
exact_kept t (preparing vid p) exact lost = outcome_exact t (P.prepare t.volumes t.logs.commits vid p) (with_volumes t) exact lost (λ r e l. exact)
exact_kept t (succeeding vid c) exact lost =
    outcome_exact t (success t.volumes t.logs vid c) (λ r. with_logs (with_volumes t r.0) r.1) exact lost (λ r e l. success_exact t.volumes t.logs vid c r e exact l)
exact_kept t (dropping vid) exact lost = outcome_exact t (P.drop_pending t.volumes vid) (with_volumes t) exact lost (λ r e l. exact)
exact_kept t (recovering vid) exact lost = recover_exact t.volumes t.logs vid exact
exact_kept t (syncing vid) exact lost = outcome_exact t (S.sync t.volumes t.logs.commits vid) (with_volumes t) exact lost (λ r e l. exact)
exact_kept t (copying s x) exact lost =
    outcome_exact t (from_snapshot t.volumes t.logs s x) (λ r. with_logs (with_volumes t r.1) r.2) exact lost (λ r e l. from_snapshot_exact t.volumes t.logs s x r e exact)
exact_kept t (copying_ref log lsn x) exact lost =
    outcome_exact t (from_logref t.volumes t.logs log lsn x) (λ r. with_logs (with_volumes t r.1) r.2) exact lost (λ r e l. from_logref_exact t.volumes t.logs log lsn x r e exact)
exact_kept t (deleting_volume vid) exact lost = outcome_exact t (R.volume_delete t.volumes vid) (with_volumes t) exact lost (λ r e l. exact)
exact_kept t (marking sid page) exact lost = outcome_exact t (R.page_mark t.presence sid page) (with_presence t) exact lost (λ r e l. exact)
exact_kept t (unmarking sid page) exact lost = outcome_exact t (R.page_remove t.presence sid page) (with_presence t) exact lost (λ r e l. exact)
exact_kept t (unmarking_all sid a b) exact lost = outcome_exact t (R.pages_remove t.presence sid a b) (with_presence t) exact lost (λ r e l. exact)
exact_kept t (deleting_tag name) exact lost = outcome_exact t (R.tag_delete t.tags name) (with_tags t) exact lost (λ r e l. exact)
exact_kept t (replacing_tag name vid) exact lost = outcome_exact t (R.tag_replace t.tags name vid) (λ r. with_tags t r.1) exact lost (λ r e l. exact)
