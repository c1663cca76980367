-- What the calls do to commits, index and checkpoints. After any call the three tables are those before with a list of commits written, each at a key that the
-- call names; writing removes nothing, and leaves every commit of another key as it was.
use Rattle.std.proofs.Common.{◌≡◌, ℕ, suc, ◌+◌, ◌≤◌, Bool, true, false, ◌&&◌, eqb, ltb, ◌⊎◌, List, [], ◌∷◌, length, sym, refl, ap, ◌∙◌, inl, inr, ⊎_elim, arith, lt-ltb, eq-eqb, le-leb}
use Prim.Native.Nat.{compare}
use mathlib.Core.Option.{Option, none, some}
use lib.Dec.{compare_is_eq}
use Rattle.basics.specs.Answers.{Answer, refused, done}
use Rattle.basics.specs.Numbers.{counts, last_lsn}
use Rattle.basics.specs.Orders.{bytes, next, log_lsn, log_page_lsn}
use Rattle.rules.specs.Lists.{any, all, is_some}
use Rattle.rules.specs.Records.{Id, Commit, Pending, Volume, Entry, Range, Snapshot, LogLsn, LogPageLsn, commit_key, checkpoint_key, entry_key, volume_key}
use Rattle.rules.specs.Pages.{pages_in}
use Rattle.rules.specs.Tables.{Table, fits, get, put, store, get_volume, get_commit, latest_lsn, volumes_formed}
use Rattle.rules.specs.Arguments.{snapshot_lsns, snapshot_order, snapshot_form, commit_lsns, commit_lists}
use Rattle.rules.specs.Write.{Logs, pages_of, checkpoints_of, entries_of, write, write_all, logs_formed, logs_fit, write_commit}
use Rattle.rules.specs.Open.{Ids, open_volume}
use Rattle.rules.specs.Save.{lsn_after, saved_commit, save}
use Rattle.rules.specs.Push.{is_before, is_hash, same_there, pushed_volume, push, prepare, success, drop_pending, leaves, recover_by, recover_pending, recover}
use Rattle.rules.specs.Sync.{sync}
use Rattle.rules.specs.Walk.{path_commits}
use Rattle.rules.specs.Copies.{copy_free, renumbered, new_volume, copied, from_snapshot, from_commit, from_logref}
use Rattle.rules.specs.Reads.{volume_delete, page_mark, page_remove, pages_remove, tag_delete, tag_replace}
use Rattle.rules.specs.Calls.{Tables, Change, writing, opening, saving, preparing, succeeding, dropping, recovering, syncing, copying, copying_ref, deleting_volume, marking, unmarking, unmarking_all, deleting_tag, replacing_tag, outcome, does, with_volumes, with_logs, with_presence, with_tags}
use Rattle.rules.specs.Demand.{listed}
use Rattle.rules.specs.Named.{saves_at, pending_at, recovers_at, copies_at, stores_at}
use Rattle.basics.proofs.OrderLaws.{equal, log_lsn_lawful, log_page_lsn_lawful}
use Rattle.rules.proofs.TableLaws.{cases, options, clash, and_fst, and_snd, and_both, or_none, eq_of, any_map, any_and, get_some, get_put, some_put_all, held_put_all}
use Rattle.rules.proofs.Facts.{id_same}
use Rattle.rules.proofs.AnswerLaws.{done_same, asked, needed, gotten}
use Rattle.rules.proofs.Write.{parts}
use Rattle.rules.proofs.Kept.{save_done}

-- ---- writing several commits

abbrev key_in : LogLsn → List Commit → Bool
key_in k cs = any (λ c. compare_is_eq (log_lsn k (commit_key c))) cs

write_get : (g : Logs) (cs : List Commit) (k : LogLsn) → key_in k cs ≡ false → get commit_key log_lsn k (write_all g cs).commits.rows ≡ get commit_key log_lsn k g.commits.rows
unfolding write_all write any
write_get g [] k h = refl
write_get g (c ∷ cs) k h =
    let n = or_none (compare_is_eq (log_lsn k (commit_key c))) (key_in k cs) h in
    write_get (write g c) cs k n.1 ∙ get_put commit_key log_lsn log_lsn_lawful k c g.commits.rows ∙ rw n.0

put_held : (k : LogLsn) (c : Commit) (l : List Commit) → is_some (get commit_key log_lsn k l) ≡ true → is_some (get commit_key log_lsn k (put commit_key log_lsn c l)) ≡ true
put_held k c l h = rw (get_put commit_key log_lsn log_lsn_lawful k c l) (cases (compare_is_eq (log_lsn k (commit_key c))) (λ q. rw q) (λ q. rw q h))

write_held : (g : Logs) (cs : List Commit) (k : LogLsn) → is_some (get commit_key log_lsn k g.commits.rows) ≡ true → is_some (get commit_key log_lsn k (write_all g cs).commits.rows) ≡ true
unfolding write_all write
write_held g [] k h = h
write_held g (c ∷ cs) k h = write_held (write g c) cs k (put_held k c g.commits.rows h)

write_listed : (g : Logs) (cs : List Commit) (k : LogPageLsn) → is_some (get entry_key log_page_lsn k g.index.rows) ≡ true → is_some (get entry_key log_page_lsn k (write_all g cs).index.rows) ≡ true
unfolding write_all write
write_listed g [] k h = h
write_listed g (c ∷ cs) k h = write_listed (write g c) cs k (held_put_all entry_key log_page_lsn log_page_lsn_lawful k (entries_of c) g.index.rows h)

write_checkpoint : (g : Logs) (cs : List Commit) (k : LogLsn) → is_some (get checkpoint_key log_lsn k g.checkpoints.rows) ≡ true → is_some (get checkpoint_key log_lsn k (write_all g cs).checkpoints.rows) ≡ true
unfolding write_all write
write_checkpoint g [] k h = h
write_checkpoint g (c ∷ cs) k h = write_checkpoint (write g c) cs k (held_put_all checkpoint_key log_lsn log_lsn_lawful k (checkpoints_of c) g.checkpoints.rows h)

-- an entry of a commit is of its key
entry_key_lem : (c : Commit) (log : Id) (p lsn : ℕ) → any (λ e. compare_is_eq (log_page_lsn (log, (p, lsn)) (entry_key e))) (entries_of c) ≡ true → compare_is_eq (log_lsn (log, lsn) (commit_key c)) ≡ true
entry_key_lem c log p lsn h =
    let k = compare_is_eq (log_lsn (log, lsn) (commit_key c)) in
    let ps = pages_in (pages_of c.segment) in
    let e = any_map (λ (e : Entry). compare_is_eq (log_page_lsn (log, (p, lsn)) (entry_key e))) (λ (q : ℕ). record { log = c.log; page = q; lsn = c.lsn }) ps
    ∙ any_and k (λ q. eqb p q) (λ q. compare_is_eq (log_page_lsn (log, (p, lsn)) (c.log, (q, c.lsn)))) ps (λ q. parts (bytes log c.log) (compare p q) (compare c.lsn lsn)) in
    and_fst k (any (λ q. eqb p q) ps) (sym e ∙ h)

write_new : (g : Logs) (cs : List Commit) (log : Id) (p lsn : ℕ) → key_in (log, lsn) cs ≡ false
    → is_some (get entry_key log_page_lsn (log, (p, lsn)) (write_all g cs).index.rows) ≡ is_some (get entry_key log_page_lsn (log, (p, lsn)) g.index.rows)
unfolding write_all write any
write_new g [] log p lsn h = refl
write_new g (c ∷ cs) log p lsn h =
    let n = or_none (compare_is_eq (log_lsn (log, lsn) (commit_key c))) (key_in (log, lsn) cs) h in
    write_new (write g c) cs log p lsn n.1
    ∙ some_put_all entry_key log_page_lsn log_page_lsn_lawful (log, (p, lsn)) (entries_of c) g.index.rows
    ∙ cases (any (λ e. compare_is_eq (log_page_lsn (log, (p, lsn)) (entry_key e))) (entries_of c)) (λ q. absurd (clash (entry_key_lem c log p lsn q) n.0)) (λ q. rw q)

-- ---- every call writes a list of commits, each at a key that it names

record LogsStep (t : Tables) (c : Change) (g : Logs) : Type 0 where
  stored : List Commit
  logs : g ≡ write_all t.logs stored
  named : all (λ d. stores_at t c (commit_key d)) stored ≡ true

nothing_stored : (t : Tables) (c : Change) → LogsStep t c t.logs
unfolding write_all all
nothing_stored t c = record { stored = []; logs = refl; named = refl }

same_logs : (t : Tables) (c : Change) (g : Logs) → g ≡ t.logs → LogsStep t c g
unfolding write_all all
same_logs t c g e = record { stored = []; logs = e; named = refl }

one_stored : (t : Tables) (c : Change) (d : Commit) (g : Logs) → write t.logs d ≡ g → stores_at t c (commit_key d) ≡ true → LogsStep t c g
unfolding write_all all
one_stored t c d g e h = record { stored = d ∷ []; logs = sym e; named = and_both h refl }

outcome_step : {A : Type 0} (t : Tables) (c : Change) (a : Answer A) (f : A → Tables) → ((x : A) → a ≡ done x → LogsStep t c (f x).logs) → LogsStep t c (outcome t a f).1.logs
outcome_step t c (refused n) f h = nothing_stored t c
outcome_step t c (done x) f h = h x refl

own_key : (c : Commit) → compare_is_eq (log_lsn (commit_key c) (commit_key c)) ≡ true
own_key c = ap compare_is_eq (log_lsn_lawful.self (commit_key c))

write_done : (g g' : Logs) (c : Commit) → write_commit g c ≡ done g' → write g c ≡ g'
unfolding write_commit
write_done g g' c e =
    asked (logs_formed g) 20 _ e λ f e1.
    asked (commit_lsns c) 1 _ e1 λ one e2.
    asked (commit_lists c) 3 _ e2 λ three e3.
    asked (logs_fit (write g c)) 19 _ e3 λ room e4.
    done_same e4

next_is : (o : Option ℕ) (n : ℕ) → lsn_after o ≡ done n → is_before o n ≡ true
unfolding lsn_after
next_is none n e = eq-eqb n 1 (sym (done_same e))
next_is (some m) n e = asked (ltb m last_lsn) 18 _ e λ q e1. eq-eqb (m + 1) n (done_same e1)

pub push_done : (vs : Table Volume) (g : Logs) (v : Volume) (p : Pending) (c : Commit) (r : Table Volume × Logs) → push vs g v p c ≡ done r
    → ◌≡◌ {A = Table Volume × Logs} (store volume_key bytes (pushed_volume v p) vs, write g c) r
push_done vs g v p c r e = asked (fits (store volume_key bytes (pushed_volume v p) vs) && logs_fit (write g c)) 19 _ e λ room e1. done_same e1

pub success_done : {P : Type 0} (vs : Table Volume) (g : Logs) (vid : Id) (c : Commit) (r : Table Volume × Logs) → success vs g vid c ≡ done r
    → ((v : Volume) (p : Pending) → get_volume vs vid ≡ some v → v.pending ≡ some p → ◌≡◌ {A = Table Volume × Logs} (store volume_key bytes (pushed_volume v p) vs, write g c) r → P) → P
unfolding success
success_done vs g vid c r e k =
    asked (volumes_formed vs && logs_formed g) 20 _ e λ f e1.
    asked (commit_lsns c) 1 _ e1 λ one e2.
    asked (commit_lists c) 3 _ e2 λ three e3.
    needed (get_volume vs vid) 4 _ e3 λ v is e4.
    needed v.pending 10 _ e4 λ p pe e5.
    asked (eqb c.lsn p.commit && is_hash c.hash p.hash) 14 _ e5 λ fourteen e6.
    asked (same_there (get_commit g.commits c.log c.lsn) p.hash) 15 _ e6 λ fifteen e7.
    k v p is pe (push_done vs g v p c r e7)

leaves_step : (t : Tables) (c : Change) (v : Volume) (p : Pending) (d : Commit) → stores_at t c (commit_key d) ≡ true → LogsStep t c (leaves t.volumes t.logs (push t.volumes t.logs v p d)).2
leaves_step t c v p d h = by (push t.volumes t.logs v p d) refl
  where
    by : (a : Answer (Table Volume × Logs)) → push t.volumes t.logs v p d ≡ a → LogsStep t c (leaves t.volumes t.logs a).2
    by (refused n) e = nothing_stored t c
    by (done r) e = one_stored t c d r.1 (λ i. (push_done t.volumes t.logs v p d r e i).1) h

recover_step : (t : Tables) (vid : Id) → LogsStep t (recovering vid) (recover t.volumes t.logs vid).2
unfolding recover stores_at
recover_step t vid =
    cases (volumes_formed t.volumes && logs_formed t.logs)
    (λ f. rw f (options (get_volume t.volumes vid) (λ q. rw q (nothing_stored t (recovering vid))) (λ v is. rw is (by v is v.pending refl))))
    (λ f. rw f (nothing_stored t (recovering vid)))
  where
    found : (v : Volume) → get_volume t.volumes vid ≡ some v → (p : Pending) → v.pending ≡ some p → (d : Commit) → get_commit t.logs.commits v.remote p.commit ≡ some d
        → recovers_at (get_volume t.volumes vid) (commit_key d) ≡ true
    found v is p pe d q =
        let s = (get_some commit_key log_lsn log_lsn_lawful (v.remote, p.commit) t.logs.commits.rows q).1 in
        ap (λ (o : Option Volume). recovers_at o (commit_key d)) is ∙ ap (λ (o : Option Pending). pending_at v.remote o (commit_key d)) pe ∙ ap compare_is_eq (equal log_lsn_lawful (sym s))

    by_commit : (v : Volume) → get_volume t.volumes vid ≡ some v → (p : Pending) → v.pending ≡ some p → (o : Option Commit) → get_commit t.logs.commits v.remote p.commit ≡ o
        → LogsStep t (recovering vid) (recover_by t.volumes t.logs v p o).2
    by_commit v is p pe none q = nothing_stored t (recovering vid)
    by_commit v is p pe (some d) q =
        cases (is_hash d.hash p.hash) (λ h. rw h (leaves_step t (recovering vid) v p d (found v is p pe d q))) (λ h. rw h (nothing_stored t (recovering vid)))

    by : (v : Volume) → get_volume t.volumes vid ≡ some v → (o : Option Pending) → v.pending ≡ o → LogsStep t (recovering vid) (recover_pending t.volumes t.logs v o).2
    by v is none pe = nothing_stored t (recovering vid)
    by v is (some p) pe = by_commit v is p pe (get_commit t.logs.commits v.remote p.commit) refl

-- the new LSNs of a copy are 1 to N
renumbered_at : (log : Id) (n : ℕ) (cs : List Commit) → length cs ≤ n → all (λ d. copies_at log n (commit_key d)) (renumbered log cs) ≡ true
unfolding all
renumbered_at log n [] h = refl
renumbered_at log n (c ∷ cs) h =
    and_both (and_both (and_both (id_same log log refl) (lt-ltb 0 (suc (length cs)) (omega arith))) (le-leb (suc (length cs)) n h)) (renumbered_at log n cs (omega arith))

pub copied_done : (vs : Table Volume) (g : Logs) (path : List Range) (x : Ids) (r : Volume × Table Volume × Logs) → copied vs g path x ≡ done r
    → (copy_free vs g.commits x ≡ true) × (◌≡◌ {A = Volume × Table Volume × Logs} (new_volume x, store volume_key bytes (new_volume x) vs, write_all g (renumbered x.local (path_commits g.commits path))) r)
copied_done vs g path x r e =
    asked (copy_free vs g.commits x) 5 _ e λ free e1.
    asked (fits (store volume_key bytes (new_volume x) vs) && logs_fit (write_all g (renumbered x.local (path_commits g.commits path)))) 19 _ e1 λ room e2.
    (free, done_same e2)

pub from_snapshot_done : (vs : Table Volume) (g : Logs) (s : Snapshot) (x : Ids) (r : Volume × Table Volume × Logs) → from_snapshot vs g s x ≡ done r → copied vs g s.path x ≡ done r
unfolding from_snapshot
from_snapshot_done vs g s x r e =
    asked (volumes_formed vs && logs_formed g) 20 _ e λ f e1.
    asked (snapshot_lsns s) 1 _ e1 λ one e2.
    asked (snapshot_order s) 2 _ e2 λ two e3.
    asked (snapshot_form s) 3 _ e3 λ three e4.
    e4

pub from_logref_done : (vs : Table Volume) (g : Logs) (log : Id) (lsn : ℕ) (x : Ids) (r : Option Volume × Table Volume × Logs) → from_logref vs g log lsn x ≡ done r
    → ((r.1 ≡ vs) × (r.2 ≡ g)) ⊎ ((q : Volume × Table Volume × Logs) × (copied vs g (record { log = log; start = 1; end = lsn } ∷ []) x ≡ done q) × (r.1 ≡ q.1) × (r.2 ≡ q.2))
unfolding from_logref
from_logref_done vs g log lsn x r e =
    asked (volumes_formed vs && logs_formed g) 20 _ e λ f e1.
    asked (counts lsn) 1 _ e1 λ one e2.
    by (get_commit g.commits log lsn) e2
  where
    by : (o : Option Commit) → from_commit vs g log lsn x o ≡ done r
        → ((r.1 ≡ vs) × (r.2 ≡ g)) ⊎ ((q : Volume × Table Volume × Logs) × (copied vs g (record { log = log; start = 1; end = lsn } ∷ []) x ≡ done q) × (r.1 ≡ q.1) × (r.2 ≡ q.2))
    by none z = let s = done_same z in inl (λ i. (sym s i).1, λ i. (sym s i).2)
    by (some c) z =
        gotten (copied vs g (record { log = log; start = 1; end = lsn } ∷ []) x) _ z λ q k z1.
        let s = done_same z1 in inr (q, k, λ i. (sym s i).1, λ i. (sym s i).2)

logs_step : (t : Tables) (c : Change) → LogsStep t c (does t c).1.logs
unfolding does stores_at
logs_step t (writing c) = outcome_step t (writing c) (write_commit t.logs c) (with_logs t) (λ g e. one_stored t (writing c) c g (write_done t.logs g c e) (own_key c))
logs_step t (opening a x) = outcome_step t (opening a x) (open_volume t.volumes t.logs.commits a x) (λ r. with_volumes t r.1) (λ r e. nothing_stored t (opening a x))
logs_step t (saving vid s count sid pages) =
    let c = saving vid s count sid pages in
    outcome_step t c (save t.volumes t.logs t.presence vid s count sid pages) (λ r. with_presence (with_logs t r.1) r.2)
    (λ r e. let x = save_done t.volumes t.logs t.presence vid s count sid pages r e in
    let v = x.volume in
    one_stored t c (saved_commit v x.lsn count sid pages) r.1 (λ i. (x.result i).1)
    (ap (λ (o : Option Volume). saves_at t.logs.commits o (v.local, x.lsn)) x.is ∙ and_both (id_same v.local v.local refl) (next_is (latest_lsn t.logs.commits v.local) x.lsn x.next)))
logs_step t (preparing vid p) = outcome_step t (preparing vid p) (prepare t.volumes t.logs.commits vid p) (with_volumes t) (λ r e. nothing_stored t (preparing vid p))
logs_step t (succeeding vid c) =
    outcome_step t (succeeding vid c) (success t.volumes t.logs vid c) (λ r. with_logs (with_volumes t r.0) r.1)
    (λ r e. success_done t.volumes t.logs vid c r e (λ v p is pe q. one_stored t (succeeding vid c) c r.1 (λ i. (q i).1) (own_key c)))
logs_step t (dropping vid) = outcome_step t (dropping vid) (drop_pending t.volumes vid) (with_volumes t) (λ r e. nothing_stored t (dropping vid))
logs_step t (recovering vid) = recover_step t vid
logs_step t (syncing vid) = outcome_step t (syncing vid) (sync t.volumes t.logs.commits vid) (with_volumes t) (λ r e. nothing_stored t (syncing vid))
logs_step t (copying s x) =
    outcome_step t (copying s x) (from_snapshot t.volumes t.logs s x) (λ r. with_logs (with_volumes t r.1) r.2)
    (λ r e. let q = copied_done t.volumes t.logs s.path x r (from_snapshot_done t.volumes t.logs s x r e) in
    let cs = path_commits t.logs.commits s.path in
    record { stored = renumbered x.local cs; logs = λ i. (sym q.1 i).2; named = renumbered_at x.local (length cs) cs (omega arith) })
logs_step t (copying_ref log lsn x) =
    outcome_step t (copying_ref log lsn x) (from_logref t.volumes t.logs log lsn x) (λ r. with_logs (with_volumes t r.1) r.2)
    (λ r e. ⊎_elim (λ s. let u = s.1 in same_logs t (copying_ref log lsn x) r.2 u)
    (λ s. let q = copied_done t.volumes t.logs (record { log = log; start = 1; end = lsn } ∷ []) x s.0 s.1 in
    let cs = path_commits t.logs.commits (record { log = log; start = 1; end = lsn } ∷ []) in
    record { stored = renumbered x.local cs; logs = s.3 ∙ (λ i. (sym q.1 i).2); named = renumbered_at x.local (length cs) cs (omega arith) })
    (from_logref_done t.volumes t.logs log lsn x r e))
logs_step t (deleting_volume vid) = outcome_step t (deleting_volume vid) (volume_delete t.volumes vid) (with_volumes t) (λ r e. nothing_stored t (deleting_volume vid))
logs_step t (marking sid page) = outcome_step t (marking sid page) (page_mark t.presence sid page) (with_presence t) (λ r e. nothing_stored t (marking sid page))
logs_step t (unmarking sid page) = outcome_step t (unmarking sid page) (page_remove t.presence sid page) (with_presence t) (λ r e. nothing_stored t (unmarking sid page))
logs_step t (unmarking_all sid a b) = outcome_step t (unmarking_all sid a b) (pages_remove t.presence sid a b) (with_presence t) (λ r e. nothing_stored t (unmarking_all sid a b))
logs_step t (deleting_tag name) = outcome_step t (deleting_tag name) (tag_delete t.tags name) (with_tags t) (λ r e. nothing_stored t (deleting_tag name))
logs_step t (replacing_tag name vid) = outcome_step t (replacing_tag name vid) (tag_replace t.tags name vid) (λ r. with_tags t r.1) (λ r e. nothing_stored t (replacing_tag name vid))

-- ---- the theorems

-- a key that the call does not name is not among the keys stored
not_stored : (t : Tables) (c : Change) (k : LogLsn) (cs : List Commit) → stores_at t c k ≡ false → all (λ d. stores_at t c (commit_key d)) cs ≡ true → key_in k cs ≡ false
unfolding any all
not_stored t c k [] h a = refl
not_stored t c k (d ∷ cs) h a =
    cases (compare_is_eq (log_lsn k (commit_key d)))
    (λ q. absurd (clash (ap (stores_at t c) (log_lsn_lawful.same k (commit_key d) (eq_of (log_lsn k (commit_key d)) q)) ∙ and_fst (stores_at t c (commit_key d)) (all (λ d. stores_at t c (commit_key d)) cs) a) h))
    (λ q. rw q (not_stored t c k cs h (and_snd (stores_at t c (commit_key d)) (all (λ d. stores_at t c (commit_key d)) cs) a)))

-- T5: a commit at a key that the call does not name is kept
pub commit_untouched : (t : Tables) (c : Change) (log : Id) (lsn : ℕ) → stores_at t c (log, lsn) ≡ false → get_commit (does t c).1.logs.commits log lsn ≡ get_commit t.logs.commits log lsn
commit_untouched t c log lsn h =
    let s = logs_step t c in
    ap (λ (g : Logs). get_commit g.commits log lsn) s.logs ∙ write_get t.logs s.stored (log, lsn) (not_stored t c (log, lsn) s.stored h s.named)

-- T5: no call removes a commit
pub commit_stays : (t : Tables) (c : Change) (log : Id) (lsn : ℕ) → is_some (get_commit t.logs.commits log lsn) ≡ true → is_some (get_commit (does t c).1.logs.commits log lsn) ≡ true
commit_stays t c log lsn h =
    let s = logs_step t c in
    ap (λ (g : Logs). is_some (get_commit g.commits log lsn)) s.logs ∙ write_held t.logs s.stored (log, lsn) h

-- T5: no call removes an index entry
pub entry_stays : (t : Tables) (c : Change) (log : Id) (p lsn : ℕ) → listed t.logs.index log p lsn ≡ true → listed (does t c).1.logs.index log p lsn ≡ true
entry_stays t c log p lsn h =
    let s = logs_step t c in
    ap (λ (g : Logs). listed g.index log p lsn) s.logs ∙ write_listed t.logs s.stored (log, (p, lsn)) h

-- T5: nor adds one of a key at which it stores no commit
pub entry_untouched : (t : Tables) (c : Change) (log : Id) (p lsn : ℕ) → stores_at t c (log, lsn) ≡ false → listed (does t c).1.logs.index log p lsn ≡ listed t.logs.index log p lsn
entry_untouched t c log p lsn h =
    let s = logs_step t c in
    ap (λ (g : Logs). listed g.index log p lsn) s.logs ∙ write_new t.logs s.stored log p lsn (not_stored t c (log, lsn) s.stored h s.named)

-- T5: no call removes a checkpoint entry
pub checkpoint_stays : (t : Tables) (c : Change) (log : Id) (lsn : ℕ) → is_some (get checkpoint_key log_lsn (log, lsn) t.logs.checkpoints.rows) ≡ true
    → is_some (get checkpoint_key log_lsn (log, lsn) (does t c).1.logs.checkpoints.rows) ≡ true
checkpoint_stays t c log lsn h =
    let s = logs_step t c in
    ap (λ (g : Logs). is_some (get checkpoint_key log_lsn (log, lsn) g.checkpoints.rows)) s.logs ∙ write_checkpoint t.logs s.stored (log, lsn) h
