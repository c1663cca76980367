-- Recover and the copies overwrite no stored commit by one lacking any of its pages: recover stores again what is stored, and a copy stores in a log that has no commit (5).
use Rattle.std.proofs.Common.{◌≡◌, ℕ, true, false, cond, ◌&&◌, leb, [], ◌∷◌, length, sym, refl, ap, ◌∙◌, subst, ⊎_elim}
use mathlib.Core.Option.{Option, none, some}
use lib.Dec.{compare_is_eq}
use Rattle.basics.specs.Answers.{Answer, refused, done}
use Rattle.basics.specs.Numbers.{counts}
use Rattle.basics.specs.Orders.{bytes, log_lsn}
use Rattle.basics.proofs.OrderLaws.{bytes_lawful, log_lsn_lawful}
use Rattle.rules.specs.Records.{Id, Commit, Volume, Snapshot, LogLsn, commit_key}
use Rattle.rules.specs.Tables.{Table, get, same_id, get_commit, latest}
use Rattle.rules.specs.Write.{Logs, write}
use Rattle.rules.specs.Open.{Ids}
use Rattle.rules.specs.Push.{recover}
use Rattle.rules.specs.Walk.{path_commits}
use Rattle.rules.specs.Copies.{from_snapshot, from_logref}
use Rattle.rules.specs.Demand.{holds_at, NoPageLost}
use Rattle.rules.specs.Calls.{Tables, Change, copying, copying_ref, does, outcome, with_logs, with_volumes}
use Rattle.rules.specs.Named.{stores_at, copies_at}
use Rattle.rules.proofs.TableLaws.{cases, options, clash, and_fst, eq_of, get_some, get_put}
use Rattle.rules.proofs.Lookups.{latest_none}
use Rattle.rules.proofs.NamedLogs.{copied_done, from_snapshot_done, from_logref_done, commit_untouched}
use Rattle.copycalls.proofs.Asks.{local_free}
use Rattle.keeping.proofs.Recovered.{recover_ends}

nothing_lost : (cs : Table Commit) → NoPageLost cs cs
nothing_lost cs log p lsn h = h

-- ---- recover

-- a stored commit written again
again : (g : Logs) (c : Commit) (k : LogLsn) → get_commit g.commits k.0 k.1 ≡ some c → NoPageLost g.commits (write g c).commits
unfolding write
again g c k there log p lsn h =
    let chosen : compare_is_eq (log_lsn (log, lsn) (commit_key c)) ≡ true → cond (compare_is_eq (log_lsn (log, lsn) (commit_key c))) (some c) (get_commit g.commits log lsn) ≡ some c = λ q. rw q in
    let other : compare_is_eq (log_lsn (log, lsn) (commit_key c)) ≡ false → cond (compare_is_eq (log_lsn (log, lsn) (commit_key c))) (some c) (get_commit g.commits log lsn) ≡ get_commit g.commits log lsn = λ q. rw q in
    cases (compare_is_eq (log_lsn (log, lsn) (commit_key c)))
    (λ q.
    let s : (log, lsn) ≡ commit_key c = log_lsn_lawful.same (log, lsn) (commit_key c) (eq_of (log_lsn (log, lsn) (commit_key c)) q) in
    let own : get_commit g.commits log lsn ≡ some c = ap (λ (x : LogLsn). get commit_key log_lsn x g.commits.rows) (s ∙ sym (get_some commit_key log_lsn log_lsn_lawful k g.commits.rows there).1) ∙ there in
    ap (holds_at p) (get_put commit_key log_lsn log_lsn_lawful (log, lsn) c g.commits.rows ∙ chosen q ∙ sym own) ∙ h)
    (λ q. ap (holds_at p) (get_put commit_key log_lsn log_lsn_lawful (log, lsn) c g.commits.rows ∙ other q) ∙ h)

pub recover_lossless : (vs : Table Volume) (g : Logs) (vid : Id) → NoPageLost g.commits (recover vs g vid).2.commits
recover_lossless vs g vid =
    recover_ends vs g (λ (r : Table Volume × Logs). NoPageLost g.commits r.1.commits) (nothing_lost g.commits) (λ v. nothing_lost g.commits) (λ v p c there. again g c (v.remote, p.commit) there) vid

-- ---- copies

-- a call that leaves the tables
left_lossless : (t : Tables) (c : Change) → (does t c).1 ≡ t → NoPageLost t.logs.commits (does t c).1.logs.commits
left_lossless t c e = subst (λ (u : Tables). NoPageLost t.logs.commits u.logs.commits) (sym e) (nothing_lost t.logs.commits)

-- a call that stores only in a log that has no commit
module _ (t : Tables) (c : Change) (local : Id) (n : ℕ) where
  new_log : ((k : LogLsn) → stores_at t c k ≡ copies_at local n k) → latest t.logs.commits local ≡ none → NoPageLost t.logs.commits (does t c).1.logs.commits
  new_log named free log p lsn h =
      cases (stores_at t c (log, lsn))
      (λ q.
      let m : same_id local log ≡ true = and_fst (same_id local log) (counts lsn) (and_fst (same_id local log && counts lsn) (leb lsn n) (sym (named (log, lsn)) ∙ q)) in
      let s : local ≡ log = bytes_lawful.same local log (eq_of (bytes local log) m) in
      options (get_commit t.logs.commits log lsn) (λ e. absurd (clash h (ap (holds_at p) e)))
      (λ d e. let k = get_some commit_key log_lsn log_lsn_lawful (log, lsn) t.logs.commits.rows e in absurd (latest_none t.logs.commits local free d k.0 (s ∙ (λ i. (k.1 i).0)))))
      (λ q. ap (holds_at p) (commit_untouched t c log lsn q) ∙ h)

pub snapshot_lossless : (t : Tables) (s : Snapshot) (x : Ids) → NoPageLost t.logs.commits (does t (copying s x)).1.logs.commits
unfolding does stores_at
snapshot_lossless t s x = go (from_snapshot t.volumes t.logs s x) refl
  where
    go : (a : Answer (Volume × Table Volume × Logs)) → from_snapshot t.volumes t.logs s x ≡ a → NoPageLost t.logs.commits (does t (copying s x)).1.logs.commits
    go (refused n) e = left_lossless t (copying s x) (ap (λ (a : Answer (Volume × Table Volume × Logs)). (outcome t a (λ r. with_logs (with_volumes t r.1) r.2)).1) e)
    go (done r) e =
        new_log t (copying s x) x.local (length (path_commits t.logs.commits s.path)) (λ k. refl)
        (local_free t.volumes t.logs.commits x (copied_done t.volumes t.logs s.path x r (from_snapshot_done t.volumes t.logs s x r e)).0)

pub logref_lossless : (t : Tables) (log : Id) (lsn : ℕ) (x : Ids) → NoPageLost t.logs.commits (does t (copying_ref log lsn x)).1.logs.commits
unfolding does stores_at
logref_lossless t log lsn x = go (from_logref t.volumes t.logs log lsn x) refl
  where
    go : (a : Answer (Option Volume × Table Volume × Logs)) → from_logref t.volumes t.logs log lsn x ≡ a → NoPageLost t.logs.commits (does t (copying_ref log lsn x)).1.logs.commits
    go (refused n) e = left_lossless t (copying_ref log lsn x) (ap (λ (a : Answer (Option Volume × Table Volume × Logs)). (outcome t a (λ r. with_logs (with_volumes t r.1) r.2)).1) e)
    go (done r) e =
        ⊎_elim
        (λ s.
        let d : (does t (copying_ref log lsn x)).1.logs ≡ r.2 = ap (λ (a : Answer (Option Volume × Table Volume × Logs)). (outcome t a (λ r. with_logs (with_volumes t r.1) r.2)).1.logs) e in
        subst (λ (g : Logs). NoPageLost t.logs.commits g.commits) (sym (d ∙ s.1)) (nothing_lost t.logs.commits))
        (λ s.
        new_log t (copying_ref log lsn x) x.local (length (path_commits t.logs.commits (record { log = log; start = 1; end = lsn } ∷ []))) (λ k. refl)
        (local_free t.volumes t.logs.commits x (copied_done t.volumes t.logs (record { log = log; start = 1; end = lsn } ∷ []) x s.0 s.1).0))
        (from_logref_done t.volumes t.logs log lsn x r e)
