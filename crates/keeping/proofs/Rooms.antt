-- A rule that stores commits leaves the room of each table.
use Rattle.std.proofs.Common.{◌≡◌, ℕ, List, [], ◌∷◌, sym, refl, ap, ◌∙◌, subst, ⊎_elim}
use mathlib.Core.Option.{Option}
use Rattle.basics.specs.Answers.{done}
use Rattle.basics.specs.Orders.{bytes}
use Rattle.rules.specs.Records.{Id, Commit, Volume, Range, Snapshot, volume_key}
use Rattle.rules.specs.Tables.{Table, store}
use Rattle.rules.specs.Arguments.{commit_lsns, commit_lists}
use Rattle.rules.specs.Write.{Logs, write, write_all, logs_formed, logs_fit, write_commit}
use Rattle.rules.specs.Open.{Ids}
use Rattle.rules.specs.Push.{pushed_volume, success, recover}
use Rattle.rules.specs.Walk.{path_commits}
use Rattle.rules.specs.Copies.{renumbered, copied, from_snapshot, from_logref}
use Rattle.rules.proofs.AnswerLaws.{done_same, asked}
use Rattle.rules.proofs.NamedLogs.{success_done, copied_done, from_snapshot_done, from_logref_done}
use Rattle.keeping.proofs.Recovered.{recover_ends}

-- g and h have the same rooms
pub record SameRooms (g h : Logs) : Type 0 where
  pub of_commits : g.commits.room ≡ h.commits.room
  pub of_checkpoints : g.checkpoints.room ≡ h.checkpoints.room
  pub of_index : g.index.room ≡ h.index.room

pub same_logs : (g h : Logs) → g ≡ h → SameRooms g h
same_logs g h e = record { of_commits = ap (λ (x : Logs). x.commits.room) e; of_checkpoints = ap (λ (x : Logs). x.checkpoints.room) e; of_index = ap (λ (x : Logs). x.index.room) e }

through : (f g h : Logs) → SameRooms f g → SameRooms g h → SameRooms f h
through f g h p q = record { of_commits = p.of_commits ∙ q.of_commits; of_checkpoints = p.of_checkpoints ∙ q.of_checkpoints; of_index = p.of_index ∙ q.of_index }

-- a commit written, and several
write_rooms : (g : Logs) (c : Commit) → SameRooms (write g c) g
unfolding write
write_rooms g c = record { of_commits = refl; of_checkpoints = refl; of_index = refl }

write_all_rooms : (g : Logs) (cs : List Commit) → SameRooms (write_all g cs) g
unfolding write_all
write_all_rooms g [] = same_logs g g refl
write_all_rooms g (c ∷ cs) = through (write_all (write g c) cs) (write g c) g (write_all_rooms (write g c) cs) (write_rooms g c)

-- ---- call by call

pub write_commit_rooms : (g h : Logs) (c : Commit) → write_commit g c ≡ done h → SameRooms h g
unfolding write_commit
write_commit_rooms g h c e =
    asked (logs_formed g) 20 _ e λ f e1.
    asked (commit_lsns c) 1 _ e1 λ one e2.
    asked (commit_lists c) 3 _ e2 λ three e3.
    asked (logs_fit (write g c)) 19 _ e3 λ room e4.
    through h (write g c) g (same_logs h (write g c) (sym (done_same e4))) (write_rooms g c)

-- volumes and logs with the rooms of vs and g
pub record BothRooms (vs : Table Volume) (g : Logs) (r : Table Volume × Logs) : Type 0 where
  pub of_volumes : r.0.room ≡ vs.room
  pub of_logs : SameRooms r.1 g

same_both : (vs : Table Volume) (g : Logs) (r : Table Volume × Logs) → r.0 ≡ vs → r.1 ≡ g → BothRooms vs g r
same_both vs g r p q = record { of_volumes = ap (λ (x : Table Volume). x.room) p; of_logs = same_logs r.1 g q }

-- a volume stored, and a commit written
pushed_rooms : (vs : Table Volume) (g : Logs) (v : Volume) (c : Commit) → BothRooms vs g (store volume_key bytes v vs, write g c)
pushed_rooms vs g v c = record { of_volumes = refl; of_logs = write_rooms g c }

pub success_rooms : (vs : Table Volume) (g : Logs) (vid : Id) (c : Commit) (r : Table Volume × Logs) → success vs g vid c ≡ done r → BothRooms vs g r
success_rooms vs g vid c r e = success_done vs g vid c r e (λ v p is pe q. subst (BothRooms vs g) q (pushed_rooms vs g (pushed_volume v p) c))

pub recover_rooms : (vs : Table Volume) (g : Logs) (vid : Id) → BothRooms vs g ((recover vs g vid).1, (recover vs g vid).2)
recover_rooms vs g vid =
    recover_ends vs g (BothRooms vs g) (same_both vs g (vs, g) refl refl) (λ v. record { of_volumes = refl; of_logs = same_logs g g refl }) (λ v p c there. pushed_rooms vs g (pushed_volume v p) c) vid

copied_rooms : (vs : Table Volume) (g : Logs) (path : List Range) (x : Ids) (r : Volume × Table Volume × Logs) → copied vs g path x ≡ done r → BothRooms vs g (r.1, r.2)
copied_rooms vs g path x r e =
    let q = (copied_done vs g path x r e).1 in
    let w = write_all g (renumbered x.local (path_commits g.commits path)) in
    record {
      of_volumes = ap (λ (y : Volume × Table Volume × Logs). y.1.room) (sym q);
      of_logs = through r.2 w g (same_logs r.2 w (ap (λ (y : Volume × Table Volume × Logs). y.2) (sym q))) (write_all_rooms g (renumbered x.local (path_commits g.commits path)));
    }

pub from_snapshot_rooms : (vs : Table Volume) (g : Logs) (s : Snapshot) (x : Ids) (r : Volume × Table Volume × Logs) → from_snapshot vs g s x ≡ done r → BothRooms vs g (r.1, r.2)
from_snapshot_rooms vs g s x r e = copied_rooms vs g s.path x r (from_snapshot_done vs g s x r e)

pub from_logref_rooms : (vs : Table Volume) (g : Logs) (log : Id) (lsn : ℕ) (x : Ids) (r : Option Volume × Table Volume × Logs) → from_logref vs g log lsn x ≡ done r → BothRooms vs g (r.1, r.2)
from_logref_rooms vs g log lsn x r e =
    ⊎_elim (λ s. same_both vs g (r.1, r.2) s.0 s.1) (λ s.
    let k = copied_rooms vs g (record { log = log; start = 1; end = lsn } ∷ []) x s.0 s.1 in
    record { of_volumes = ap (λ (y : Table Volume). y.room) s.2 ∙ k.of_volumes; of_logs = through r.2 s.0.2 g (same_logs r.2 s.0.2 s.3) k.of_logs })
    (from_logref_done vs g log lsn x r e)
