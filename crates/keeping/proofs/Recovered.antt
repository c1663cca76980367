-- The three ends of recover: all as it was, the pending commit dropped, or its push with the stored commit. What holds of each end holds of recover.
use Rattle.std.proofs.Common.{◌≡◌, ℕ, Bool, true, false, cond, ◌&&◌, refl, subst}
use mathlib.Core.Option.{Option, none, some}
use Rattle.basics.specs.Answers.{Answer, refused, done}
use Rattle.basics.specs.Orders.{bytes}
use Rattle.rules.specs.Records.{Id, Commit, Pending, Volume, volume_key}
use Rattle.rules.specs.Tables.{Table, store, volumes_formed, get_volume, get_commit}
use Rattle.rules.specs.Write.{Logs, write, logs_formed}
use Rattle.rules.specs.Push.{with_pending, pushed_volume, is_hash, push, leaves, recover_by, recover_pending, recover_volume, recover}
use Rattle.rules.proofs.NamedLogs.{push_done}

-- P says something of the volumes and the logs
module _ (vs : Table Volume) (g : Logs) (P : (Table Volume × Logs) → Type 0) (kept : P (vs, g)) (dropped : (v : Volume) → P (store volume_key bytes (with_pending v none) vs, g))
    (pushed : (v : Volume) (p : Pending) (c : Commit) → get_commit g.commits v.remote p.commit ≡ some c → P (store volume_key bytes (pushed_volume v p) vs, write g c)) where
  abbrev Ends : (ℕ × Table Volume × Logs) → Type 0
  Ends r = P (r.1, r.2)

  by_push : (v : Volume) (p : Pending) (c : Commit) → get_commit g.commits v.remote p.commit ≡ some c → (a : Answer (Table Volume × Logs)) → push vs g v p c ≡ a → Ends (leaves vs g a)
  by_push v p c there (refused n) e = kept
  by_push v p c there (done r) e = subst P (push_done vs g v p c r e) (pushed v p c there)

  by_hash : (v : Volume) (p : Pending) (c : Commit) → get_commit g.commits v.remote p.commit ≡ some c → (b : Bool) → Ends (cond b (leaves vs g (push vs g v p c)) (8, store volume_key bytes (with_pending v none) vs, g))
  by_hash v p c there true = by_push v p c there (push vs g v p c) refl
  by_hash v p c there false = dropped v

  by_commit : (v : Volume) (p : Pending) (o : Option Commit) → get_commit g.commits v.remote p.commit ≡ o → Ends (recover_by vs g v p o)
  by_commit v p none there = dropped v
  by_commit v p (some c) there = by_hash v p c there (is_hash c.hash p.hash)

  by_pending : (v : Volume) (o : Option Pending) → Ends (recover_pending vs g v o)
  by_pending v none = kept
  by_pending v (some p) = by_commit v p (get_commit g.commits v.remote p.commit) refl

  by_volume : (o : Option Volume) → Ends (recover_volume vs g o)
  by_volume none = kept
  by_volume (some v) = by_pending v v.pending

  by_formed : (vid : Id) (b : Bool) → Ends (cond b (recover_volume vs g (get_volume vs vid)) (20, vs, g))
  by_formed vid true = by_volume (get_volume vs vid)
  by_formed vid false = kept

  pub recover_ends : (vid : Id) → P ((recover vs g vid).1, (recover vs g vid).2)
  unfolding recover
  recover_ends vid = by_formed vid (volumes_formed vs && logs_formed g)
