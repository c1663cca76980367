-- The snapshot of a stored volume fits the bytes of a snapshot: it has at most two ranges, each of one of the volume's logs, and each ends at a stored commit or at the sync point. A local range starts after
-- the watermark, which is below its end.
use Rattle.std.proofs.Common.{◌≡◌, ℕ, ◌+◌, ◌^◌, ◌<◌, ◌≤◌, true, ◌&&◌, List, length, refl, subst, arith, ltb-true}
use mathlib.Core.Option.{Option, none, some}
use Rattle.basics.specs.Answers.{done}
use Rattle.basics.specs.Orders.{log_lsn}
use Rattle.basics.proofs.OrderLaws.{log_lsn_lawful}
use Rattle.rules.specs.Lists.{given}
use Rattle.rules.specs.Records.{Id, Commit, SyncPoint, Volume, Range, Snapshot, commit_key}
use Rattle.rules.specs.Forms.{id_form, lsn_form, count_form, sync_form, commit_form, volume_form}
use Rattle.rules.specs.Tables.{Table, volumes_formed, commits_formed, get_volume, get_commit, latest}
use Rattle.rules.specs.Snapshots.{watermark_of, remote_of, below, after, remote_path, local_snapshot, empty_snapshot, remote_to, remote_snapshot, snapshot_by, snapshot_of, snapshot}
use Rattle.rules.proofs.TableLaws.{cases, and_fst, and_snd, all_at, get_some, formed_parts}
use Rattle.rules.proofs.AnswerLaws.{done_same, asked, needed}
use Rattle.rules.proofs.Lookups.{latest_some}
use Rattle.rules.proofs.Kept.{volume_form_lem}
use Rattle.layout.specs.Codecs.{Holds}
use Rattle.layout.specs.Values.{range_bytes, snapshot_bytes}
use Rattle.layout.proofs.HoldLaws.{AllHeld}
use Rattle.layout.proofs.FormHolds.{lsn_bound, count_bound, range_held, snapshot_held}

commit_lsn : (c : Commit) → commit_form c ≡ true → lsn_form c.lsn ≡ true
unfolding commit_form
commit_lsn c h = search (and_fst, and_snd)

commit_count : (c : Commit) → commit_form c ≡ true → count_form c.count ≡ true
unfolding commit_form
commit_count c h = search (and_fst, and_snd)

-- ---- the remote range

remote_range : (log : Id) (n : ℕ) → id_form log ≡ true → lsn_form n ≡ true → Holds range_bytes (record { log = log; start = 1; end = n })
remote_range log n i l = range_held (record { log = log; start = 1; end = n }) i (omega arith) (lsn_bound n l)

path_held : (v : Volume) (o : Option SyncPoint) → id_form v.remote ≡ true → given sync_form o ≡ true → AllHeld range_bytes (remote_path v (remote_of o)) × (length (remote_path v (remote_of o)) ≤ 1)
unfolding sync_form
path_held v none i s = (tt, omega arith)
path_held v (some y) i s = ((remote_range v.remote y.remote i (search (and_fst, and_snd)), tt), omega arith)

empty_held : Holds snapshot_bytes empty_snapshot
empty_held = snapshot_held empty_snapshot (omega arith) (omega arith) tt

to_held : (v : Volume) (o : Option Commit) → id_form v.remote ≡ true → ((c : Commit) → o ≡ some c → commit_form c ≡ true) → Holds snapshot_bytes (remote_to v o)
to_held v none i h = empty_held
to_held v (some c) i h =
    snapshot_held (remote_to v (some c)) (count_bound c.count (commit_count c (h c refl))) (omega arith) (remote_range v.remote c.lsn i (commit_lsn c (h c refl)), tt)

-- ---- the local range

start_bound : (w : Option ℕ) (n : ℕ) → lsn_form n ≡ true → below w n ≡ true → after w < 256 ^ 8
start_bound none n l b = omega arith
start_bound (some w) n l b = omega (arith, lsn_bound n l, ltb-true w n b)

local_held : (v : Volume) (c : Commit) → volume_form v ≡ true → commit_form c ≡ true → below (watermark_of v.sync) c.lsn ≡ true → Holds snapshot_bytes (local_snapshot v c)
unfolding volume_form
local_held v c f g b =
    let l = commit_lsn c g in
    let p = path_held v v.sync (search (and_fst, and_snd)) (search (and_fst, and_snd)) in
    snapshot_held (local_snapshot v c) (count_bound c.count (commit_count c g)) (omega (arith, p.1))
    (range_held (record { log = v.local; start = after (watermark_of v.sync); end = c.lsn }) (search (and_fst, and_snd)) (start_bound (watermark_of v.sync) c.lsn l b) (lsn_bound c.lsn l), p.0)

-- ---- the snapshot

module _ (cs : Table Commit) (ok : commits_formed cs ≡ true) (v : Volume) (form : volume_form v ≡ true) where
  remote_form : id_form v.remote ≡ true
  unfolding volume_form
  remote_form = search (and_fst, and_snd)

  remote_held : (o : Option ℕ) → Holds snapshot_bytes (remote_snapshot cs v o)
  remote_held none = empty_held
  remote_held (some n) =
      to_held v (get_commit cs v.remote n) remote_form
      (λ c e. all_at commit_form cs.rows (formed_parts commit_key log_lsn log_lsn_lawful commit_form cs ok).forms (get_some commit_key log_lsn log_lsn_lawful (v.remote, n) cs.rows e).0)

  by_held : (o : Option Commit) → ((c : Commit) → o ≡ some c → commit_form c ≡ true) → Holds snapshot_bytes (snapshot_by cs v o)
  by_held none h = remote_held (remote_of v.sync)
  by_held (some c) h = cases (below (watermark_of v.sync) c.lsn) (λ b. rw b (local_held v c form (h c refl) b)) (λ b. rw b (remote_held (remote_of v.sync)))

  of_held : Holds snapshot_bytes (snapshot_of cs v)
  unfolding snapshot_of
  of_held =
      by_held (latest cs v.local)
      (λ c e. let p = formed_parts commit_key log_lsn log_lsn_lawful commit_form cs ok in all_at commit_form cs.rows p.forms (latest_some cs v.local c p.up e).stored)

pub seen_held : (vs : Table Volume) (cs : Table Commit) (vid : Id) (s : Snapshot) → snapshot vs cs vid ≡ done s → Holds snapshot_bytes s
unfolding snapshot
seen_held vs cs vid s e =
    asked (volumes_formed vs && commits_formed cs) 20 _ e λ f e1.
    needed (get_volume vs vid) 4 _ e1 λ v is e2.
    subst (λ (x : Snapshot). Holds snapshot_bytes x) (done_same e2) (of_held cs (and_snd (volumes_formed vs) (commits_formed cs) f) v (volume_form_lem vs vid v (and_fst (volumes_formed vs) (commits_formed cs) f) is))
