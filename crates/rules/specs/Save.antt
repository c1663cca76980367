-- Save.
use Rattle.std.specs.Prelude.{ℕ, ◌+◌, Bool, false, cond, not, ◌&&◌, ◌||◌, [], ◌∷◌, map, ◌==◌, nat_lt}
use Rattle.std.proofs.Math.Option.{Option, none, some}
use Rattle.basics.specs.Orders.{sid_page}
use Rattle.basics.specs.Answers.{Answer, done, ask, need, ◌>>=◌, ◌>>◌}
use Rattle.basics.specs.Numbers.{last_lsn}
use Rattle.pageset.specs.Sets.{normal_form}
use Rattle.rules.specs.Lists.{any}
use Rattle.rules.specs.Records.{Id, Pages, Segment, Commit, Present, Volume, Snapshot, present_key}
use Rattle.rules.specs.Pages.{pages_in, size}
use Rattle.rules.specs.Tables.{Table, fits, store_all, volumes_formed, presence_formed, same_id, get_volume, latest_lsn}
use Rattle.rules.specs.Arguments.{snapshot_lsns, snapshot_order, snapshot_form}
use Rattle.rules.specs.Write.{Logs, write, logs_formed, logs_fit}
use Rattle.rules.specs.Snapshots.{is_latest, snapshot_of}

-- LSN is latest local plus 1, or 1 (18: no LSN left)
unfoldable pub lsn_after : Option ℕ → Answer ℕ
lsn_after none = done 1
lsn_after (some n) = do
  ask (nat_lt n last_lsn) 18
  done (n + 1)

-- the segment is there and has that identifier
abbrev pub has_sid : Id → Option Segment → Bool
has_sid sid none = false
has_sid sid (some s) = same_id sid s.sid

-- segment in use by a commit or present page
unfoldable pub sid_in_use : Table Commit → Table Present → Id → Bool
sid_in_use cs ps sid = any (λ c. has_sid sid c.segment) cs.rows || any (λ p. same_id sid p.sid) ps.rows

-- the new commit; it is a checkpoint when page count equals the number of pages written
abbrev pub saved_commit : Volume → ℕ → ℕ → Id → Pages → Commit
saved_commit v lsn count sid pages = record {
  log = v.local;
  lsn = lsn;
  count = count;
  hash = none;
  segment = some (record { sid = sid; pages = pages; frames = [] });
  checkpoints = cond (count == size pages) (lsn ∷ []) [];
}

-- the pages become present
abbrev pub now_present : Id → Pages → Table Present → Table Present
now_present sid pages ps = store_all present_key sid_page (map (λ (p : ℕ). record { sid = sid; page = p }) (pages_in pages)) ps

-- save; answer: the new snapshot
unfoldable pub save : Table Volume → Logs → Table Present → Id → Snapshot → ℕ → Id → Pages → Answer (Snapshot × Logs × Table Present)
save vs g ps vid s count sid pages = do
  ask (volumes_formed vs && logs_formed g && presence_formed ps) 20
  ask (snapshot_lsns s) 1
  ask (snapshot_order s) 2
  ask (snapshot_form s && normal_form pages) 3
  v ← need (get_volume vs vid) 4
  ask (is_latest g.commits v s) 7
  lsn ← lsn_after (latest_lsn g.commits v.local)
  ask (not (sid_in_use g.commits ps sid)) 5
  let g' = write g (saved_commit v lsn count sid pages)
  let ps' = now_present sid pages ps
  ask (logs_fit g' && fits ps') 19
  done (snapshot_of g'.commits v, g', ps')
