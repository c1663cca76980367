-- What a call list line does: what it prints, and the tester afterwards. 24 for the form, 24 for a slot that is unset, 22, then the call.
use Rattle.std.specs.Prelude.{◌≡◌, ℕ, true, ◌&&◌, List, [], replicate}
use Rattle.std.proofs.Math.Option.{Option, none, some}
use Rattle.basics.specs.Answers.{Answer, refused, done, code, need, ◌>>=◌}
use Rattle.pageset.specs.Sets.{holds, normal_form}
use Rattle.pageset.specs.Says.{Over32}
use Rattle.rules.specs.Records.{Id, Pages, Commit, Volume, Snapshot}
use Rattle.rules.specs.Tables.{Table}
use Rattle.rules.specs.Write.{Logs, write_commit}
use Rattle.rules.specs.Open.{open_volume}
use Rattle.rules.specs.Snapshots.{snapshot}
use Rattle.rules.specs.Sync.{sync}
use Rattle.volume.specs.Snapshots.{head_of}
use Rattle.layout.specs.Values.{set_bytes}
use Rattle.layout.specs.Records.{volume_bytes, commit_bytes, checkpoint_bytes, entry_bytes, present_bytes}
use Rattle.layout.specs.Tables.{volumes_in, volumes_ok, commits_in, commits_ok, index_in, index_ok}
use Rattle.layout.specs.Lent.{lent, after}
use Rattle.writecalls.specs.Written.{logs_in, logs_ok}
use Rattle.searchcalls.specs.Searches.{search_in}
use Rattle.savecalls.specs.Saving.{Saved, save_on}
use Rattle.callline.specs.Texts.{Text}
use Rattle.callline.specs.Values.{Range, malformed}
use Rattle.callline.specs.Lines.{Call, Open, Snap, Save, Find, Fetch, Pull, meaning}
use Rattle.callpages.specs.Pages.{in_ranges}
use Rattle.callvalues.specs.Slots.{slot_in, slots_after}
use Rattle.callvalues.specs.Values.{id_of, fetched, shortly, commit_head}
use Rattle.callstep.specs.Testers.{Tester}

-- ---- the set of the pages that a line names

-- the windows of just these pages
pub record PagesOf (rs : List Range) (ws : Pages) : Type 0 where
  pub normal : normal_form ws ≡ true
  pub pages : (p : ℕ) → holds ws p ≡ in_ranges rs p

-- a set over 32 windows is 22
abbrev pub SetOf : List Range → Answer Pages → Type 0
SetOf rs (done ws) = PagesOf rs ws
SetOf rs (refused n) = (n ≡ 22) × Over32 (in_ranges rs)

-- the ranges that a line names
abbrev pub ranges_named : Answer Call → List Range
ranges_named (refused n) = []
ranges_named (done (Open v l r)) = []
ranges_named (done (Snap v s)) = []
ranges_named (done (Save v s c i rs)) = rs
ranges_named (done (Find s p)) = []
ranges_named (done (Fetch g n c i rs)) = rs
ranges_named (done (Pull v)) = []

-- ---- the calls, on lent bytes

-- op=open: all three identifiers are asked
unfoldable pub open_on : (volumes commits : List ℕ) (vid near far : ℕ) → Answer (Volume × Table Volume)
open_on volumes commits vid near far =
    lent (volumes_ok volumes && commits_ok commits)
    (open_volume (volumes_in volumes) (commits_in commits) (record { vid = some (id_of vid); local = some (id_of near); remote = some (id_of far) }) (record { vid = id_of vid; local = id_of near; remote = id_of far }))

-- op=snap
unfoldable pub snap_on : (volumes commits : List ℕ) (vid : ℕ) → Answer Snapshot
snap_on volumes commits vid = lent (volumes_ok volumes && commits_ok commits) (snapshot (volumes_in volumes) (commits_in commits) (id_of vid))

-- op=save: 24 for an unset slot, 22, then the save from the snapshot that the slot holds, of the pages in their byte form
unfoldable pub saved_on : (t : Tester) (vid slot count sid : ℕ) → Answer Pages → Answer Saved
saved_on t vid slot count sid pages = do
  s ← need (slot_in t.slots slot) malformed
  ws ← pages
  save_on t.volumes t.commits t.checkpoints t.index t.presence (id_of vid) s count (id_of sid) (set_bytes.spell ws) (replicate 262 0)

-- op=find: 24 for an unset slot, then the search in the snapshot that the slot holds
unfoldable pub find_on : (commits index slots : List ℕ) (slot page : ℕ) → Answer (Option Commit)
find_on commits index slots slot page = do
  s ← need (slot_in slots slot) malformed
  lent (commits_ok commits && index_ok index) (search_in (commits_in commits) (index_in index) s page (replicate 722 0))

-- op=fetch: 22, then write a commit
unfoldable pub fetch_on : (commits checkpoints index : List ℕ) (log lsn count sid : ℕ) → Answer Pages → Answer Logs
fetch_on commits checkpoints index log lsn count sid pages = do
  ws ← pages
  lent (logs_ok commits checkpoints index) (write_commit (logs_in commits checkpoints index) (fetched (id_of log) lsn count (id_of sid) ws))

-- op=pull: sync
unfoldable pub pull_on : (volumes commits : List ℕ) (vid : ℕ) → Answer (Table Volume)
pull_on volumes commits vid = lent (volumes_ok volumes && commits_ok commits) (sync (volumes_in volumes) (commits_in commits) (id_of vid))

-- ---- what is printed: the code, then the last byte of the log and the LSN of the snapshot's head or the found commit

-- none on a refusal
abbrev pub head_by : {A : Type 0} → (A → Option (ℕ × ℕ)) → Answer A → Option (ℕ × ℕ)
head_by f (refused n) = none
head_by f (done a) = f a

-- of a snapshot
abbrev pub snap_head : Answer Snapshot → Option (ℕ × ℕ)
snap_head a = head_by (λ s. shortly (head_of s)) a

-- of the snapshot after a save
abbrev pub saved_head : Answer Saved → Option (ℕ × ℕ)
saved_head a = head_by (λ r. shortly (head_of r.0)) a

-- of the found commit
abbrev pub found_head : Answer (Option Commit) → Option (ℕ × ℕ)
found_head a = head_by commit_head a

-- ---- the step

pub record Step : Type 0 where
  pub code : ℕ
  pub head : Option (ℕ × ℕ)
  pub tester : Tester

-- the tables that a save or a write leaves
abbrev pub after_save : Tester → Answer Saved → Tester
after_save t a = record {
  volumes = t.volumes;
  commits = after commit_bytes (λ (r : Saved). r.1.commits) t.commits a;
  checkpoints = after checkpoint_bytes (λ (r : Saved). r.1.checkpoints) t.checkpoints a;
  index = after entry_bytes (λ (r : Saved). r.1.index) t.index a;
  presence = after present_bytes (λ (r : Saved). r.2) t.presence a;
  slots = t.slots;
}

abbrev pub after_write : Tester → Answer Logs → Tester
after_write t a = record {
  volumes = t.volumes;
  commits = after commit_bytes (λ (g : Logs). g.commits) t.commits a;
  checkpoints = after checkpoint_bytes (λ (g : Logs). g.checkpoints) t.checkpoints a;
  index = after entry_bytes (λ (g : Logs). g.index) t.index a;
  presence = t.presence;
  slots = t.slots;
}

abbrev pub with_volumes : Tester → List ℕ → Tester
with_volumes t vs = record { volumes = vs; commits = t.commits; checkpoints = t.checkpoints; index = t.index; presence = t.presence; slots = t.slots }

abbrev pub with_slots : Tester → List ℕ → Tester
with_slots t s = record { volumes = t.volumes; commits = t.commits; checkpoints = t.checkpoints; index = t.index; presence = t.presence; slots = s }

-- the call of a line; `pages` is the set that it names. 24 and 22 change nothing
abbrev pub step_by : Tester → Answer Pages → Answer Call → Step
step_by t pages (refused n) = record { code = n; head = none; tester = t }
step_by t pages (done (Open v l r)) =
    record { code = code (open_on t.volumes t.commits v l r); head = none; tester = with_volumes t (after volume_bytes (λ (x : Volume × Table Volume). x.1) t.volumes (open_on t.volumes t.commits v l r)) }
step_by t pages (done (Snap v s)) =
    record { code = code (snap_on t.volumes t.commits v); head = snap_head (snap_on t.volumes t.commits v); tester = with_slots t (slots_after s t.slots (snap_on t.volumes t.commits v)) }
step_by t pages (done (Save v s c i rs)) =
    record { code = code (saved_on t v s c i pages); head = saved_head (saved_on t v s c i pages); tester = after_save t (saved_on t v s c i pages) }
step_by t pages (done (Find s p)) =
    record { code = code (find_on t.commits t.index t.slots s p); head = found_head (find_on t.commits t.index t.slots s p); tester = t }
step_by t pages (done (Fetch g n c i rs)) =
    record {
      code = code (fetch_on t.commits t.checkpoints t.index g n c i pages);
      head = none;
      tester = after_write t (fetch_on t.commits t.checkpoints t.index g n c i pages);
    }
step_by t pages (done (Pull v)) =
    record { code = code (pull_on t.volumes t.commits v); head = none; tester = with_volumes t (after volume_bytes (λ (x : Table Volume). x) t.volumes (pull_on t.volumes t.commits v)) }

-- o is the step of a line: that of the set of just the pages that the line names
pub record Steps (t : Tester) (line : Text) (o : Step) : Type 0 where
  pub pages : Answer Pages
  pub are : SetOf (ranges_named (meaning line)) pages
  pub is : o ≡ step_by t pages (meaning line)
