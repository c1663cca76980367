-- A call's number, and the lent tables after it, depend on the lent tables alone: the rule is handed no other.
use Rattle.std.proofs.Common.{◌≡◌, sym, refl, ◌∙◌}
use Rattle.basics.specs.Answers.{Answer, refused, done, code}
use Rattle.rules.specs.Write.{write_commit}
use Rattle.rules.specs.Open.{open_volume}
use Rattle.rules.specs.Snapshots.{snapshot, latest_check}
use Rattle.rules.specs.Save.{save}
use Rattle.rules.specs.Push.{prepare, success, drop_pending, recover}
use Rattle.rules.specs.Sync.{sync}
use Rattle.rules.specs.Walk.{snapshot_commits, walk, missing_frames}
use Rattle.rules.specs.Search.{search_page}
use Rattle.rules.specs.Copies.{from_snapshot, from_logref}
use Rattle.rules.specs.Reads.{volume_read, volume_exists, volume_list, volume_delete, commit_read, latest_lsn_read, latest_commit_read, page_count_read, checkpoint_read, stored_lsns, page_present, page_mark, page_remove, pages_remove, tag_read, tag_exists, tag_list, tag_delete, tag_replace}
use Rattle.rules.specs.Calls.{Tables, Change, writing, opening, saving, preparing, succeeding, dropping, recovering, syncing, copying, copying_ref, deleting_volume, marking, unmarking, unmarking_all, deleting_tag, replacing_tag, Reading, taking_snapshot, checking_latest, walking, listing_missing, listing_commits, searching, reading_volume, asking_volume, listing_volumes, reading_commit, reading_latest_lsn, reading_latest, reading_count, looking_up_checkpoint, listing_lsns, asking_page, reading_tag, asking_tag, listing_tags, outcome, does, reads, with_volumes, with_logs, with_presence, with_tags}
use Rattle.rules.specs.Lent.{SameForChange, SameForReading}
use Rattle.rules.proofs.Checks.{outcome_code}

-- a table after a call: as it was, or as the answer has it
abbrev chosen : {A X : Type 0} → X → Answer A → (A → X) → X
chosen x (refused n) g = x
chosen x (done a) g = g a

part : {A X : Type 0} (π : Tables → X) (t : Tables) (a : Answer A) (f : A → Tables) → π (outcome t a f).1 ≡ chosen (π t) a (λ x. π (f x))
part π t (refused n) f = refl
part π t (done x) f = refl

-- the number of a changing call depends on no table that it is not lent
pub change_depends : (t u : Tables) (c : Change) → SameForChange t u c → (does t c).0 ≡ (does u c).0
unfolding does
change_depends t u (writing c) e = outcome_code t (write_commit t.logs c) (with_logs t) ∙ (λ i. code (write_commit (e i) c)) ∙ sym (outcome_code u (write_commit u.logs c) (with_logs u))
change_depends t u (opening a x) e = outcome_code t (open_volume t.volumes t.logs.commits a x) (λ r. with_volumes t r.1) ∙ (λ i. code (open_volume (e.0 i) (e.1 i) a x)) ∙ sym (outcome_code u (open_volume u.volumes u.logs.commits a x) (λ r. with_volumes u r.1))
change_depends t u (saving vid s count sid pages) e = outcome_code t (save t.volumes t.logs t.presence vid s count sid pages) (λ r. with_presence (with_logs t r.1) r.2) ∙ (λ i. code (save (e.0 i) (e.1 i) (e.2 i) vid s count sid pages)) ∙ sym (outcome_code u (save u.volumes u.logs u.presence vid s count sid pages) (λ r. with_presence (with_logs u r.1) r.2))
change_depends t u (preparing vid p) e = outcome_code t (prepare t.volumes t.logs.commits vid p) (with_volumes t) ∙ (λ i. code (prepare (e.0 i) (e.1 i) vid p)) ∙ sym (outcome_code u (prepare u.volumes u.logs.commits vid p) (with_volumes u))
change_depends t u (succeeding vid c) e = outcome_code t (success t.volumes t.logs vid c) (λ r. with_logs (with_volumes t r.0) r.1) ∙ (λ i. code (success (e.0 i) (e.1 i) vid c)) ∙ sym (outcome_code u (success u.volumes u.logs vid c) (λ r. with_logs (with_volumes u r.0) r.1))
change_depends t u (dropping vid) e = outcome_code t (drop_pending t.volumes vid) (with_volumes t) ∙ (λ i. code (drop_pending (e i) vid)) ∙ sym (outcome_code u (drop_pending u.volumes vid) (with_volumes u))
change_depends t u (recovering vid) e = λ i. (recover (e.0 i) (e.1 i) vid).0
change_depends t u (syncing vid) e = outcome_code t (sync t.volumes t.logs.commits vid) (with_volumes t) ∙ (λ i. code (sync (e.0 i) (e.1 i) vid)) ∙ sym (outcome_code u (sync u.volumes u.logs.commits vid) (with_volumes u))
change_depends t u (copying s x) e = outcome_code t (from_snapshot t.volumes t.logs s x) (λ r. with_logs (with_volumes t r.1) r.2) ∙ (λ i. code (from_snapshot (e.0 i) (e.1 i) s x)) ∙ sym (outcome_code u (from_snapshot u.volumes u.logs s x) (λ r. with_logs (with_volumes u r.1) r.2))
change_depends t u (copying_ref log lsn x) e = outcome_code t (from_logref t.volumes t.logs log lsn x) (λ r. with_logs (with_volumes t r.1) r.2) ∙ (λ i. code (from_logref (e.0 i) (e.1 i) log lsn x)) ∙ sym (outcome_code u (from_logref u.volumes u.logs log lsn x) (λ r. with_logs (with_volumes u r.1) r.2))
change_depends t u (deleting_volume vid) e = outcome_code t (volume_delete t.volumes vid) (with_volumes t) ∙ (λ i. code (volume_delete (e i) vid)) ∙ sym (outcome_code u (volume_delete u.volumes vid) (with_volumes u))
change_depends t u (marking sid page) e = outcome_code t (page_mark t.presence sid page) (with_presence t) ∙ (λ i. code (page_mark (e i) sid page)) ∙ sym (outcome_code u (page_mark u.presence sid page) (with_presence u))
change_depends t u (unmarking sid page) e = outcome_code t (page_remove t.presence sid page) (with_presence t) ∙ (λ i. code (page_remove (e i) sid page)) ∙ sym (outcome_code u (page_remove u.presence sid page) (with_presence u))
change_depends t u (unmarking_all sid a b) e = outcome_code t (pages_remove t.presence sid a b) (with_presence t) ∙ (λ i. code (pages_remove (e i) sid a b)) ∙ sym (outcome_code u (pages_remove u.presence sid a b) (with_presence u))
change_depends t u (deleting_tag name) e = outcome_code t (tag_delete t.tags name) (with_tags t) ∙ (λ i. code (tag_delete (e i) name)) ∙ sym (outcome_code u (tag_delete u.tags name) (with_tags u))
change_depends t u (replacing_tag name vid) e = outcome_code t (tag_replace t.tags name vid) (λ r. with_tags t r.1) ∙ (λ i. code (tag_replace (e i) name vid)) ∙ sym (outcome_code u (tag_replace u.tags name vid) (λ r. with_tags u r.1))

-- nor do the lent tables after it
pub change_same : (t u : Tables) (c : Change) → SameForChange t u c → SameForChange (does t c).1 (does u c).1 c
unfolding does
change_same t u (writing c) e = part (λ (x : Tables). x.logs) t (write_commit t.logs c) (with_logs t) ∙ (λ i. chosen (e i) (write_commit (e i) c) (λ r. r)) ∙ sym (part (λ (x : Tables). x.logs) u (write_commit u.logs c) (with_logs u))
change_same t u (opening a x) e = (
  part (λ (x : Tables). x.volumes) t (open_volume t.volumes t.logs.commits a x) (λ r. with_volumes t r.1) ∙ (λ i. chosen (e.0 i) (open_volume (e.0 i) (e.1 i) a x) (λ r. r.1)) ∙ sym (part (λ (x : Tables). x.volumes) u (open_volume u.volumes u.logs.commits a x) (λ r. with_volumes u r.1)),
  part (λ (x : Tables). x.logs.commits) t (open_volume t.volumes t.logs.commits a x) (λ r. with_volumes t r.1) ∙ (λ i. chosen (e.1 i) (open_volume (e.0 i) (e.1 i) a x) (λ r. (e.1 i))) ∙ sym (part (λ (x : Tables). x.logs.commits) u (open_volume u.volumes u.logs.commits a x) (λ r. with_volumes u r.1)),
)
change_same t u (saving vid s count sid pages) e = (
  part (λ (x : Tables). x.volumes) t (save t.volumes t.logs t.presence vid s count sid pages) (λ r. with_presence (with_logs t r.1) r.2) ∙ (λ i. chosen (e.0 i) (save (e.0 i) (e.1 i) (e.2 i) vid s count sid pages) (λ r. (e.0 i))) ∙ sym (part (λ (x : Tables). x.volumes) u (save u.volumes u.logs u.presence vid s count sid pages) (λ r. with_presence (with_logs u r.1) r.2)),
  part (λ (x : Tables). x.logs) t (save t.volumes t.logs t.presence vid s count sid pages) (λ r. with_presence (with_logs t r.1) r.2) ∙ (λ i. chosen (e.1 i) (save (e.0 i) (e.1 i) (e.2 i) vid s count sid pages) (λ r. r.1)) ∙ sym (part (λ (x : Tables). x.logs) u (save u.volumes u.logs u.presence vid s count sid pages) (λ r. with_presence (with_logs u r.1) r.2)),
  part (λ (x : Tables). x.presence) t (save t.volumes t.logs t.presence vid s count sid pages) (λ r. with_presence (with_logs t r.1) r.2) ∙ (λ i. chosen (e.2 i) (save (e.0 i) (e.1 i) (e.2 i) vid s count sid pages) (λ r. r.2)) ∙ sym (part (λ (x : Tables). x.presence) u (save u.volumes u.logs u.presence vid s count sid pages) (λ r. with_presence (with_logs u r.1) r.2)),
)
change_same t u (preparing vid p) e = (
  part (λ (x : Tables). x.volumes) t (prepare t.volumes t.logs.commits vid p) (with_volumes t) ∙ (λ i. chosen (e.0 i) (prepare (e.0 i) (e.1 i) vid p) (λ r. r)) ∙ sym (part (λ (x : Tables). x.volumes) u (prepare u.volumes u.logs.commits vid p) (with_volumes u)),
  part (λ (x : Tables). x.logs.commits) t (prepare t.volumes t.logs.commits vid p) (with_volumes t) ∙ (λ i. chosen (e.1 i) (prepare (e.0 i) (e.1 i) vid p) (λ r. (e.1 i))) ∙ sym (part (λ (x : Tables). x.logs.commits) u (prepare u.volumes u.logs.commits vid p) (with_volumes u)),
)
change_same t u (succeeding vid c) e = (
  part (λ (x : Tables). x.volumes) t (success t.volumes t.logs vid c) (λ r. with_logs (with_volumes t r.0) r.1) ∙ (λ i. chosen (e.0 i) (success (e.0 i) (e.1 i) vid c) (λ r. r.0)) ∙ sym (part (λ (x : Tables). x.volumes) u (success u.volumes u.logs vid c) (λ r. with_logs (with_volumes u r.0) r.1)),
  part (λ (x : Tables). x.logs) t (success t.volumes t.logs vid c) (λ r. with_logs (with_volumes t r.0) r.1) ∙ (λ i. chosen (e.1 i) (success (e.0 i) (e.1 i) vid c) (λ r. r.1)) ∙ sym (part (λ (x : Tables). x.logs) u (success u.volumes u.logs vid c) (λ r. with_logs (with_volumes u r.0) r.1)),
)
change_same t u (dropping vid) e = part (λ (x : Tables). x.volumes) t (drop_pending t.volumes vid) (with_volumes t) ∙ (λ i. chosen (e i) (drop_pending (e i) vid) (λ r. r)) ∙ sym (part (λ (x : Tables). x.volumes) u (drop_pending u.volumes vid) (with_volumes u))
change_same t u (recovering vid) e = (λ i. (recover (e.0 i) (e.1 i) vid).1, λ i. (recover (e.0 i) (e.1 i) vid).2)
change_same t u (syncing vid) e = (
  part (λ (x : Tables). x.volumes) t (sync t.volumes t.logs.commits vid) (with_volumes t) ∙ (λ i. chosen (e.0 i) (sync (e.0 i) (e.1 i) vid) (λ r. r)) ∙ sym (part (λ (x : Tables). x.volumes) u (sync u.volumes u.logs.commits vid) (with_volumes u)),
  part (λ (x : Tables). x.logs.commits) t (sync t.volumes t.logs.commits vid) (with_volumes t) ∙ (λ i. chosen (e.1 i) (sync (e.0 i) (e.1 i) vid) (λ r. (e.1 i))) ∙ sym (part (λ (x : Tables). x.logs.commits) u (sync u.volumes u.logs.commits vid) (with_volumes u)),
)
change_same t u (copying s x) e = (
  part (λ (x : Tables). x.volumes) t (from_snapshot t.volumes t.logs s x) (λ r. with_logs (with_volumes t r.1) r.2) ∙ (λ i. chosen (e.0 i) (from_snapshot (e.0 i) (e.1 i) s x) (λ r. r.1)) ∙ sym (part (λ (x : Tables). x.volumes) u (from_snapshot u.volumes u.logs s x) (λ r. with_logs (with_volumes u r.1) r.2)),
  part (λ (x : Tables). x.logs) t (from_snapshot t.volumes t.logs s x) (λ r. with_logs (with_volumes t r.1) r.2) ∙ (λ i. chosen (e.1 i) (from_snapshot (e.0 i) (e.1 i) s x) (λ r. r.2)) ∙ sym (part (λ (x : Tables). x.logs) u (from_snapshot u.volumes u.logs s x) (λ r. with_logs (with_volumes u r.1) r.2)),
)
change_same t u (copying_ref log lsn x) e = (
  part (λ (x : Tables). x.volumes) t (from_logref t.volumes t.logs log lsn x) (λ r. with_logs (with_volumes t r.1) r.2) ∙ (λ i. chosen (e.0 i) (from_logref (e.0 i) (e.1 i) log lsn x) (λ r. r.1)) ∙ sym (part (λ (x : Tables). x.volumes) u (from_logref u.volumes u.logs log lsn x) (λ r. with_logs (with_volumes u r.1) r.2)),
  part (λ (x : Tables). x.logs) t (from_logref t.volumes t.logs log lsn x) (λ r. with_logs (with_volumes t r.1) r.2) ∙ (λ i. chosen (e.1 i) (from_logref (e.0 i) (e.1 i) log lsn x) (λ r. r.2)) ∙ sym (part (λ (x : Tables). x.logs) u (from_logref u.volumes u.logs log lsn x) (λ r. with_logs (with_volumes u r.1) r.2)),
)
change_same t u (deleting_volume vid) e = part (λ (x : Tables). x.volumes) t (volume_delete t.volumes vid) (with_volumes t) ∙ (λ i. chosen (e i) (volume_delete (e i) vid) (λ r. r)) ∙ sym (part (λ (x : Tables). x.volumes) u (volume_delete u.volumes vid) (with_volumes u))
change_same t u (marking sid page) e = part (λ (x : Tables). x.presence) t (page_mark t.presence sid page) (with_presence t) ∙ (λ i. chosen (e i) (page_mark (e i) sid page) (λ r. r)) ∙ sym (part (λ (x : Tables). x.presence) u (page_mark u.presence sid page) (with_presence u))
change_same t u (unmarking sid page) e = part (λ (x : Tables). x.presence) t (page_remove t.presence sid page) (with_presence t) ∙ (λ i. chosen (e i) (page_remove (e i) sid page) (λ r. r)) ∙ sym (part (λ (x : Tables). x.presence) u (page_remove u.presence sid page) (with_presence u))
change_same t u (unmarking_all sid a b) e = part (λ (x : Tables). x.presence) t (pages_remove t.presence sid a b) (with_presence t) ∙ (λ i. chosen (e i) (pages_remove (e i) sid a b) (λ r. r)) ∙ sym (part (λ (x : Tables). x.presence) u (pages_remove u.presence sid a b) (with_presence u))
change_same t u (deleting_tag name) e = part (λ (x : Tables). x.tags) t (tag_delete t.tags name) (with_tags t) ∙ (λ i. chosen (e i) (tag_delete (e i) name) (λ r. r)) ∙ sym (part (λ (x : Tables). x.tags) u (tag_delete u.tags name) (with_tags u))
change_same t u (replacing_tag name vid) e = part (λ (x : Tables). x.tags) t (tag_replace t.tags name vid) (λ r. with_tags t r.1) ∙ (λ i. chosen (e i) (tag_replace (e i) name vid) (λ r. r.1)) ∙ sym (part (λ (x : Tables). x.tags) u (tag_replace u.tags name vid) (λ r. with_tags u r.1))

-- the number of a reading call depends on no table that it is not lent
pub reading_depends : (t u : Tables) (r : Reading) → SameForReading t u r → reads t r ≡ reads u r
unfolding reads
reading_depends t u (taking_snapshot vid) e = λ i. code (snapshot (e.0 i) (e.1 i) vid)
reading_depends t u (checking_latest vid s) e = λ i. code (latest_check (e.0 i) (e.1 i) vid s)
reading_depends t u (walking slots s) e = λ i. code (walk (e i) slots s)
reading_depends t u (listing_missing slots s) e = λ i. code (missing_frames (e.0 i) (e.1 i) slots s)
reading_depends t u (listing_commits slots s) e = λ i. code (snapshot_commits (e i) slots s)
reading_depends t u (searching s p) e = λ i. code (search_page (e.0 i) (e.1 i) s p)
reading_depends t u (reading_volume vid) e = λ i. code (volume_read (e i) vid)
reading_depends t u (asking_volume vid) e = λ i. code (volume_exists (e i) vid)
reading_depends t u (listing_volumes slots) e = λ i. code (volume_list (e i) slots)
reading_depends t u (reading_commit log lsn) e = λ i. code (commit_read (e i) log lsn)
reading_depends t u (reading_latest_lsn log) e = λ i. code (latest_lsn_read (e i) log)
reading_depends t u (reading_latest log) e = λ i. code (latest_commit_read (e i) log)
reading_depends t u (reading_count log lsn) e = λ i. code (page_count_read (e i) log lsn)
reading_depends t u (looking_up_checkpoint log lsn) e = λ i. code (checkpoint_read (e i) log lsn)
reading_depends t u (listing_lsns slots r) e = λ i. code (stored_lsns (e i) slots r)
reading_depends t u (asking_page sid page) e = λ i. code (page_present (e i) sid page)
reading_depends t u (reading_tag name) e = λ i. code (tag_read (e i) name)
reading_depends t u (asking_tag name) e = λ i. code (tag_exists (e i) name)
reading_depends t u (listing_tags slots) e = λ i. code (tag_list (e i) slots)
