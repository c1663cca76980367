-- For each call its number is one of its row, and 20 exactly if a table that it is lent is not well formed; recover's 8 and search's 21 as equivalences;
-- 17 is no call's number; a refusal changes nothing, but for recover's 8.
use Rattle.std.proofs.Common.{◌≡◌, ℕ, true, false, ◌&&◌, eqb, ◌⊎◌, ◌↔◌, List, [], ◌∷◌, ◌++◌, sym, refl, ap, ◌∙◌, inl, inr, ⊎_elim, arith}
use mathlib.Core.List.Memᴰ
use mathlib.Core.List.{Memᴰ}
use mathlib.Core.Option.{Option, none, some}
use mathlib.Core.Bool.{or-true}
use Rattle.basics.specs.Answers.{Answer, refused, done, code}
use Rattle.basics.specs.Numbers.{counts}
use Rattle.rules.specs.Lists.{first, any}
use Rattle.basics.specs.Orders.{bytes}
use Rattle.rules.specs.Records.{Id, Commit, Pending, Volume, Entry, Range, Snapshot, volume_key}
use Rattle.rules.specs.Tables.{Table, fits, store, commits_formed, checkpoints_formed, index_formed, presence_formed, volumes_formed, tags_formed, get_volume, get_commit}
use Rattle.rules.specs.Arguments.{snapshot_lsns, snapshot_order, snapshot_form}
use Rattle.rules.specs.Write.{Logs, write, logs_formed, logs_fit, write_commit}
use Rattle.rules.specs.Open.{open_volume}
use Rattle.rules.specs.Snapshots.{snapshot, latest_check}
use Rattle.rules.specs.Save.{save}
use Rattle.rules.specs.Push.{with_pending, prepare, is_hash, pushed_volume, push, success, drop_pending, leaves, recover_by, recover_pending, recover}
use Rattle.rules.specs.Sync.{sync}
use Rattle.rules.specs.Walk.{snapshot_commits, walk, missing_frames}
use Rattle.rules.specs.Search.{entry_in, search_path, search_page}
use Rattle.rules.specs.Copies.{from_snapshot, from_logref}
use Rattle.rules.specs.Reads.{volume_read, volume_exists, volume_list, volume_delete, commit_read, latest_lsn_read, latest_commit_read, page_count_read, checkpoint_read, stored_lsns, page_present, page_mark, page_remove, pages_remove, tag_read, tag_exists, tag_list, tag_delete, tag_replace}
use Rattle.rules.specs.Calls.{Tables, Change, writing, opening, saving, preparing, succeeding, dropping, recovering, syncing, copying, copying_ref, deleting_volume, marking, unmarking, unmarking_all, deleting_tag, replacing_tag, Reading, taking_snapshot, checking_latest, walking, listing_missing, listing_commits, searching, reading_volume, asking_volume, listing_volumes, reading_commit, reading_latest_lsn, reading_latest, reading_count, looking_up_checkpoint, listing_lsns, asking_page, reading_tag, asking_tag, listing_tags, outcome, does, reads, change_numbers, reading_numbers, with_volumes, with_logs, with_presence, with_tags}
use Rattle.rules.specs.Demand.{valid}
use Rattle.rules.specs.Lent.{lent_to_change, lent_to_reading}
use Rattle.rules.specs.Promises.{one_of, Diverged, Lost, Orphan, Dropped}
use Rattle.rules.proofs.TableLaws.{cases, options, clash, and_fst, and_snd, and_both}
use Rattle.rules.proofs.AnswerLaws.{refused_done, ask_past}
use Rattle.rules.proofs.Checks.{row_20, row_outcome, row_code, only_20, outcome_code, write_commit_past, open_volume_past, save_past, prepare_past, success_past, drop_pending_past, from_snapshot_past, from_logref_past, volume_delete_past, page_mark_past, page_remove_past, pages_remove_past, tag_delete_past, tag_replace_past, snapshot_past, latest_check_past, walk_past, missing_frames_past, snapshot_commits_past, search_page_past, volume_read_past, volume_exists_past, volume_list_past, commit_read_past, latest_lsn_read_past, latest_commit_read_past, page_count_read_past, checkpoint_read_past, stored_lsns_past, page_present_past, tag_read_past, tag_exists_past, tag_list_past, write_commit_20, open_volume_20, save_20, prepare_20, success_20, drop_pending_20, sync_20, from_snapshot_20, from_logref_20, volume_delete_20, page_mark_20, page_remove_20, pages_remove_20, tag_delete_20, tag_replace_20, snapshot_20, latest_check_20, walk_20, missing_frames_20, snapshot_commits_20, search_page_20, volume_read_20, volume_exists_20, volume_list_20, commit_read_20, latest_lsn_read_20, latest_commit_read_20, page_count_read_20, checkpoint_read_20, stored_lsns_20, page_present_20, tag_read_20, tag_exists_20, tag_list_20, sync_numbers, recover_numbers, recover_20}

-- ---- rows, and 20

one_more : (ns : List ℕ) (m n : ℕ) → one_of ns n ≡ true → one_of (m ∷ ns) n ≡ true
unfolding any
one_more ns m n h = rw h (or-true (eqb n m))

by_outcome : {A P : Type 0} (t : Tables) (a : Answer A) (f : A → Tables) → (code a ≡ 20) ↔ P → ((outcome t a f).0 ≡ 20) ↔ P
by_outcome t a f h = (λ e. h.0 (sym (outcome_code t a f) ∙ e), λ p. outcome_code t a f ∙ h.1 p)

-- T4: the number of a changing call is one of its row
pub change_number : (t : Tables) (c : Change) → one_of (change_numbers c) (does t c).0 ≡ true
unfolding does any
change_number t (writing c) = row_outcome (20 ∷ 1 ∷ 3 ∷ 19 ∷ 0 ∷ []) t (write_commit t.logs c) _ (row_20 (1 ∷ 3 ∷ 19 ∷ 0 ∷ []) (logs_formed t.logs) (write_commit t.logs c) (write_commit_past t.logs c) (write_commit_20 t.logs c))
change_number t (opening a x) = row_outcome (20 ∷ 6 ∷ 5 ∷ 19 ∷ 0 ∷ []) t (open_volume t.volumes t.logs.commits a x) _ (row_20 (6 ∷ 5 ∷ 19 ∷ 0 ∷ []) (volumes_formed t.volumes && commits_formed t.logs.commits) (open_volume t.volumes t.logs.commits a x) (open_volume_past t.volumes t.logs.commits a x) (open_volume_20 t.volumes t.logs.commits a x))
change_number t (saving vid s count sid pages) = row_outcome (20 ∷ 1 ∷ 2 ∷ 3 ∷ 4 ∷ 7 ∷ 18 ∷ 5 ∷ 19 ∷ 0 ∷ []) t (save t.volumes t.logs t.presence vid s count sid pages) _ (row_20 (1 ∷ 2 ∷ 3 ∷ 4 ∷ 7 ∷ 18 ∷ 5 ∷ 19 ∷ 0 ∷ []) (volumes_formed t.volumes && logs_formed t.logs && presence_formed t.presence) (save t.volumes t.logs t.presence vid s count sid pages) (save_past t.volumes t.logs t.presence vid s count sid pages) (save_20 t.volumes t.logs t.presence vid s count sid pages))
change_number t (preparing vid p) = row_outcome (20 ∷ 1 ∷ 4 ∷ 9 ∷ 11 ∷ 12 ∷ 13 ∷ 0 ∷ []) t (prepare t.volumes t.logs.commits vid p) _ (row_20 (1 ∷ 4 ∷ 9 ∷ 11 ∷ 12 ∷ 13 ∷ 0 ∷ []) (volumes_formed t.volumes && commits_formed t.logs.commits) (prepare t.volumes t.logs.commits vid p) (prepare_past t.volumes t.logs.commits vid p) (prepare_20 t.volumes t.logs.commits vid p))
change_number t (succeeding vid c) = row_outcome (20 ∷ 1 ∷ 3 ∷ 4 ∷ 10 ∷ 14 ∷ 15 ∷ 19 ∷ 0 ∷ []) t (success t.volumes t.logs vid c) _ (row_20 (1 ∷ 3 ∷ 4 ∷ 10 ∷ 14 ∷ 15 ∷ 19 ∷ 0 ∷ []) (volumes_formed t.volumes && logs_formed t.logs) (success t.volumes t.logs vid c) (success_past t.volumes t.logs vid c) (success_20 t.volumes t.logs vid c))
change_number t (dropping vid) = row_outcome (20 ∷ 4 ∷ 0 ∷ []) t (drop_pending t.volumes vid) _ (row_20 (4 ∷ 0 ∷ []) (volumes_formed t.volumes) (drop_pending t.volumes vid) (drop_pending_past t.volumes vid) (drop_pending_20 t.volumes vid))
change_number t (recovering vid) = cases (volumes_formed t.volumes && logs_formed t.logs) (λ q. one_more (4 ∷ 19 ∷ 8 ∷ 0 ∷ []) 20 (recover t.volumes t.logs vid).0 (recover_numbers t.volumes t.logs vid q)) (λ q. rw (recover_20 t.volumes t.logs vid q))
change_number t (syncing vid) = row_outcome (20 ∷ 4 ∷ 16 ∷ 8 ∷ 0 ∷ []) t (sync t.volumes t.logs.commits vid) _ (row_20 (4 ∷ 16 ∷ 8 ∷ 0 ∷ []) (volumes_formed t.volumes && commits_formed t.logs.commits) (sync t.volumes t.logs.commits vid) (sync_numbers t.volumes t.logs.commits vid) (sync_20 t.volumes t.logs.commits vid))
change_number t (copying s x) = row_outcome (20 ∷ 1 ∷ 2 ∷ 3 ∷ 5 ∷ 19 ∷ 0 ∷ []) t (from_snapshot t.volumes t.logs s x) _ (row_20 (1 ∷ 2 ∷ 3 ∷ 5 ∷ 19 ∷ 0 ∷ []) (volumes_formed t.volumes && logs_formed t.logs) (from_snapshot t.volumes t.logs s x) (from_snapshot_past t.volumes t.logs s x) (from_snapshot_20 t.volumes t.logs s x))
change_number t (copying_ref log lsn x) = row_outcome (20 ∷ 1 ∷ 5 ∷ 19 ∷ 0 ∷ []) t (from_logref t.volumes t.logs log lsn x) _ (row_20 (1 ∷ 5 ∷ 19 ∷ 0 ∷ []) (volumes_formed t.volumes && logs_formed t.logs) (from_logref t.volumes t.logs log lsn x) (from_logref_past t.volumes t.logs log lsn x) (from_logref_20 t.volumes t.logs log lsn x))
change_number t (deleting_volume vid) = row_outcome (20 ∷ 0 ∷ []) t (volume_delete t.volumes vid) _ (row_20 (0 ∷ []) (volumes_formed t.volumes) (volume_delete t.volumes vid) (volume_delete_past t.volumes vid) (volume_delete_20 t.volumes vid))
change_number t (marking sid page) = row_outcome (20 ∷ 1 ∷ 19 ∷ 0 ∷ []) t (page_mark t.presence sid page) _ (row_20 (1 ∷ 19 ∷ 0 ∷ []) (presence_formed t.presence) (page_mark t.presence sid page) (page_mark_past t.presence sid page) (page_mark_20 t.presence sid page))
change_number t (unmarking sid page) = row_outcome (20 ∷ 1 ∷ 0 ∷ []) t (page_remove t.presence sid page) _ (row_20 (1 ∷ 0 ∷ []) (presence_formed t.presence) (page_remove t.presence sid page) (page_remove_past t.presence sid page) (page_remove_20 t.presence sid page))
change_number t (unmarking_all sid a b) = row_outcome (20 ∷ 1 ∷ 2 ∷ 0 ∷ []) t (pages_remove t.presence sid a b) _ (row_20 (1 ∷ 2 ∷ 0 ∷ []) (presence_formed t.presence) (pages_remove t.presence sid a b) (pages_remove_past t.presence sid a b) (pages_remove_20 t.presence sid a b))
change_number t (deleting_tag name) = row_outcome (20 ∷ 1 ∷ 0 ∷ []) t (tag_delete t.tags name) _ (row_20 (1 ∷ 0 ∷ []) (tags_formed t.tags) (tag_delete t.tags name) (tag_delete_past t.tags name) (tag_delete_20 t.tags name))
change_number t (replacing_tag name vid) = row_outcome (20 ∷ 1 ∷ 19 ∷ 0 ∷ []) t (tag_replace t.tags name vid) _ (row_20 (1 ∷ 19 ∷ 0 ∷ []) (tags_formed t.tags) (tag_replace t.tags name vid) (tag_replace_past t.tags name vid) (tag_replace_20 t.tags name vid))

-- T4: and that of a reading call
pub reading_number : (t : Tables) (r : Reading) → one_of (reading_numbers r) (reads t r) ≡ true
unfolding reads any
reading_number t (taking_snapshot vid) = row_code (20 ∷ 4 ∷ 0 ∷ []) (snapshot t.volumes t.logs.commits vid) (row_20 (4 ∷ 0 ∷ []) (volumes_formed t.volumes && commits_formed t.logs.commits) (snapshot t.volumes t.logs.commits vid) (snapshot_past t.volumes t.logs.commits vid) (snapshot_20 t.volumes t.logs.commits vid))
reading_number t (checking_latest vid s) = row_code (20 ∷ 1 ∷ 2 ∷ 3 ∷ 4 ∷ 0 ∷ []) (latest_check t.volumes t.logs.commits vid s) (row_20 (1 ∷ 2 ∷ 3 ∷ 4 ∷ 0 ∷ []) (volumes_formed t.volumes && commits_formed t.logs.commits) (latest_check t.volumes t.logs.commits vid s) (latest_check_past t.volumes t.logs.commits vid s) (latest_check_20 t.volumes t.logs.commits vid s))
reading_number t (walking slots s) = row_code (20 ∷ 1 ∷ 2 ∷ 3 ∷ 19 ∷ 0 ∷ []) (walk t.logs.commits slots s) (row_20 (1 ∷ 2 ∷ 3 ∷ 19 ∷ 0 ∷ []) (commits_formed t.logs.commits) (walk t.logs.commits slots s) (walk_past t.logs.commits slots s) (walk_20 t.logs.commits slots s))
reading_number t (listing_missing slots s) = row_code (20 ∷ 1 ∷ 2 ∷ 3 ∷ 19 ∷ 0 ∷ []) (missing_frames t.logs.commits t.presence slots s) (row_20 (1 ∷ 2 ∷ 3 ∷ 19 ∷ 0 ∷ []) (commits_formed t.logs.commits && presence_formed t.presence) (missing_frames t.logs.commits t.presence slots s) (missing_frames_past t.logs.commits t.presence slots s) (missing_frames_20 t.logs.commits t.presence slots s))
reading_number t (listing_commits slots s) = row_code (20 ∷ 1 ∷ 2 ∷ 3 ∷ 19 ∷ 0 ∷ []) (snapshot_commits t.logs.commits slots s) (row_20 (1 ∷ 2 ∷ 3 ∷ 19 ∷ 0 ∷ []) (commits_formed t.logs.commits) (snapshot_commits t.logs.commits slots s) (snapshot_commits_past t.logs.commits slots s) (snapshot_commits_20 t.logs.commits slots s))
reading_number t (searching s p) = row_code (20 ∷ 1 ∷ 2 ∷ 3 ∷ 21 ∷ 0 ∷ []) (search_page t.logs.commits t.logs.index s p) (row_20 (1 ∷ 2 ∷ 3 ∷ 21 ∷ 0 ∷ []) (commits_formed t.logs.commits && index_formed t.logs.index) (search_page t.logs.commits t.logs.index s p) (search_page_past t.logs.commits t.logs.index s p) (search_page_20 t.logs.commits t.logs.index s p))
reading_number t (reading_volume vid) = row_code (20 ∷ 4 ∷ 0 ∷ []) (volume_read t.volumes vid) (row_20 (4 ∷ 0 ∷ []) (volumes_formed t.volumes) (volume_read t.volumes vid) (volume_read_past t.volumes vid) (volume_read_20 t.volumes vid))
reading_number t (asking_volume vid) = row_code (20 ∷ 0 ∷ []) (volume_exists t.volumes vid) (row_20 (0 ∷ []) (volumes_formed t.volumes) (volume_exists t.volumes vid) (volume_exists_past t.volumes vid) (volume_exists_20 t.volumes vid))
reading_number t (listing_volumes slots) = row_code (20 ∷ 19 ∷ 0 ∷ []) (volume_list t.volumes slots) (row_20 (19 ∷ 0 ∷ []) (volumes_formed t.volumes) (volume_list t.volumes slots) (volume_list_past t.volumes slots) (volume_list_20 t.volumes slots))
reading_number t (reading_commit log lsn) = row_code (20 ∷ 1 ∷ 0 ∷ []) (commit_read t.logs.commits log lsn) (row_20 (1 ∷ 0 ∷ []) (commits_formed t.logs.commits) (commit_read t.logs.commits log lsn) (commit_read_past t.logs.commits log lsn) (commit_read_20 t.logs.commits log lsn))
reading_number t (reading_latest_lsn log) = row_code (20 ∷ 0 ∷ []) (latest_lsn_read t.logs.commits log) (row_20 (0 ∷ []) (commits_formed t.logs.commits) (latest_lsn_read t.logs.commits log) (latest_lsn_read_past t.logs.commits log) (latest_lsn_read_20 t.logs.commits log))
reading_number t (reading_latest log) = row_code (20 ∷ 0 ∷ []) (latest_commit_read t.logs.commits log) (row_20 (0 ∷ []) (commits_formed t.logs.commits) (latest_commit_read t.logs.commits log) (latest_commit_read_past t.logs.commits log) (latest_commit_read_20 t.logs.commits log))
reading_number t (reading_count log lsn) = row_code (20 ∷ 1 ∷ 0 ∷ []) (page_count_read t.logs.commits log lsn) (row_20 (1 ∷ 0 ∷ []) (commits_formed t.logs.commits) (page_count_read t.logs.commits log lsn) (page_count_read_past t.logs.commits log lsn) (page_count_read_20 t.logs.commits log lsn))
reading_number t (looking_up_checkpoint log lsn) = row_code (20 ∷ 1 ∷ 0 ∷ []) (checkpoint_read t.logs.checkpoints log lsn) (row_20 (1 ∷ 0 ∷ []) (checkpoints_formed t.logs.checkpoints) (checkpoint_read t.logs.checkpoints log lsn) (checkpoint_read_past t.logs.checkpoints log lsn) (checkpoint_read_20 t.logs.checkpoints log lsn))
reading_number t (listing_lsns slots r) = row_code (20 ∷ 1 ∷ 2 ∷ 19 ∷ 0 ∷ []) (stored_lsns t.logs.commits slots r) (row_20 (1 ∷ 2 ∷ 19 ∷ 0 ∷ []) (commits_formed t.logs.commits) (stored_lsns t.logs.commits slots r) (stored_lsns_past t.logs.commits slots r) (stored_lsns_20 t.logs.commits slots r))
reading_number t (asking_page sid page) = row_code (20 ∷ 1 ∷ 0 ∷ []) (page_present t.presence sid page) (row_20 (1 ∷ 0 ∷ []) (presence_formed t.presence) (page_present t.presence sid page) (page_present_past t.presence sid page) (page_present_20 t.presence sid page))
reading_number t (reading_tag name) = row_code (20 ∷ 1 ∷ 0 ∷ []) (tag_read t.tags name) (row_20 (1 ∷ 0 ∷ []) (tags_formed t.tags) (tag_read t.tags name) (tag_read_past t.tags name) (tag_read_20 t.tags name))
reading_number t (asking_tag name) = row_code (20 ∷ 1 ∷ 0 ∷ []) (tag_exists t.tags name) (row_20 (1 ∷ 0 ∷ []) (tags_formed t.tags) (tag_exists t.tags name) (tag_exists_past t.tags name) (tag_exists_20 t.tags name))
reading_number t (listing_tags slots) = row_code (20 ∷ 19 ∷ 0 ∷ []) (tag_list t.tags slots) (row_20 (19 ∷ 0 ∷ []) (tags_formed t.tags) (tag_list t.tags slots) (tag_list_past t.tags slots) (tag_list_20 t.tags slots))

-- T4: and 20 exactly if a table that it is lent is not well formed
pub change_20 : (t : Tables) (c : Change) → ((does t c).0 ≡ 20) ↔ (lent_to_change t c ≡ false)
unfolding does any
change_20 t (writing c) = by_outcome t (write_commit t.logs c) _ (only_20 (1 ∷ 3 ∷ 19 ∷ 0 ∷ []) (logs_formed t.logs) (write_commit t.logs c) refl (write_commit_past t.logs c) (write_commit_20 t.logs c))
change_20 t (opening a x) = by_outcome t (open_volume t.volumes t.logs.commits a x) _ (only_20 (6 ∷ 5 ∷ 19 ∷ 0 ∷ []) (volumes_formed t.volumes && commits_formed t.logs.commits) (open_volume t.volumes t.logs.commits a x) refl (open_volume_past t.volumes t.logs.commits a x) (open_volume_20 t.volumes t.logs.commits a x))
change_20 t (saving vid s count sid pages) = by_outcome t (save t.volumes t.logs t.presence vid s count sid pages) _ (only_20 (1 ∷ 2 ∷ 3 ∷ 4 ∷ 7 ∷ 18 ∷ 5 ∷ 19 ∷ 0 ∷ []) (volumes_formed t.volumes && logs_formed t.logs && presence_formed t.presence) (save t.volumes t.logs t.presence vid s count sid pages) refl (save_past t.volumes t.logs t.presence vid s count sid pages) (save_20 t.volumes t.logs t.presence vid s count sid pages))
change_20 t (preparing vid p) = by_outcome t (prepare t.volumes t.logs.commits vid p) _ (only_20 (1 ∷ 4 ∷ 9 ∷ 11 ∷ 12 ∷ 13 ∷ 0 ∷ []) (volumes_formed t.volumes && commits_formed t.logs.commits) (prepare t.volumes t.logs.commits vid p) refl (prepare_past t.volumes t.logs.commits vid p) (prepare_20 t.volumes t.logs.commits vid p))
change_20 t (succeeding vid c) = by_outcome t (success t.volumes t.logs vid c) _ (only_20 (1 ∷ 3 ∷ 4 ∷ 10 ∷ 14 ∷ 15 ∷ 19 ∷ 0 ∷ []) (volumes_formed t.volumes && logs_formed t.logs) (success t.volumes t.logs vid c) refl (success_past t.volumes t.logs vid c) (success_20 t.volumes t.logs vid c))
change_20 t (dropping vid) = by_outcome t (drop_pending t.volumes vid) _ (only_20 (4 ∷ 0 ∷ []) (volumes_formed t.volumes) (drop_pending t.volumes vid) refl (drop_pending_past t.volumes vid) (drop_pending_20 t.volumes vid))
change_20 t (recovering vid) = (λ e. cases (volumes_formed t.volumes && logs_formed t.logs) (λ q. absurd (clash (ap (one_of (4 ∷ 19 ∷ 8 ∷ 0 ∷ [])) (sym e) ∙ recover_numbers t.volumes t.logs vid q) refl)) (λ q. q), λ q. recover_20 t.volumes t.logs vid q)
change_20 t (syncing vid) = by_outcome t (sync t.volumes t.logs.commits vid) _ (only_20 (4 ∷ 16 ∷ 8 ∷ 0 ∷ []) (volumes_formed t.volumes && commits_formed t.logs.commits) (sync t.volumes t.logs.commits vid) refl (sync_numbers t.volumes t.logs.commits vid) (sync_20 t.volumes t.logs.commits vid))
change_20 t (copying s x) = by_outcome t (from_snapshot t.volumes t.logs s x) _ (only_20 (1 ∷ 2 ∷ 3 ∷ 5 ∷ 19 ∷ 0 ∷ []) (volumes_formed t.volumes && logs_formed t.logs) (from_snapshot t.volumes t.logs s x) refl (from_snapshot_past t.volumes t.logs s x) (from_snapshot_20 t.volumes t.logs s x))
change_20 t (copying_ref log lsn x) = by_outcome t (from_logref t.volumes t.logs log lsn x) _ (only_20 (1 ∷ 5 ∷ 19 ∷ 0 ∷ []) (volumes_formed t.volumes && logs_formed t.logs) (from_logref t.volumes t.logs log lsn x) refl (from_logref_past t.volumes t.logs log lsn x) (from_logref_20 t.volumes t.logs log lsn x))
change_20 t (deleting_volume vid) = by_outcome t (volume_delete t.volumes vid) _ (only_20 (0 ∷ []) (volumes_formed t.volumes) (volume_delete t.volumes vid) refl (volume_delete_past t.volumes vid) (volume_delete_20 t.volumes vid))
change_20 t (marking sid page) = by_outcome t (page_mark t.presence sid page) _ (only_20 (1 ∷ 19 ∷ 0 ∷ []) (presence_formed t.presence) (page_mark t.presence sid page) refl (page_mark_past t.presence sid page) (page_mark_20 t.presence sid page))
change_20 t (unmarking sid page) = by_outcome t (page_remove t.presence sid page) _ (only_20 (1 ∷ 0 ∷ []) (presence_formed t.presence) (page_remove t.presence sid page) refl (page_remove_past t.presence sid page) (page_remove_20 t.presence sid page))
change_20 t (unmarking_all sid a b) = by_outcome t (pages_remove t.presence sid a b) _ (only_20 (1 ∷ 2 ∷ 0 ∷ []) (presence_formed t.presence) (pages_remove t.presence sid a b) refl (pages_remove_past t.presence sid a b) (pages_remove_20 t.presence sid a b))
change_20 t (deleting_tag name) = by_outcome t (tag_delete t.tags name) _ (only_20 (1 ∷ 0 ∷ []) (tags_formed t.tags) (tag_delete t.tags name) refl (tag_delete_past t.tags name) (tag_delete_20 t.tags name))
change_20 t (replacing_tag name vid) = by_outcome t (tag_replace t.tags name vid) _ (only_20 (1 ∷ 19 ∷ 0 ∷ []) (tags_formed t.tags) (tag_replace t.tags name vid) refl (tag_replace_past t.tags name vid) (tag_replace_20 t.tags name vid))

-- T4: and 20 exactly if a table that it is lent is not well formed
pub reading_20 : (t : Tables) (r : Reading) → (reads t r ≡ 20) ↔ (lent_to_reading t r ≡ false)
unfolding reads any
reading_20 t (taking_snapshot vid) = only_20 (4 ∷ 0 ∷ []) (volumes_formed t.volumes && commits_formed t.logs.commits) (snapshot t.volumes t.logs.commits vid) refl (snapshot_past t.volumes t.logs.commits vid) (snapshot_20 t.volumes t.logs.commits vid)
reading_20 t (checking_latest vid s) = only_20 (1 ∷ 2 ∷ 3 ∷ 4 ∷ 0 ∷ []) (volumes_formed t.volumes && commits_formed t.logs.commits) (latest_check t.volumes t.logs.commits vid s) refl (latest_check_past t.volumes t.logs.commits vid s) (latest_check_20 t.volumes t.logs.commits vid s)
reading_20 t (walking slots s) = only_20 (1 ∷ 2 ∷ 3 ∷ 19 ∷ 0 ∷ []) (commits_formed t.logs.commits) (walk t.logs.commits slots s) refl (walk_past t.logs.commits slots s) (walk_20 t.logs.commits slots s)
reading_20 t (listing_missing slots s) = only_20 (1 ∷ 2 ∷ 3 ∷ 19 ∷ 0 ∷ []) (commits_formed t.logs.commits && presence_formed t.presence) (missing_frames t.logs.commits t.presence slots s) refl (missing_frames_past t.logs.commits t.presence slots s) (missing_frames_20 t.logs.commits t.presence slots s)
reading_20 t (listing_commits slots s) = only_20 (1 ∷ 2 ∷ 3 ∷ 19 ∷ 0 ∷ []) (commits_formed t.logs.commits) (snapshot_commits t.logs.commits slots s) refl (snapshot_commits_past t.logs.commits slots s) (snapshot_commits_20 t.logs.commits slots s)
reading_20 t (searching s p) = only_20 (1 ∷ 2 ∷ 3 ∷ 21 ∷ 0 ∷ []) (commits_formed t.logs.commits && index_formed t.logs.index) (search_page t.logs.commits t.logs.index s p) refl (search_page_past t.logs.commits t.logs.index s p) (search_page_20 t.logs.commits t.logs.index s p)
reading_20 t (reading_volume vid) = only_20 (4 ∷ 0 ∷ []) (volumes_formed t.volumes) (volume_read t.volumes vid) refl (volume_read_past t.volumes vid) (volume_read_20 t.volumes vid)
reading_20 t (asking_volume vid) = only_20 (0 ∷ []) (volumes_formed t.volumes) (volume_exists t.volumes vid) refl (volume_exists_past t.volumes vid) (volume_exists_20 t.volumes vid)
reading_20 t (listing_volumes slots) = only_20 (19 ∷ 0 ∷ []) (volumes_formed t.volumes) (volume_list t.volumes slots) refl (volume_list_past t.volumes slots) (volume_list_20 t.volumes slots)
reading_20 t (reading_commit log lsn) = only_20 (1 ∷ 0 ∷ []) (commits_formed t.logs.commits) (commit_read t.logs.commits log lsn) refl (commit_read_past t.logs.commits log lsn) (commit_read_20 t.logs.commits log lsn)
reading_20 t (reading_latest_lsn log) = only_20 (0 ∷ []) (commits_formed t.logs.commits) (latest_lsn_read t.logs.commits log) refl (latest_lsn_read_past t.logs.commits log) (latest_lsn_read_20 t.logs.commits log)
reading_20 t (reading_latest log) = only_20 (0 ∷ []) (commits_formed t.logs.commits) (latest_commit_read t.logs.commits log) refl (latest_commit_read_past t.logs.commits log) (latest_commit_read_20 t.logs.commits log)
reading_20 t (reading_count log lsn) = only_20 (1 ∷ 0 ∷ []) (commits_formed t.logs.commits) (page_count_read t.logs.commits log lsn) refl (page_count_read_past t.logs.commits log lsn) (page_count_read_20 t.logs.commits log lsn)
reading_20 t (looking_up_checkpoint log lsn) = only_20 (1 ∷ 0 ∷ []) (checkpoints_formed t.logs.checkpoints) (checkpoint_read t.logs.checkpoints log lsn) refl (checkpoint_read_past t.logs.checkpoints log lsn) (checkpoint_read_20 t.logs.checkpoints log lsn)
reading_20 t (listing_lsns slots r) = only_20 (1 ∷ 2 ∷ 19 ∷ 0 ∷ []) (commits_formed t.logs.commits) (stored_lsns t.logs.commits slots r) refl (stored_lsns_past t.logs.commits slots r) (stored_lsns_20 t.logs.commits slots r)
reading_20 t (asking_page sid page) = only_20 (1 ∷ 0 ∷ []) (presence_formed t.presence) (page_present t.presence sid page) refl (page_present_past t.presence sid page) (page_present_20 t.presence sid page)
reading_20 t (reading_tag name) = only_20 (1 ∷ 0 ∷ []) (tags_formed t.tags) (tag_read t.tags name) refl (tag_read_past t.tags name) (tag_read_20 t.tags name)
reading_20 t (asking_tag name) = only_20 (1 ∷ 0 ∷ []) (tags_formed t.tags) (tag_exists t.tags name) refl (tag_exists_past t.tags name) (tag_exists_20 t.tags name)
reading_20 t (listing_tags slots) = only_20 (19 ∷ 0 ∷ []) (tags_formed t.tags) (tag_list t.tags slots) refl (tag_list_past t.tags slots) (tag_list_20 t.tags slots)

-- ---- recover's 8

leaves_not_8 : (vs : Table Volume) (g : Logs) (v : Volume) (p : Pending) (c : Commit) → (leaves vs g (push vs g v p c)).0 ≡ 8 → ⊥
leaves_not_8 vs g v p c e = by (push vs g v p c) refl e
  where
    by : (a : Answer (Table Volume × Logs)) → push vs g v p c ≡ a → (leaves vs g a).0 ≡ 8 → ⊥
    by (done r) q z = omega arith
    by (refused n) q z =
        refused_done (sym (ask_past (fits (store volume_key bytes (pushed_volume v p) vs) && logs_fit (write g c)) 19 (done (store volume_key bytes (pushed_volume v p) vs, write g c)) (λ h. let k : n ≡ 8 = z in omega arith) q).1)

-- T4: recover's 8 exactly if the stored remote commit has another hash or none
pub recover_8 : (vs : Table Volume) (g : Logs) (vid : Id) → ((recover vs g vid).0 ≡ 8) ↔ Diverged vs g vid
unfolding recover
recover_8 vs g vid = (to, λ d. rw (d.volumes, d.logs, d.is) (from d d.volume.pending d.prepared))
  where
    from : (d : Diverged vs g vid) (o : Option Pending) → o ≡ some d.pending → (recover_pending vs g d.volume o).0 ≡ 8
    from d o e = rw (e, d.stored, d.differs)

    by_commit : volumes_formed vs && logs_formed g ≡ true → (v : Volume) → get_volume vs vid ≡ some v → (p : Pending) → v.pending ≡ some p → (o : Option Commit)
        → get_commit g.commits v.remote p.commit ≡ o → (recover_by vs g v p o).0 ≡ 8 → Diverged vs g vid
    by_commit f v is p pe none q e = absurd (omega arith)
    by_commit f v is p pe (some c) q e =
        cases (is_hash c.hash p.hash) (λ h. absurd (leaves_not_8 vs g v p c (rw h at e)))
        (λ h. record { volumes = and_fst (volumes_formed vs) (logs_formed g) f; logs = and_snd (volumes_formed vs) (logs_formed g) f; volume = v; is = is; pending = p; prepared = pe; commit = c; stored = q; differs = h })

    by_pending : volumes_formed vs && logs_formed g ≡ true → (v : Volume) → get_volume vs vid ≡ some v → (o : Option Pending) → v.pending ≡ o → (recover_pending vs g v o).0 ≡ 8 → Diverged vs g vid
    by_pending f v is none q e = absurd (omega arith)
    by_pending f v is (some p) q e = by_commit f v is p q (get_commit g.commits v.remote p.commit) refl e

    to : (recover vs g vid).0 ≡ 8 → Diverged vs g vid
    to e =
        cases (volumes_formed vs && logs_formed g)
        (λ f. options (get_volume vs vid) (λ q. absurd (let z : 4 ≡ 8 = rw (f, q) at e in omega arith)) (λ v is. by_pending f v is v.pending refl (rw (f, is) at e)))
        (λ f. absurd (let z : 20 ≡ 8 = rw f at e in omega arith))

-- where recover answers 8 the pending commit is dropped, and nothing else changes
pub recover_dropped : (vs : Table Volume) (g : Logs) (vid : Id) (d : Diverged vs g vid) → recover vs g vid ≡ (8, store volume_key bytes (with_pending d.volume none) vs, g)
unfolding recover
recover_dropped vs g vid d = rw (d.volumes, d.logs, d.is) (from d.volume.pending d.prepared)
  where
    from : (o : Option Pending) → o ≡ some d.pending → recover_pending vs g d.volume o ≡ (8, store volume_key bytes (with_pending d.volume none) vs, g)
    from o e = rw (e, d.stored, d.differs)

-- ---- search's 21

path_lost : (cs : Table Commit) (es : Table Entry) (p : ℕ) (path : List Range) → search_path cs es p path ≡ refused 21 → Lost cs es p path
path_lost cs es p [] e = refused_done (sym e)
path_lost cs es p (r ∷ rs) e =
    options (first (entry_in r p) es.rows)
    (λ n. let l = path_lost cs es p rs (rw n at e) in record {
      before = r ∷ l.before;
      range = l.range;
      later = l.later;
      split = ap {B = List Range} (λ q. r ∷ q) l.split;
      earliest = λ q m. ⊎_elim (λ s. rw s n) (λ s. l.earliest q s) (Memᴰ.cases_cons m);
      entry = l.entry;
      found = l.found;
      alone = l.alone;
    })
    (λ x n. record {
      before = [];
      range = r;
      later = rs;
      split = refl;
      earliest = λ q m. absurd (Memᴰ.not-nil m);
      entry = x;
      found = n;
      alone = options (get_commit cs x.log x.lsn) (λ q. q) (λ c q. refused_done (sym (rw (n, q) at e)));
    })

lost_path : (cs : Table Commit) (es : Table Entry) (p : ℕ) (before later : List Range) (range : Range) (x : Entry) → ((r : Range) → Memᴰ r before → first (entry_in r p) es.rows ≡ none)
    → first (entry_in range p) es.rows ≡ some x → get_commit cs x.log x.lsn ≡ none → search_path cs es p (before ++ range ∷ later) ≡ refused 21
lost_path cs es p [] later range x h f n = rw (f, n)
lost_path cs es p (r ∷ before) later range x h f n = rw (h r (Memᴰ.head refl)) (lost_path cs es p before later range x (λ q m. h q (Memᴰ.tail m)) f n)

-- T4: 21 exactly if the entry that search goes by has no commit
pub search_21 : (cs : Table Commit) (es : Table Entry) (s : Snapshot) (p : ℕ) → (search_page cs es s p ≡ refused 21) ↔ Orphan cs es s p
unfolding search_page valid
search_21 cs es s p = (
  λ e.
      let a = ask_past (commits_formed cs && index_formed es) 20 _ (λ z. omega arith) e in
      let b = ask_past (snapshot_lsns s && counts p) 1 _ (λ z. omega arith) a.1 in
      let c = ask_past (snapshot_order s) 2 _ (λ z. omega arith) b.1 in
      let d = ask_past (snapshot_form s) 3 _ (λ z. omega arith) c.1 in
      record {
        commits = and_fst (commits_formed cs) (index_formed es) a.0;
        index = and_snd (commits_formed cs) (index_formed es) a.0;
        snapshot = and_both (and_both (and_fst (snapshot_lsns s) (counts p) b.0) c.0) d.0;
        page = and_snd (snapshot_lsns s) (counts p) b.0;
        lost = path_lost cs es p s.path d.1;
      },
  λ o.
      let v = o.snapshot in
      let one : snapshot_lsns s ≡ true = search (and_fst, and_snd) in
      let two : snapshot_order s ≡ true = search (and_fst, and_snd) in
      let three : snapshot_form s ≡ true = search (and_fst, and_snd) in
      let l = o.lost in
      rw (o.commits, o.index, one, o.page, two, three) (ap (search_path cs es p) l.split ∙ lost_path cs es p l.before l.later l.range l.entry l.earliest l.found l.alone),
)

-- ---- 17 is no call's number

no_17 : (c : Change) → one_of (change_numbers c) 17 ≡ false
unfolding any
no_17 (writing c) = refl
no_17 (opening a x) = refl
no_17 (saving vid s count sid pages) = refl
no_17 (preparing vid p) = refl
no_17 (succeeding vid c) = refl
no_17 (dropping vid) = refl
no_17 (recovering vid) = refl
no_17 (syncing vid) = refl
no_17 (copying s x) = refl
no_17 (copying_ref log lsn x) = refl
no_17 (deleting_volume vid) = refl
no_17 (marking sid page) = refl
no_17 (unmarking sid page) = refl
no_17 (unmarking_all sid a b) = refl
no_17 (deleting_tag name) = refl
no_17 (replacing_tag name vid) = refl

no_17_reading : (r : Reading) → one_of (reading_numbers r) 17 ≡ false
unfolding any
no_17_reading (taking_snapshot vid) = refl
no_17_reading (checking_latest vid s) = refl
no_17_reading (walking slots s) = refl
no_17_reading (listing_missing slots s) = refl
no_17_reading (listing_commits slots s) = refl
no_17_reading (searching s p) = refl
no_17_reading (reading_volume vid) = refl
no_17_reading (asking_volume vid) = refl
no_17_reading (listing_volumes slots) = refl
no_17_reading (reading_commit log lsn) = refl
no_17_reading (reading_latest_lsn log) = refl
no_17_reading (reading_latest log) = refl
no_17_reading (reading_count log lsn) = refl
no_17_reading (looking_up_checkpoint log lsn) = refl
no_17_reading (listing_lsns slots r) = refl
no_17_reading (asking_page sid page) = refl
no_17_reading (reading_tag name) = refl
no_17_reading (asking_tag name) = refl
no_17_reading (listing_tags slots) = refl

-- T4: 17 never
pub never_17 : (t : Tables) (c : Change) → (does t c).0 ≡ 17 → ⊥
never_17 t c e = clash (ap (one_of (change_numbers c)) (sym e) ∙ change_number t c) (no_17 c)

pub reading_never_17 : (t : Tables) (r : Reading) → reads t r ≡ 17 → ⊥
reading_never_17 t r e = clash (ap (one_of (reading_numbers r)) (sym e) ∙ reading_number t r) (no_17_reading r)

-- ---- a refusal changes nothing

outcome_same : {A : Type 0} (t : Tables) (c : Change) (a : Answer A) (f : A → Tables) → ((outcome t a f).0 ≡ 0) ⊎ (((outcome t a f).1 ≡ t) ⊎ Dropped t c)
outcome_same t c (refused n) f = inr (inl refl)
outcome_same t c (done x) f = inl refl

-- recover that does not answer 8 is done, or leaves the tables
leaves_same : (vs : Table Volume) (g : Logs) (a : Answer (Table Volume × Logs)) → ((leaves vs g a).0 ≡ 0) ⊎ (((leaves vs g a).1 ≡ vs) × ((leaves vs g a).2 ≡ g))
leaves_same vs g (refused n) = inr (refl, refl)
leaves_same vs g (done r) = inl refl

abbrev Same : Table Volume → Logs → ℕ × Table Volume × Logs → Type 0
Same vs g r = (r.0 ≡ 8) ⊎ ((r.0 ≡ 0) ⊎ ((r.1 ≡ vs) × (r.2 ≡ g)))

recover_by_same : (vs : Table Volume) (g : Logs) (v : Volume) (p : Pending) (o : Option Commit) → Same vs g (recover_by vs g v p o)
recover_by_same vs g v p none = inr (inl refl)
recover_by_same vs g v p (some c) = cases (is_hash c.hash p.hash) (λ h. rw h (inr (leaves_same vs g (push vs g v p c)))) (λ h. rw h (inl refl))

recover_pending_same : (vs : Table Volume) (g : Logs) (v : Volume) (o : Option Pending) → Same vs g (recover_pending vs g v o)
recover_pending_same vs g v none = inr (inl refl)
recover_pending_same vs g v (some p) = recover_by_same vs g v p (get_commit g.commits v.remote p.commit)

recover_same : (vs : Table Volume) (g : Logs) (vid : Id) → Same vs g (recover vs g vid)
unfolding recover
recover_same vs g vid =
    cases (volumes_formed vs && logs_formed g)
    (λ f. rw f (options (get_volume vs vid) (λ q. rw q (inr (inr (refl, refl)))) (λ v is. rw is (recover_pending_same vs g v v.pending))))
    (λ f. rw f (inr (inr (refl, refl))))

recovered : (t : Tables) (vid : Id) → ((does t (recovering vid)).0 ≡ 0) ⊎ (((does t (recovering vid)).1 ≡ t) ⊎ Dropped t (recovering vid))
unfolding does
recovered t vid =
    ⊎_elim
    (λ e. let d = (recover_8 t.volumes t.logs vid).0 e in
    inr (inr (record {
      vid = vid;
      call = refl;
      number = e;
      diverged = d;
      tables = ap {B = Tables} (λ (r : ℕ × Table Volume × Logs). with_logs (with_volumes t r.1) r.2) (recover_dropped t.volumes t.logs vid d);
    })))
    (λ s. ⊎_elim (λ e. inl e) (λ e. inr (inl (λ i. with_logs (with_volumes t (e.0 i)) (e.1 i)))) s) (recover_same t.volumes t.logs vid)

-- T4: a refusal leaves all tables as found, but for recover's 8, which drops a pending commit and changes nothing else
pub refusal_same : (t : Tables) (c : Change) → ((does t c).0 ≡ 0) ⊎ (((does t c).1 ≡ t) ⊎ Dropped t c)
unfolding does
refusal_same t (writing c) = outcome_same t (writing c) (write_commit t.logs c) (with_logs t)
refusal_same t (opening a x) = outcome_same t (opening a x) (open_volume t.volumes t.logs.commits a x) (λ r. with_volumes t r.1)
refusal_same t (saving vid s count sid pages) = outcome_same t (saving vid s count sid pages) (save t.volumes t.logs t.presence vid s count sid pages) (λ r. with_presence (with_logs t r.1) r.2)
refusal_same t (preparing vid p) = outcome_same t (preparing vid p) (prepare t.volumes t.logs.commits vid p) (with_volumes t)
refusal_same t (succeeding vid c) = outcome_same t (succeeding vid c) (success t.volumes t.logs vid c) (λ r. with_logs (with_volumes t r.0) r.1)
refusal_same t (dropping vid) = outcome_same t (dropping vid) (drop_pending t.volumes vid) (with_volumes t)
refusal_same t (recovering vid) = recovered t vid
refusal_same t (syncing vid) = outcome_same t (syncing vid) (sync t.volumes t.logs.commits vid) (with_volumes t)
refusal_same t (copying s x) = outcome_same t (copying s x) (from_snapshot t.volumes t.logs s x) (λ r. with_logs (with_volumes t r.1) r.2)
refusal_same t (copying_ref log lsn x) = outcome_same t (copying_ref log lsn x) (from_logref t.volumes t.logs log lsn x) (λ r. with_logs (with_volumes t r.1) r.2)
refusal_same t (deleting_volume vid) = outcome_same t (deleting_volume vid) (volume_delete t.volumes vid) (with_volumes t)
refusal_same t (marking sid page) = outcome_same t (marking sid page) (page_mark t.presence sid page) (with_presence t)
refusal_same t (unmarking sid page) = outcome_same t (unmarking sid page) (page_remove t.presence sid page) (with_presence t)
refusal_same t (unmarking_all sid a b) = outcome_same t (unmarking_all sid a b) (pages_remove t.presence sid a b) (with_presence t)
refusal_same t (deleting_tag name) = outcome_same t (deleting_tag name) (tag_delete t.tags name) (with_tags t)
refusal_same t (replacing_tag name vid) = outcome_same t (replacing_tag name vid) (tag_replace t.tags name vid) (λ r. with_tags t r.1)
