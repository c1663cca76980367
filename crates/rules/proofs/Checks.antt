-- Each call as its row of checks: on well formed tables it answers one of its other numbers, and 20 exactly where a lent table is not well formed. A chain
-- of checks is walked check by check; sync's 17 is asked and never given.
use Rattle.std.proofs.Common.{◌≡◌, ℕ, suc, ◌+◌, ◌-◌, ◌/◌, Bool, true, false, not, ◌&&◌, eqb, ltb, leb, ◌↔◌, List, [], ◌∷◌, length, sym, refl, ap, ◌∙◌, ⊎_elim}
use mathlib.Core.Option.{Option, none, some}
use mathlib.Core.Bool.{or-true}
use borrow.Author.Tests.{eqb-false}
use Rattle.basics.specs.Answers.{Answer, refused, done, code, ask, need, ◌>>=◌, ◌>>◌}
use Rattle.basics.specs.Numbers.{counts, last_lsn}
use Rattle.pageset.specs.Sets.{normal_form}
use Rattle.basics.specs.Hashes.{is_zero}
use Rattle.rules.specs.Frames.{Part, part_of, frame_list, frame_of, within_lent, frame_bytes, touching, joined_part, join}
use Rattle.rules.specs.Pages.{head, built_range}
use Rattle.rules.specs.Lists.{first, any, is_none, given}
use Rattle.basics.specs.Orders.{bytes, sid_page}
use Rattle.rules.specs.Records.{Id, Name, Pages, Commit, Pending, Volume, Entry, Checkpoint, Present, Tag, Range, Snapshot, present_key, volume_key, tag_key, Segment}
use Rattle.rules.specs.Forms.{name_length, lists_form}
use Rattle.rules.specs.Tables.{Table, fits, store, commits_formed, checkpoints_formed, index_formed, presence_formed, volumes_formed, tags_formed, get_volume, get_commit, latest_lsn, formed}
use Rattle.rules.specs.Arguments.{snapshot_lsns, snapshot_order, snapshot_form, commit_lsns, commit_lists, range_lsns, range_order, snapshot_new, snapshot_append}
use Rattle.rules.specs.Write.{Logs, write, write_all, logs_formed, logs_fit, write_commit}
use Rattle.rules.specs.Open.{Ids, Asked, asked_volume, agrees_on, or_spare, vid_free, log_free, sync_at, opened, open_volume}
use Rattle.rules.specs.Snapshots.{watermark_of, below, snapshot, is_latest, latest_check, remote_of}
use Rattle.rules.specs.Save.{lsn_after, sid_in_use, saved_commit, now_present, save}
use Rattle.rules.specs.Push.{is_before, prepare, is_hash, same_there, pushed_volume, push, success, drop_pending, leaves, recover_by, recover_pending, recover}
use Rattle.rules.specs.Sync.{sync, changed, not_older, sync_by, changes}
use Rattle.rules.specs.Walk.{path_commits, walk_of, snapshot_commits, walk, missing_of, missing_frames}
use Rattle.rules.specs.Search.{entry_in, found_by, search_path, search_page}
use Rattle.rules.specs.Copies.{copy_free, renumbered, new_volume, copied, from_snapshot, from_commit, from_logref}
use Rattle.rules.specs.Reads.{volume_read, volume_exists, volume_list, volume_delete, commit_read, latest_lsn_read, latest_commit_read, page_count_read, checkpoint_read, lsns_in, stored_lsns, page_present, page_mark, page_remove, pages_remove, tag_read, tag_exists, tag_list, tag_delete, tag_replace}
use Rattle.rules.specs.Calls.{Tables, outcome}
use Rattle.rules.specs.Promises.{one_of}
use Rattle.rules.proofs.TableLaws.{cases, options, clash}
use Rattle.rules.proofs.Sync.{sync_past}

-- ---- rows

-- the answer's number is one of those
unfoldable pub numbered : {A : Type 0} → List ℕ → Answer A → Bool
numbered ns a = one_of ns (code a)

module _ (ns : List ℕ) where
  row_done : {A : Type 0} (a : A) → one_of ns 0 ≡ true → numbered {A = A} ns (done a) ≡ true
  unfolding numbered
  row_done a p = p

  row_ask : {A : Type 0} (b : Bool) (n : ℕ) (k : Answer A) → one_of ns n ≡ true → numbered ns k ≡ true → numbered ns (ask b n >> k) ≡ true
  unfolding numbered
  row_ask true n k p q = q
  row_ask false n k p q = p

  row_need : {A B : Type 0} (o : Option A) (n : ℕ) (k : A → Answer B) → one_of ns n ≡ true → ((a : A) → numbered ns (k a) ≡ true) → numbered ns (need o n >>= k) ≡ true
  unfolding numbered
  row_need none n k p q = p
  row_need (some a) n k p q = q a

  row_read : {A : Type 0} (o : Option A) (n : ℕ) → one_of ns n ≡ true → one_of ns 0 ≡ true → numbered ns (need o n) ≡ true
  unfolding numbered
  row_read none n p q = p
  row_read (some a) n p q = row_done a q

  row_then : {A B : Type 0} (m : Answer A) (k : A → Answer B) → numbered ns m ≡ true → ((a : A) → numbered ns (k a) ≡ true) → numbered ns (m >>= k) ≡ true
  unfolding numbered
  row_then (refused n) k p q = p
  row_then (done a) k p q = q a

  pub row_outcome : {A : Type 0} (t : Tables) (a : Answer A) (f : A → Tables) → numbered ns a ≡ true → one_of ns (outcome t a f).0 ≡ true
  unfolding numbered
  row_outcome t (refused n) f p = p
  row_outcome t (done x) f p = p

  pub row_code : {A : Type 0} (a : Answer A) → numbered ns a ≡ true → one_of ns (code a) ≡ true
  unfolding numbered
  row_code a p = p

  row_lsn : (o : Option ℕ) → one_of ns 18 ≡ true → one_of ns 0 ≡ true → numbered ns (lsn_after o) ≡ true
  unfolding lsn_after
  row_lsn none p q = row_done 1 q
  row_lsn (some n) p q = row_ask (ltb n last_lsn) 18 _ p (row_done (n + 1) q)

  row_opened : (vs : Table Volume) (cs : Table Commit) (a : Asked) (x : Ids) (o : Option Volume) → one_of ns 6 ≡ true → one_of ns 5 ≡ true → one_of ns 19 ≡ true → one_of ns 0 ≡ true
      → numbered ns (opened vs cs a x o) ≡ true
  row_opened vs cs a x (some v) six five room ok = row_ask (agrees_on a.remote v) 6 _ six (row_done _ ok)
  row_opened vs cs a x none six five room ok =
      row_ask (vid_free vs a.vid x.vid && log_free vs cs a.local x.local (or_spare a.remote x.remote) && log_free vs cs a.remote x.remote (or_spare a.local x.local)) 5 _ five
      (let v : Volume = record { vid = or_spare a.vid x.vid; local = or_spare a.local x.local; remote = or_spare a.remote x.remote; sync = sync_at (latest_lsn cs (or_spare a.remote x.remote)); pending = none } in
      row_ask (fits (store volume_key bytes v vs)) 19 _ room (row_done _ ok))

  row_push : (vs : Table Volume) (g : Logs) (v : Volume) (p : Pending) (c : Commit) → one_of ns 19 ≡ true → one_of ns 0 ≡ true → numbered ns (push vs g v p c) ≡ true
  row_push vs g v p c room ok = row_ask (fits (store volume_key bytes (pushed_volume v p) vs) && logs_fit (write g c)) 19 _ room (row_done _ ok)

  row_copied : (vs : Table Volume) (g : Logs) (path : List Range) (x : Ids) → one_of ns 5 ≡ true → one_of ns 19 ≡ true → one_of ns 0 ≡ true → numbered ns (copied vs g path x) ≡ true
  row_copied vs g path x five room ok =
      row_ask (copy_free vs g.commits x) 5 _ five
      (row_ask (fits (store volume_key bytes (new_volume x) vs) && logs_fit (write_all g (renumbered x.local (path_commits g.commits path)))) 19 _ room (row_done _ ok))

  row_from_commit : (vs : Table Volume) (g : Logs) (log : Id) (lsn : ℕ) (x : Ids) (o : Option Commit) → one_of ns 5 ≡ true → one_of ns 19 ≡ true → one_of ns 0 ≡ true
      → numbered ns (from_commit vs g log lsn x o) ≡ true
  row_from_commit vs g log lsn x none five room ok = row_done _ ok
  row_from_commit vs g log lsn x (some c) five room ok =
      row_then (copied vs g (record { log = log; start = 1; end = lsn } ∷ []) x) _ (row_copied vs g (record { log = log; start = 1; end = lsn } ∷ []) x five room ok) (λ r. row_done _ ok)

  row_found_by : (cs : Table Commit) (o : Option Entry) (later : Answer (Option Commit)) → one_of ns 21 ≡ true → one_of ns 0 ≡ true → numbered ns later ≡ true → numbered ns (found_by cs o later) ≡ true
  row_found_by cs none later lost ok rest = rest
  row_found_by cs (some e) later lost ok rest = row_need (get_commit cs e.log e.lsn) 21 _ lost (λ c. row_done _ ok)

  row_found : (cs : Table Commit) (es : Table Entry) (p : ℕ) (path : List Range) → one_of ns 21 ≡ true → one_of ns 0 ≡ true → numbered ns (search_path cs es p path) ≡ true
  row_found cs es p [] lost ok = row_done _ ok
  row_found cs es p (r ∷ rs) lost ok = row_found_by cs (first (entry_in r p) es.rows) (search_path cs es p rs) lost ok (row_found cs es p rs lost ok)

  row_leaves : (vs : Table Volume) (g : Logs) (a : Answer (Table Volume × Logs)) → numbered ns a ≡ true → one_of ns (leaves vs g a).0 ≡ true
  unfolding numbered
  row_leaves vs g (refused n) h = h
  row_leaves vs g (done r) h = h

  row_recover_by : (vs : Table Volume) (g : Logs) (v : Volume) (p : Pending) (o : Option Commit) → one_of ns 19 ≡ true → one_of ns 8 ≡ true → one_of ns 0 ≡ true → one_of ns (recover_by vs g v p o).0 ≡ true
  row_recover_by vs g v p none room eight ok = ok
  row_recover_by vs g v p (some c) room eight ok = cases (is_hash c.hash p.hash) (λ q. rw q (row_leaves vs g (push vs g v p c) (row_push vs g v p c room ok))) (λ q. rw q eight)

  row_recover_pending : (vs : Table Volume) (g : Logs) (v : Volume) (o : Option Pending) → one_of ns 19 ≡ true → one_of ns 8 ≡ true → one_of ns 0 ≡ true → one_of ns (recover_pending vs g v o).0 ≡ true
  row_recover_pending vs g v none room eight ok = ok
  row_recover_pending vs g v (some p) room eight ok = row_recover_by vs g v p (get_commit g.commits v.remote p.commit) room eight ok

  row_changed : (b h : Option ℕ) → one_of ns 16 ≡ true → one_of ns 0 ≡ true → numbered ns (changed b h) ≡ true
  unfolding changed numbered
  row_changed none none p q = q
  row_changed none (some h) p q = q
  row_changed (some b) none p q = p
  row_changed (some b) (some h) p q = q

  row_sync_by : (vs : Table Volume) (cs : Table Commit) (v : Volume) (o : Option (ℕ × ℕ)) → one_of ns 16 ≡ true → one_of ns 8 ≡ true → one_of ns 17 ≡ true → one_of ns 0 ≡ true
      → numbered ns (sync_by vs cs v o) ≡ true
  row_sync_by vs cs v none sixteen eight seventeen ok = row_done _ ok
  row_sync_by vs cs v (some r) sixteen eight seventeen ok =
      row_then (changed (watermark_of v.sync) (latest_lsn cs v.local)) _ (row_changed (watermark_of v.sync) (latest_lsn cs v.local) sixteen ok)
      (λ here. row_ask (is_none here) 8 _ eight (row_ask (not_older (remote_of v.sync) r.1) 17 _ seventeen (row_done _ ok)))

  -- a number more in the row
  row_more : {A : Type 0} (n : ℕ) (a : Answer A) → numbered ns a ≡ true → numbered (n ∷ ns) a ≡ true
  unfolding numbered any
  row_more n a h = rw h (or-true (eqb (code a) n))

  -- a call whose first check is 20: past it the row, else 20
  pub row_20 : {A : Type 0} (b : Bool) (a : Answer A) → (b ≡ true → numbered ns a ≡ true) → (b ≡ false → a ≡ refused 20) → numbered (20 ∷ ns) a ≡ true
  unfolding numbered any
  row_20 b a f g = cases b (λ q. row_more 20 a (f q)) (λ q. rw (g q))

  -- such a call answers 20 exactly if that check fails
  pub only_20 : {A : Type 0} (b : Bool) (a : Answer A) → one_of ns 20 ≡ false → (b ≡ true → numbered ns a ≡ true) → (b ≡ false → a ≡ refused 20) → (code a ≡ 20) ↔ (b ≡ false)
  unfolding numbered
  only_20 b a n f g = (λ e. cases b (λ q. absurd (clash (ap (one_of ns) (sym e) ∙ f q) n)) (λ q. q), λ q. rw (g q))

pub outcome_code : {A : Type 0} (t : Tables) (a : Answer A) (f : A → Tables) → (outcome t a f).0 ≡ code a
outcome_code t (refused n) f = refl
outcome_code t (done x) f = refl

-- ---- call by call: past 20 its other numbers, in its order of checks; and 20 where a lent table is not well formed

pub write_commit_past : (g : Logs) (c : Commit) → logs_formed g ≡ true → numbered (1 ∷ 3 ∷ 19 ∷ 0 ∷ []) (write_commit g c) ≡ true
unfolding write_commit any
write_commit_past g c formed =
    let ns : List ℕ = 1 ∷ 3 ∷ 19 ∷ 0 ∷ [] in
    rw formed (row_ask ns (commit_lsns c) 1 _ refl (row_ask ns (commit_lists c) 3 _ refl (let g' = write g c in row_ask ns (logs_fit g') 19 _ refl (row_done ns _ refl))))

pub open_volume_past : (vs : Table Volume) (cs : Table Commit) (a : Asked) (x : Ids) → volumes_formed vs && commits_formed cs ≡ true → numbered (6 ∷ 5 ∷ 19 ∷ 0 ∷ []) (open_volume vs cs a x) ≡ true
unfolding open_volume any
open_volume_past vs cs a x formed =
    let ns : List ℕ = 6 ∷ 5 ∷ 19 ∷ 0 ∷ [] in
    rw formed (row_opened ns vs cs a x (asked_volume vs a.vid) refl refl refl refl)

pub save_past : (vs : Table Volume) (g : Logs) (ps : Table Present) (vid : Id) (s : Snapshot) (count : ℕ) (sid : Id) (pages : Pages) → volumes_formed vs && logs_formed g && presence_formed ps ≡ true → numbered (1 ∷ 2 ∷ 3 ∷ 4 ∷ 7 ∷ 18 ∷ 5 ∷ 19 ∷ 0 ∷ []) (save vs g ps vid s count sid pages) ≡ true
unfolding save any
save_past vs g ps vid s count sid pages formed =
    let ns : List ℕ = 1 ∷ 2 ∷ 3 ∷ 4 ∷ 7 ∷ 18 ∷ 5 ∷ 19 ∷ 0 ∷ [] in
    rw formed (row_ask ns (snapshot_lsns s) 1 _ refl (row_ask ns (snapshot_order s) 2 _ refl (row_ask ns (snapshot_form s && normal_form pages) 3 _ refl (row_need ns (get_volume vs vid) 4 _ refl (λ v. row_ask ns (is_latest g.commits v s) 7 _ refl (row_then ns (lsn_after (latest_lsn g.commits v.local)) _ (row_lsn ns (latest_lsn g.commits v.local) refl refl) (λ lsn. row_ask ns (not (sid_in_use g.commits ps sid)) 5 _ refl (let g' = write g (saved_commit v lsn count sid pages) in let ps' = now_present sid pages ps in row_ask ns (logs_fit g' && fits ps') 19 _ refl (row_done ns _ refl)))))))))

pub prepare_past : (vs : Table Volume) (cs : Table Commit) (vid : Id) (p : Pending) → volumes_formed vs && commits_formed cs ≡ true → numbered (1 ∷ 4 ∷ 9 ∷ 11 ∷ 12 ∷ 13 ∷ 0 ∷ []) (prepare vs cs vid p) ≡ true
unfolding prepare any
prepare_past vs cs vid p formed =
    let ns : List ℕ = 1 ∷ 4 ∷ 9 ∷ 11 ∷ 12 ∷ 13 ∷ 0 ∷ [] in
    rw formed (row_ask ns (counts p.local && counts p.commit) 1 _ refl (row_need ns (get_volume vs vid) 4 _ refl (λ v. row_ask ns (is_none v.pending) 9 _ refl (row_ask ns (below (watermark_of v.sync) p.local) 11 _ refl (row_ask ns (is_before (latest_lsn cs v.remote) p.commit) 12 _ refl (row_ask ns (not (is_zero p.hash)) 13 _ refl (row_done ns _ refl)))))))

pub success_past : (vs : Table Volume) (g : Logs) (vid : Id) (c : Commit) → volumes_formed vs && logs_formed g ≡ true → numbered (1 ∷ 3 ∷ 4 ∷ 10 ∷ 14 ∷ 15 ∷ 19 ∷ 0 ∷ []) (success vs g vid c) ≡ true
unfolding success any
success_past vs g vid c formed =
    let ns : List ℕ = 1 ∷ 3 ∷ 4 ∷ 10 ∷ 14 ∷ 15 ∷ 19 ∷ 0 ∷ [] in
    rw formed (row_ask ns (commit_lsns c) 1 _ refl (row_ask ns (commit_lists c) 3 _ refl (row_need ns (get_volume vs vid) 4 _ refl (λ v. row_need ns v.pending 10 _ refl (λ p. row_ask ns (eqb c.lsn p.commit && is_hash c.hash p.hash) 14 _ refl (row_ask ns (same_there (get_commit g.commits c.log c.lsn) p.hash) 15 _ refl (row_push ns vs g v p c refl refl)))))))

pub drop_pending_past : (vs : Table Volume) (vid : Id) → volumes_formed vs ≡ true → numbered (4 ∷ 0 ∷ []) (drop_pending vs vid) ≡ true
unfolding drop_pending any
drop_pending_past vs vid formed =
    let ns : List ℕ = 4 ∷ 0 ∷ [] in
    rw formed (row_need ns (get_volume vs vid) 4 _ refl (λ v. row_done ns _ refl))

pub from_snapshot_past : (vs : Table Volume) (g : Logs) (s : Snapshot) (x : Ids) → volumes_formed vs && logs_formed g ≡ true → numbered (1 ∷ 2 ∷ 3 ∷ 5 ∷ 19 ∷ 0 ∷ []) (from_snapshot vs g s x) ≡ true
unfolding from_snapshot any
from_snapshot_past vs g s x formed =
    let ns : List ℕ = 1 ∷ 2 ∷ 3 ∷ 5 ∷ 19 ∷ 0 ∷ [] in
    rw formed (row_ask ns (snapshot_lsns s) 1 _ refl (row_ask ns (snapshot_order s) 2 _ refl (row_ask ns (snapshot_form s) 3 _ refl (row_copied ns vs g s.path x refl refl refl))))

pub from_logref_past : (vs : Table Volume) (g : Logs) (log : Id) (lsn : ℕ) (x : Ids) → volumes_formed vs && logs_formed g ≡ true → numbered (1 ∷ 5 ∷ 19 ∷ 0 ∷ []) (from_logref vs g log lsn x) ≡ true
unfolding from_logref any
from_logref_past vs g log lsn x formed =
    let ns : List ℕ = 1 ∷ 5 ∷ 19 ∷ 0 ∷ [] in
    rw formed (row_ask ns (counts lsn) 1 _ refl (row_from_commit ns vs g log lsn x (get_commit g.commits log lsn) refl refl refl))

pub volume_delete_past : (vs : Table Volume) (vid : Id) → volumes_formed vs ≡ true → numbered (0 ∷ []) (volume_delete vs vid) ≡ true
unfolding volume_delete any
volume_delete_past vs vid formed =
    let ns : List ℕ = 0 ∷ [] in
    rw formed (row_done ns _ refl)

pub page_mark_past : (ps : Table Present) (sid : Id) (page : ℕ) → presence_formed ps ≡ true → numbered (1 ∷ 19 ∷ 0 ∷ []) (page_mark ps sid page) ≡ true
unfolding page_mark any
page_mark_past ps sid page formed =
    let ns : List ℕ = 1 ∷ 19 ∷ 0 ∷ [] in
    rw formed (row_ask ns (counts page) 1 _ refl (let ps' = store present_key sid_page (record { sid = sid; page = page }) ps in row_ask ns (fits ps') 19 _ refl (row_done ns _ refl)))

pub page_remove_past : (ps : Table Present) (sid : Id) (page : ℕ) → presence_formed ps ≡ true → numbered (1 ∷ 0 ∷ []) (page_remove ps sid page) ≡ true
unfolding page_remove any
page_remove_past ps sid page formed =
    let ns : List ℕ = 1 ∷ 0 ∷ [] in
    rw formed (row_ask ns (counts page) 1 _ refl (row_done ns _ refl))

pub pages_remove_past : (ps : Table Present) (sid : Id) (a : ℕ) (b : ℕ) → presence_formed ps ≡ true → numbered (1 ∷ 2 ∷ 0 ∷ []) (pages_remove ps sid a b) ≡ true
unfolding pages_remove any
pages_remove_past ps sid a b formed =
    let ns : List ℕ = 1 ∷ 2 ∷ 0 ∷ [] in
    rw formed (row_ask ns (counts a && counts b) 1 _ refl (row_ask ns (leb a b) 2 _ refl (row_done ns _ refl)))

pub tag_delete_past : (gs : Table Tag) (name : Name) → tags_formed gs ≡ true → numbered (1 ∷ 0 ∷ []) (tag_delete gs name) ≡ true
unfolding tag_delete any
tag_delete_past gs name formed =
    let ns : List ℕ = 1 ∷ 0 ∷ [] in
    rw formed (row_ask ns (name_length name) 1 _ refl (row_done ns _ refl))

pub tag_replace_past : (gs : Table Tag) (name : Name) (vid : Id) → tags_formed gs ≡ true → numbered (1 ∷ 19 ∷ 0 ∷ []) (tag_replace gs name vid) ≡ true
unfolding tag_replace any
tag_replace_past gs name vid formed =
    let ns : List ℕ = 1 ∷ 19 ∷ 0 ∷ [] in
    rw formed (row_ask ns (name_length name) 1 _ refl (let gs' = store tag_key bytes (record { name = name; vid = vid }) gs in row_ask ns (fits gs') 19 _ refl (row_done ns _ refl)))

pub snapshot_past : (vs : Table Volume) (cs : Table Commit) (vid : Id) → volumes_formed vs && commits_formed cs ≡ true → numbered (4 ∷ 0 ∷ []) (snapshot vs cs vid) ≡ true
unfolding snapshot any
snapshot_past vs cs vid formed =
    let ns : List ℕ = 4 ∷ 0 ∷ [] in
    rw formed (row_need ns (get_volume vs vid) 4 _ refl (λ v. row_done ns _ refl))

pub latest_check_past : (vs : Table Volume) (cs : Table Commit) (vid : Id) (s : Snapshot) → volumes_formed vs && commits_formed cs ≡ true → numbered (1 ∷ 2 ∷ 3 ∷ 4 ∷ 0 ∷ []) (latest_check vs cs vid s) ≡ true
unfolding latest_check any
latest_check_past vs cs vid s formed =
    let ns : List ℕ = 1 ∷ 2 ∷ 3 ∷ 4 ∷ 0 ∷ [] in
    rw formed (row_ask ns (snapshot_lsns s) 1 _ refl (row_ask ns (snapshot_order s) 2 _ refl (row_ask ns (snapshot_form s) 3 _ refl (row_need ns (get_volume vs vid) 4 _ refl (λ v. row_done ns _ refl)))))

pub walk_past : (cs : Table Commit) (slots : ℕ) (s : Snapshot) → commits_formed cs ≡ true → numbered (1 ∷ 2 ∷ 3 ∷ 19 ∷ 0 ∷ []) (walk cs slots s) ≡ true
unfolding walk any
walk_past cs slots s formed =
    let ns : List ℕ = 1 ∷ 2 ∷ 3 ∷ 19 ∷ 0 ∷ [] in
    rw formed (row_ask ns (snapshot_lsns s) 1 _ refl (row_ask ns (snapshot_order s) 2 _ refl (row_ask ns (snapshot_form s) 3 _ refl (row_ask ns (leb (length (walk_of cs s)) slots) 19 _ refl (row_done ns _ refl)))))

pub missing_frames_past : (cs : Table Commit) (ps : Table Present) (slots : ℕ) (s : Snapshot) → commits_formed cs && presence_formed ps ≡ true → numbered (1 ∷ 2 ∷ 3 ∷ 19 ∷ 0 ∷ []) (missing_frames cs ps slots s) ≡ true
unfolding missing_frames any
missing_frames_past cs ps slots s formed =
    let ns : List ℕ = 1 ∷ 2 ∷ 3 ∷ 19 ∷ 0 ∷ [] in
    rw formed (row_ask ns (snapshot_lsns s) 1 _ refl (row_ask ns (snapshot_order s) 2 _ refl (row_ask ns (snapshot_form s) 3 _ refl (let parts = missing_of ps (walk_of cs s) in row_ask ns (leb (length parts) slots) 19 _ refl (row_done ns _ refl)))))

pub snapshot_commits_past : (cs : Table Commit) (slots : ℕ) (s : Snapshot) → commits_formed cs ≡ true → numbered (1 ∷ 2 ∷ 3 ∷ 19 ∷ 0 ∷ []) (snapshot_commits cs slots s) ≡ true
unfolding snapshot_commits any
snapshot_commits_past cs slots s formed =
    let ns : List ℕ = 1 ∷ 2 ∷ 3 ∷ 19 ∷ 0 ∷ [] in
    rw formed (row_ask ns (snapshot_lsns s) 1 _ refl (row_ask ns (snapshot_order s) 2 _ refl (row_ask ns (snapshot_form s) 3 _ refl (row_ask ns (leb (length (path_commits cs s.path)) slots) 19 _ refl (row_done ns _ refl)))))

pub search_page_past : (cs : Table Commit) (es : Table Entry) (s : Snapshot) (p : ℕ) → commits_formed cs && index_formed es ≡ true → numbered (1 ∷ 2 ∷ 3 ∷ 21 ∷ 0 ∷ []) (search_page cs es s p) ≡ true
unfolding search_page any
search_page_past cs es s p formed =
    let ns : List ℕ = 1 ∷ 2 ∷ 3 ∷ 21 ∷ 0 ∷ [] in
    rw formed (row_ask ns (snapshot_lsns s && counts p) 1 _ refl (row_ask ns (snapshot_order s) 2 _ refl (row_ask ns (snapshot_form s) 3 _ refl (row_found ns cs es p s.path refl refl))))

pub volume_read_past : (vs : Table Volume) (vid : Id) → volumes_formed vs ≡ true → numbered (4 ∷ 0 ∷ []) (volume_read vs vid) ≡ true
unfolding volume_read any
volume_read_past vs vid formed =
    let ns : List ℕ = 4 ∷ 0 ∷ [] in
    rw formed (row_read ns (get_volume vs vid) 4 refl refl)

pub volume_exists_past : (vs : Table Volume) (vid : Id) → volumes_formed vs ≡ true → numbered (0 ∷ []) (volume_exists vs vid) ≡ true
unfolding volume_exists any
volume_exists_past vs vid formed =
    let ns : List ℕ = 0 ∷ [] in
    rw formed (row_done ns _ refl)

pub volume_list_past : (vs : Table Volume) (slots : ℕ) → volumes_formed vs ≡ true → numbered (19 ∷ 0 ∷ []) (volume_list vs slots) ≡ true
unfolding volume_list any
volume_list_past vs slots formed =
    let ns : List ℕ = 19 ∷ 0 ∷ [] in
    rw formed (row_ask ns (leb (length vs.rows) slots) 19 _ refl (row_done ns _ refl))

pub commit_read_past : (cs : Table Commit) (log : Id) (lsn : ℕ) → commits_formed cs ≡ true → numbered (1 ∷ 0 ∷ []) (commit_read cs log lsn) ≡ true
unfolding commit_read any
commit_read_past cs log lsn formed =
    let ns : List ℕ = 1 ∷ 0 ∷ [] in
    rw formed (row_ask ns (counts lsn) 1 _ refl (row_done ns _ refl))

pub latest_lsn_read_past : (cs : Table Commit) (log : Id) → commits_formed cs ≡ true → numbered (0 ∷ []) (latest_lsn_read cs log) ≡ true
unfolding latest_lsn_read any
latest_lsn_read_past cs log formed =
    let ns : List ℕ = 0 ∷ [] in
    rw formed (row_done ns _ refl)

pub latest_commit_read_past : (cs : Table Commit) (log : Id) → commits_formed cs ≡ true → numbered (0 ∷ []) (latest_commit_read cs log) ≡ true
unfolding latest_commit_read any
latest_commit_read_past cs log formed =
    let ns : List ℕ = 0 ∷ [] in
    rw formed (row_done ns _ refl)

pub page_count_read_past : (cs : Table Commit) (log : Id) (lsn : ℕ) → commits_formed cs ≡ true → numbered (1 ∷ 0 ∷ []) (page_count_read cs log lsn) ≡ true
unfolding page_count_read any
page_count_read_past cs log lsn formed =
    let ns : List ℕ = 1 ∷ 0 ∷ [] in
    rw formed (row_ask ns (counts lsn) 1 _ refl (row_done ns _ refl))

pub checkpoint_read_past : (ks : Table Checkpoint) (log : Id) (lsn : ℕ) → checkpoints_formed ks ≡ true → numbered (1 ∷ 0 ∷ []) (checkpoint_read ks log lsn) ≡ true
unfolding checkpoint_read any
checkpoint_read_past ks log lsn formed =
    let ns : List ℕ = 1 ∷ 0 ∷ [] in
    rw formed (row_ask ns (counts lsn) 1 _ refl (row_done ns _ refl))

pub stored_lsns_past : (cs : Table Commit) (slots : ℕ) (r : Range) → commits_formed cs ≡ true → numbered (1 ∷ 2 ∷ 19 ∷ 0 ∷ []) (stored_lsns cs slots r) ≡ true
unfolding stored_lsns any
stored_lsns_past cs slots r formed =
    let ns : List ℕ = 1 ∷ 2 ∷ 19 ∷ 0 ∷ [] in
    rw formed (row_ask ns (counts r.start && counts r.end) 1 _ refl (row_ask ns (leb r.start r.end) 2 _ refl (row_ask ns (leb (length (lsns_in cs r)) slots) 19 _ refl (row_done ns _ refl))))

pub page_present_past : (ps : Table Present) (sid : Id) (page : ℕ) → presence_formed ps ≡ true → numbered (1 ∷ 0 ∷ []) (page_present ps sid page) ≡ true
unfolding page_present any
page_present_past ps sid page formed =
    let ns : List ℕ = 1 ∷ 0 ∷ [] in
    rw formed (row_ask ns (counts page) 1 _ refl (row_done ns _ refl))

pub tag_read_past : (gs : Table Tag) (name : Name) → tags_formed gs ≡ true → numbered (1 ∷ 0 ∷ []) (tag_read gs name) ≡ true
unfolding tag_read any
tag_read_past gs name formed =
    let ns : List ℕ = 1 ∷ 0 ∷ [] in
    rw formed (row_ask ns (name_length name) 1 _ refl (row_done ns _ refl))

pub tag_exists_past : (gs : Table Tag) (name : Name) → tags_formed gs ≡ true → numbered (1 ∷ 0 ∷ []) (tag_exists gs name) ≡ true
unfolding tag_exists any
tag_exists_past gs name formed =
    let ns : List ℕ = 1 ∷ 0 ∷ [] in
    rw formed (row_ask ns (name_length name) 1 _ refl (row_done ns _ refl))

pub tag_list_past : (gs : Table Tag) (slots : ℕ) → tags_formed gs ≡ true → numbered (19 ∷ 0 ∷ []) (tag_list gs slots) ≡ true
unfolding tag_list any
tag_list_past gs slots formed =
    let ns : List ℕ = 19 ∷ 0 ∷ [] in
    rw formed (row_ask ns (leb (length gs.rows) slots) 19 _ refl (row_done ns _ refl))

pub write_commit_20 : (g : Logs) (c : Commit) → logs_formed g ≡ false → write_commit g c ≡ refused 20
unfolding write_commit
write_commit_20 g c broken = rw broken

pub open_volume_20 : (vs : Table Volume) (cs : Table Commit) (a : Asked) (x : Ids) → volumes_formed vs && commits_formed cs ≡ false → open_volume vs cs a x ≡ refused 20
unfolding open_volume
open_volume_20 vs cs a x broken = rw broken

pub save_20 : (vs : Table Volume) (g : Logs) (ps : Table Present) (vid : Id) (s : Snapshot) (count : ℕ) (sid : Id) (pages : Pages) → volumes_formed vs && logs_formed g && presence_formed ps ≡ false → save vs g ps vid s count sid pages ≡ refused 20
unfolding save
save_20 vs g ps vid s count sid pages broken = rw broken

pub prepare_20 : (vs : Table Volume) (cs : Table Commit) (vid : Id) (p : Pending) → volumes_formed vs && commits_formed cs ≡ false → prepare vs cs vid p ≡ refused 20
unfolding prepare
prepare_20 vs cs vid p broken = rw broken

pub success_20 : (vs : Table Volume) (g : Logs) (vid : Id) (c : Commit) → volumes_formed vs && logs_formed g ≡ false → success vs g vid c ≡ refused 20
unfolding success
success_20 vs g vid c broken = rw broken

pub drop_pending_20 : (vs : Table Volume) (vid : Id) → volumes_formed vs ≡ false → drop_pending vs vid ≡ refused 20
unfolding drop_pending
drop_pending_20 vs vid broken = rw broken

pub sync_20 : (vs : Table Volume) (cs : Table Commit) (vid : Id) → volumes_formed vs && commits_formed cs ≡ false → sync vs cs vid ≡ refused 20
unfolding sync
sync_20 vs cs vid broken = rw broken

pub from_snapshot_20 : (vs : Table Volume) (g : Logs) (s : Snapshot) (x : Ids) → volumes_formed vs && logs_formed g ≡ false → from_snapshot vs g s x ≡ refused 20
unfolding from_snapshot
from_snapshot_20 vs g s x broken = rw broken

pub from_logref_20 : (vs : Table Volume) (g : Logs) (log : Id) (lsn : ℕ) (x : Ids) → volumes_formed vs && logs_formed g ≡ false → from_logref vs g log lsn x ≡ refused 20
unfolding from_logref
from_logref_20 vs g log lsn x broken = rw broken

pub volume_delete_20 : (vs : Table Volume) (vid : Id) → volumes_formed vs ≡ false → volume_delete vs vid ≡ refused 20
unfolding volume_delete
volume_delete_20 vs vid broken = rw broken

pub page_mark_20 : (ps : Table Present) (sid : Id) (page : ℕ) → presence_formed ps ≡ false → page_mark ps sid page ≡ refused 20
unfolding page_mark
page_mark_20 ps sid page broken = rw broken

pub page_remove_20 : (ps : Table Present) (sid : Id) (page : ℕ) → presence_formed ps ≡ false → page_remove ps sid page ≡ refused 20
unfolding page_remove
page_remove_20 ps sid page broken = rw broken

pub pages_remove_20 : (ps : Table Present) (sid : Id) (a : ℕ) (b : ℕ) → presence_formed ps ≡ false → pages_remove ps sid a b ≡ refused 20
unfolding pages_remove
pages_remove_20 ps sid a b broken = rw broken

pub tag_delete_20 : (gs : Table Tag) (name : Name) → tags_formed gs ≡ false → tag_delete gs name ≡ refused 20
unfolding tag_delete
tag_delete_20 gs name broken = rw broken

pub tag_replace_20 : (gs : Table Tag) (name : Name) (vid : Id) → tags_formed gs ≡ false → tag_replace gs name vid ≡ refused 20
unfolding tag_replace
tag_replace_20 gs name vid broken = rw broken

pub snapshot_20 : (vs : Table Volume) (cs : Table Commit) (vid : Id) → volumes_formed vs && commits_formed cs ≡ false → snapshot vs cs vid ≡ refused 20
unfolding snapshot
snapshot_20 vs cs vid broken = rw broken

pub latest_check_20 : (vs : Table Volume) (cs : Table Commit) (vid : Id) (s : Snapshot) → volumes_formed vs && commits_formed cs ≡ false → latest_check vs cs vid s ≡ refused 20
unfolding latest_check
latest_check_20 vs cs vid s broken = rw broken

pub walk_20 : (cs : Table Commit) (slots : ℕ) (s : Snapshot) → commits_formed cs ≡ false → walk cs slots s ≡ refused 20
unfolding walk
walk_20 cs slots s broken = rw broken

pub missing_frames_20 : (cs : Table Commit) (ps : Table Present) (slots : ℕ) (s : Snapshot) → commits_formed cs && presence_formed ps ≡ false → missing_frames cs ps slots s ≡ refused 20
unfolding missing_frames
missing_frames_20 cs ps slots s broken = rw broken

pub snapshot_commits_20 : (cs : Table Commit) (slots : ℕ) (s : Snapshot) → commits_formed cs ≡ false → snapshot_commits cs slots s ≡ refused 20
unfolding snapshot_commits
snapshot_commits_20 cs slots s broken = rw broken

pub search_page_20 : (cs : Table Commit) (es : Table Entry) (s : Snapshot) (p : ℕ) → commits_formed cs && index_formed es ≡ false → search_page cs es s p ≡ refused 20
unfolding search_page
search_page_20 cs es s p broken = rw broken

pub volume_read_20 : (vs : Table Volume) (vid : Id) → volumes_formed vs ≡ false → volume_read vs vid ≡ refused 20
unfolding volume_read
volume_read_20 vs vid broken = rw broken

pub volume_exists_20 : (vs : Table Volume) (vid : Id) → volumes_formed vs ≡ false → volume_exists vs vid ≡ refused 20
unfolding volume_exists
volume_exists_20 vs vid broken = rw broken

pub volume_list_20 : (vs : Table Volume) (slots : ℕ) → volumes_formed vs ≡ false → volume_list vs slots ≡ refused 20
unfolding volume_list
volume_list_20 vs slots broken = rw broken

pub commit_read_20 : (cs : Table Commit) (log : Id) (lsn : ℕ) → commits_formed cs ≡ false → commit_read cs log lsn ≡ refused 20
unfolding commit_read
commit_read_20 cs log lsn broken = rw broken

pub latest_lsn_read_20 : (cs : Table Commit) (log : Id) → commits_formed cs ≡ false → latest_lsn_read cs log ≡ refused 20
unfolding latest_lsn_read
latest_lsn_read_20 cs log broken = rw broken

pub latest_commit_read_20 : (cs : Table Commit) (log : Id) → commits_formed cs ≡ false → latest_commit_read cs log ≡ refused 20
unfolding latest_commit_read
latest_commit_read_20 cs log broken = rw broken

pub page_count_read_20 : (cs : Table Commit) (log : Id) (lsn : ℕ) → commits_formed cs ≡ false → page_count_read cs log lsn ≡ refused 20
unfolding page_count_read
page_count_read_20 cs log lsn broken = rw broken

pub checkpoint_read_20 : (ks : Table Checkpoint) (log : Id) (lsn : ℕ) → checkpoints_formed ks ≡ false → checkpoint_read ks log lsn ≡ refused 20
unfolding checkpoint_read
checkpoint_read_20 ks log lsn broken = rw broken

pub stored_lsns_20 : (cs : Table Commit) (slots : ℕ) (r : Range) → commits_formed cs ≡ false → stored_lsns cs slots r ≡ refused 20
unfolding stored_lsns
stored_lsns_20 cs slots r broken = rw broken

pub page_present_20 : (ps : Table Present) (sid : Id) (page : ℕ) → presence_formed ps ≡ false → page_present ps sid page ≡ refused 20
unfolding page_present
page_present_20 ps sid page broken = rw broken

pub tag_read_20 : (gs : Table Tag) (name : Name) → tags_formed gs ≡ false → tag_read gs name ≡ refused 20
unfolding tag_read
tag_read_20 gs name broken = rw broken

pub tag_exists_20 : (gs : Table Tag) (name : Name) → tags_formed gs ≡ false → tag_exists gs name ≡ refused 20
unfolding tag_exists
tag_exists_20 gs name broken = rw broken

pub tag_list_20 : (gs : Table Tag) (slots : ℕ) → tags_formed gs ≡ false → tag_list gs slots ≡ refused 20
unfolding tag_list
tag_list_20 gs slots broken = rw broken

-- the numbers that sync asks for, 17 among them
sync_asks : (vs : Table Volume) (cs : Table Commit) (vid : Id) → volumes_formed vs && commits_formed cs ≡ true → numbered (4 ∷ 16 ∷ 8 ∷ 17 ∷ 0 ∷ []) (sync vs cs vid) ≡ true
unfolding sync any
sync_asks vs cs vid formed =
    let ns : List ℕ = 4 ∷ 16 ∷ 8 ∷ 17 ∷ 0 ∷ [] in
    rw formed
    (row_need ns (get_volume vs vid) 4 _ refl (λ v.
    row_then ns (changed (remote_of v.sync) (latest_lsn cs v.remote)) _ (row_changed ns (remote_of v.sync) (latest_lsn cs v.remote) refl refl) (λ there. row_sync_by ns vs cs v there refl refl refl refl)))

-- the numbers that sync gives: 17 is never given
pub sync_numbers : (vs : Table Volume) (cs : Table Commit) (vid : Id) → volumes_formed vs && commits_formed cs ≡ true → numbered (4 ∷ 16 ∷ 8 ∷ 0 ∷ []) (sync vs cs vid) ≡ true
unfolding any numbered
sync_numbers vs cs vid formed = go (sync vs cs vid) refl (sync_asks vs cs vid formed)
  where
    go : (a : Answer (Table Volume)) → sync vs cs vid ≡ a → numbered (4 ∷ 16 ∷ 8 ∷ 17 ∷ 0 ∷ []) a ≡ true → one_of (4 ∷ 16 ∷ 8 ∷ 0 ∷ []) (code a) ≡ true
    go (done x) e h = refl
    go (refused n) e h =
        cases (eqb n 4) (λ r. rw r)
        (λ r. sync_past vs cs vid e (λ z. clash (ap (one_of (4 ∷ 16 ∷ 8 ∷ 17 ∷ 0 ∷ [])) z ∙ h) refl) (λ z. eqb-false n 4 r (sym z)) (λ a s. ⊎_elim (λ x. rw x.0) (λ x. rw x.0) s))

-- recover answers a number
pub recover_numbers : (vs : Table Volume) (g : Logs) (vid : Id) → volumes_formed vs && logs_formed g ≡ true → one_of (4 ∷ 19 ∷ 8 ∷ 0 ∷ []) (recover vs g vid).0 ≡ true
unfolding recover any
recover_numbers vs g vid formed = rw formed (options (get_volume vs vid) (λ q. rw q) (λ v is. rw is (row_recover_pending (4 ∷ 19 ∷ 8 ∷ 0 ∷ []) vs g v v.pending refl refl refl)))

pub recover_20 : (vs : Table Volume) (g : Logs) (vid : Id) → volumes_formed vs && logs_formed g ≡ false → (recover vs g vid).0 ≡ 20
unfolding recover
recover_20 vs g vid broken = rw broken

-- ---- the calls that meet no table

row_lent : (ns : List ℕ) (lent : ℕ) (o : Option Part) → one_of ns 23 ≡ true → one_of ns 0 ≡ true → numbered ns (within_lent lent o) ≡ true
row_lent ns lent none p q = row_done ns _ q
row_lent ns lent (some f) p q = row_ask ns (leb f.end lent) 23 _ p (row_done ns _ q)

row_joined : (ns : List ℕ) (o : Option Part) → one_of ns 22 ≡ true → one_of ns 0 ≡ true → numbered ns (joined_part o) ≡ true
row_joined ns none p q = row_done ns _ q
row_joined ns (some f) p q = row_ask ns (leb (length f.pages) 32) 22 _ p (row_done ns _ q)

pub built_range_number : (a : ℕ) (b : ℕ) → one_of (1 ∷ 2 ∷ 22 ∷ 0 ∷ []) (code (built_range a b)) ≡ true
unfolding built_range any
built_range_number a b =
    let ns : List ℕ = 1 ∷ 2 ∷ 22 ∷ 0 ∷ [] in
    row_code ns (built_range a b) (row_ask ns (counts a && counts b) 1 _ refl (row_ask ns (leb a b) 2 _ refl (row_ask ns (leb (suc (b / 64 - a / 64)) 32) 22 _ refl (row_done ns _ refl))))

pub frame_list_number : (s : Segment) → one_of (3 ∷ 0 ∷ []) (code (frame_list s)) ≡ true
unfolding frame_list any
frame_list_number s =
    let ns : List ℕ = 3 ∷ 0 ∷ [] in
    row_code ns (frame_list s) (row_ask ns (lists_form s) 3 _ refl (row_done ns _ refl))

pub frame_of_number : (s : Segment) (p : ℕ) → one_of (1 ∷ 3 ∷ 0 ∷ []) (code (frame_of s p)) ≡ true
unfolding frame_of any
frame_of_number s p =
    let ns : List ℕ = 1 ∷ 3 ∷ 0 ∷ [] in
    row_code ns (frame_of s p) (row_ask ns (counts p) 1 _ refl (row_ask ns (lists_form s) 3 _ refl (row_done ns _ refl)))

pub frame_bytes_number : (s : Segment) (p : ℕ) (lent : ℕ) → one_of (1 ∷ 3 ∷ 23 ∷ 0 ∷ []) (code (frame_bytes s p lent)) ≡ true
unfolding frame_bytes any
frame_bytes_number s p lent =
    let ns : List ℕ = 1 ∷ 3 ∷ 23 ∷ 0 ∷ [] in
    row_code ns (frame_bytes s p lent) (row_ask ns (counts p) 1 _ refl (row_ask ns (lists_form s) 3 _ refl (row_lent ns lent (part_of s p) refl refl)))

pub join_number : (a : Part) (b : Part) → one_of (2 ∷ 3 ∷ 22 ∷ 0 ∷ []) (code (join a b)) ≡ true
unfolding join any
join_number a b =
    let ns : List ℕ = 2 ∷ 3 ∷ 22 ∷ 0 ∷ [] in
    row_code ns (join a b) (row_ask ns (leb a.start a.end && leb b.start b.end) 2 _ refl (row_ask ns (normal_form a.pages && normal_form b.pages) 3 _ refl (row_joined ns (touching a b) refl refl)))

pub changes_number : (base : Option ℕ) (head : Option ℕ) → one_of (1 ∷ 16 ∷ 0 ∷ []) (code (changes base head)) ≡ true
unfolding changes any
changes_number base head =
    let ns : List ℕ = 1 ∷ 16 ∷ 0 ∷ [] in
    row_code ns (changes base head) (row_ask ns (given counts base && given counts head) 1 _ refl (row_changed ns base head refl refl))

pub snapshot_new_number : (r : Range) (count : ℕ) → one_of (1 ∷ 2 ∷ 0 ∷ []) (code (snapshot_new r count)) ≡ true
unfolding snapshot_new any
snapshot_new_number r count =
    let ns : List ℕ = 1 ∷ 2 ∷ 0 ∷ [] in
    row_code ns (snapshot_new r count) (row_ask ns (range_lsns r) 1 _ refl (row_ask ns (range_order r) 2 _ refl (row_done ns _ refl)))

pub snapshot_append_number : (s : Snapshot) (r : Range) → one_of (1 ∷ 2 ∷ 3 ∷ 0 ∷ []) (code (snapshot_append s r)) ≡ true
unfolding snapshot_append any
snapshot_append_number s r =
    let ns : List ℕ = 1 ∷ 2 ∷ 3 ∷ 0 ∷ [] in
    row_code ns (snapshot_append s r) (row_ask ns (snapshot_lsns s && range_lsns r) 1 _ refl (row_ask ns (snapshot_order s && range_order r) 2 _ refl (row_ask ns (ltb (length s.path) 8) 3 _ refl (row_done ns _ refl))))
