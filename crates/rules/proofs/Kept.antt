-- Every call keeps tables well formed. What a call stores has its form: by the forms of what it was taken from, by the checks of 1, 2 and 3, and by
-- the types of the arguments. Room was asked, or the record replaces one of its key, or records are removed.
use Rattle.std.proofs.Common.{◌≡◌, ℕ, suc, ◌+◌, ◌-◌, ◌*◌, ◌^◌, ◌<◌, ◌≤◌, min, true, not, ◌&&◌, eqb, ltb, leb, List, [], ◌∷◌, map, length, sym, refl, ap, ◌∙◌, arith, length-append, ltb-true, lt-ltb, le-leb, leb-true}
use mathlib.Core.Option.{Option, none, some}
use Rattle.basics.specs.Answers.{Answer, refused, done}
use Rattle.basics.specs.Numbers.{counts, last_lsn, last_page}
use Rattle.pageset.specs.Sets.{normal_form}
use Rattle.basics.specs.Hashes.{is_zero}
use Rattle.rules.specs.Lists.{those, all, given, is_none}
use Rattle.basics.specs.Orders.{bytes, log_lsn, sid_page}
use Rattle.rules.specs.Records.{Id, Name, Pages, Commit, SyncPoint, Pending, Volume, Present, Tag, Range, Snapshot, commit_key, present_key, volume_key, tag_key}
use Rattle.rules.specs.Pages.{pages_in, size}
use Rattle.rules.specs.Forms.{lsn_form, page_form, count_form, id_form, hash_form, name_length, name_form, lasts_from, frames_form, lists_form, segment_form, commit_form, present_form, sync_form, pending_form, volume_form, tag_form}
use Rattle.rules.specs.Tables.{Table, fits, get, store, formed, volumes_formed, commits_formed, presence_formed, tags_formed, same_id, get_volume, get_commit, latest, latest_lsn}
use Rattle.rules.specs.Arguments.{snapshot_lsns, snapshot_order, snapshot_form, commit_lsns, commit_lists}
use Rattle.rules.specs.Write.{Logs, write, write_all, logs_formed, logs_fit, write_commit}
use Rattle.rules.specs.Open.{Ids, Asked, or_spare, asked_volume, agrees_on, vid_free, log_free, sync_at, opened, open_volume}
use Rattle.rules.specs.Snapshots.{watermark_of, remote_of, below, is_latest, snapshot_of}
use Rattle.rules.specs.Save.{lsn_after, sid_in_use, saved_commit, now_present, save}
use Rattle.rules.specs.Push.{with_pending, is_before, prepare, is_hash, same_there, pushed_volume, push, success, drop_pending, recover_by, recover_pending, recover, leaves}
use Rattle.rules.specs.Sync.{changed, moved_volume, not_older, sync_by, sync}
use Rattle.rules.specs.Walk.{in_range, path_commits}
use Rattle.rules.specs.Copies.{copy_free, renumbered, new_volume, copied, from_snapshot, from_commit, from_logref}
use Rattle.rules.specs.Reads.{volume_delete, present_in, page_mark, page_remove, pages_remove, tag_delete, tag_replace}
use Rattle.rules.specs.Calls.{Tables, Change, writing, opening, saving, preparing, succeeding, dropping, recovering, syncing, copying, copying_ref, deleting_volume, marking, unmarking, unmarking_all, deleting_tag, replacing_tag, well_formed, with_volumes, with_logs, with_presence, with_tags, outcome, does, typed, commit_typed, ids_typed, asked_typed, lsn_typed}
use Rattle.basics.proofs.OrderLaws.{bytes_lawful, log_lsn_lawful, sid_page_lawful}
use Rattle.rules.proofs.TableLaws.{cases, options, missing, option_same, and_fst, and_snd, and_both, first_some, all_at, all_map, all_weaken, all_those, all_append, length_those, get_some, formed_parts, formed_rows, formed_store, formed_store_all, formed_remove, Rows}
use Rattle.rules.proofs.PageLaws.{pages_form}
use Rattle.rules.proofs.AnswerLaws.{done_same, refused_done, asked, needed, gotten}
use Rattle.rules.proofs.Rooms.{fits_replace}
use Rattle.rules.proofs.Write.{logs_rows, rows_logs, write_rows, write_all_rows, written_form}

-- ---- what stored records have

pub volume_form_lem : (vs : Table Volume) (vid : Id) (v : Volume) → volumes_formed vs ≡ true → get_volume vs vid ≡ some v → volume_form v ≡ true
volume_form_lem vs vid v f e =
    all_at volume_form vs.rows (formed_parts volume_key bytes bytes_lawful volume_form vs f).forms (get_some volume_key bytes bytes_lawful vid vs.rows e).0

pub commit_form_lem : (cs : Table Commit) (log : Id) (lsn : ℕ) (c : Commit) → Rows commit_key log_lsn log_lsn_lawful commit_form cs.rows → get_commit cs log lsn ≡ some c → commit_form c ≡ true
commit_form_lem cs log lsn c k e = all_at commit_form cs.rows k.forms (get_some commit_key log_lsn log_lsn_lawful (log, lsn) cs.rows e).0

-- a number of 64 bits that is not 0 is an LSN
pub lsn_form_lem : (n : ℕ) → 0 < n → n < 2 ^ 64 → lsn_form n ≡ true
unfolding lsn_form last_lsn
lsn_form_lem n p h = and_both (lt-ltb 0 n p) (le-leb n (2 ^ 64 - 1) (omega arith))

-- a commit in form has an LSN in form
pub lsn_of_lem : (c : Commit) → commit_form c ≡ true → lsn_form c.lsn ≡ true
unfolding commit_form
lsn_of_lem c e = search (and_fst, and_snd)

-- a log's latest LSN is in form, and so is a sync point at it
pub latest_form : (cs : Table Commit) (log : Id) → all commit_form cs.rows ≡ true → given lsn_form (latest_lsn cs log) ≡ true
latest_form cs log f =
    options (latest cs log) (λ q. rw q) (λ c q. rw q (lsn_of_lem c (all_at commit_form cs.rows f (first_some (λ x. same_id log x.log) cs.rows q).0)))

pub sync_at_form : (o : Option ℕ) → given lsn_form o ≡ true → given sync_form (sync_at o) ≡ true
unfolding sync_form
sync_at_form none h = refl
sync_at_form (some n) h = and_both h refl

-- a volume in form has its sync point in form, and a sync point in form its LSNs
pub sync_form_lem : (v : Volume) → volume_form v ≡ true → given sync_form v.sync ≡ true
unfolding volume_form
sync_form_lem v e = search (and_fst, and_snd)

pub mark_form : (s : Option SyncPoint) → given sync_form s ≡ true → given lsn_form (watermark_of s) ≡ true
unfolding sync_form
mark_form none e = refl
mark_form (some s) e = and_snd (lsn_form s.remote) (given lsn_form s.watermark) e

pub remote_form : (s : Option SyncPoint) → given sync_form s ≡ true → given lsn_form (remote_of s) ≡ true
unfolding sync_form
remote_form none e = refl
remote_form (some s) e = and_fst (lsn_form s.remote) (given lsn_form s.watermark) e

-- ---- a volume in place of the one of its identifier

replaced : (vs : Table Volume) (vid : Id) (v w : Volume) → volumes_formed vs ≡ true → get_volume vs vid ≡ some v → w.vid ≡ v.vid → volume_form w ≡ true
    → volumes_formed (store volume_key bytes w vs) ≡ true
replaced vs vid v w f e s h =
    let k = formed_parts volume_key bytes bytes_lawful volume_form vs f in
    let q = get_some volume_key bytes bytes_lawful vid vs.rows e in
    formed_store volume_key bytes bytes_lawful volume_form w vs h f
    (fits_replace volume_key bytes bytes_lawful w v vs k.up (ap (λ (i : Id). get volume_key bytes i vs.rows) (s ∙ sym q.1) ∙ e) k.fit)

-- a volume in form stays in form with another pending commit in form, or with none, and after the push of its own pending commit
pub pending_form_lem : (v : Volume) (p : Option Pending) → volume_form v ≡ true → given pending_form p ≡ true → volume_form (with_pending v p) ≡ true
unfolding volume_form
pending_form_lem v p f h = and_both (and_fst (id_form v.vid && id_form v.local && id_form v.remote && given sync_form v.sync) (given pending_form v.pending) f) h

own_pending : (v : Volume) (p : Pending) → volume_form v ≡ true → v.pending ≡ some p → pending_form p ≡ true
unfolding volume_form
own_pending v p f e = let h : given pending_form v.pending ≡ true = search (and_fst, and_snd) in rw e at h

pub pushed_form : (v : Volume) (p : Pending) → volume_form v ≡ true → v.pending ≡ some p → volume_form (pushed_volume v p) ≡ true
unfolding volume_form sync_form pending_form
pushed_form v p f e =
    let h : pending_form p ≡ true = own_pending v p f e in
    let a : id_form v.vid && id_form v.local && id_form v.remote ≡ true = search (and_fst, and_snd) in
    let l : lsn_form p.local ≡ true = search (and_fst, and_snd) in
    let c : lsn_form p.commit ≡ true = search (and_fst, and_snd) in
    and_both (and_both a (and_both c l)) refl

-- a volume in form stays in form when its sync point moves
pub moved_form : (v : Volume) (n : ℕ) → volume_form v ≡ true → lsn_form n ≡ true → volume_form (moved_volume v n) ≡ true
unfolding volume_form sync_form
moved_form v n f l =
    let a : id_form v.vid && id_form v.local && id_form v.remote ≡ true = search (and_fst, and_snd) in
    let d : given pending_form v.pending ≡ true = search (and_fst, and_snd) in
    and_both (and_both a (and_both l (mark_form v.sync (sync_form_lem v f)))) d

-- a new volume is in form
new_form : (x : Ids) → ids_typed x ≡ true → volume_form (new_volume x) ≡ true
unfolding volume_form
new_form x h = and_both (and_both h refl) refl

-- ---- call by call

write_kept : (g g' : Logs) (c : Commit) → commit_typed c ≡ true → write_commit g c ≡ done g' → logs_formed g' ≡ true
unfolding write_commit
write_kept g g' c t e =
    asked (logs_formed g) 20 _ e λ f e1.
    asked (commit_lsns c) 1 _ e1 λ one e2.
    asked (commit_lists c) 3 _ e2 λ three e3.
    asked (logs_fit (write g c)) 19 _ e3 λ room e4.
    rw (← done_same e4) (rows_logs (write g c) room (write_rows g c (written_form c t one three) (logs_rows g f)))

spare_form : (o : Option Id) (x : Id) → given id_form o ≡ true → id_form x ≡ true → id_form (or_spare o x) ≡ true
spare_form none x a b = b
spare_form (some y) x a b = a

opened_form : (cs : Table Commit) (a : Asked) (x : Ids) → commits_formed cs ≡ true → asked_typed a && ids_typed x ≡ true
    → volume_form (record { vid = or_spare a.vid x.vid; local = or_spare a.local x.local; remote = or_spare a.remote x.remote; sync = sync_at (latest_lsn cs (or_spare a.remote x.remote)); pending = none }) ≡ true
unfolding volume_form
opened_form cs a x f t =
    let k = formed_rows commit_key log_lsn log_lsn_lawful commit_form cs f in
    and_both (and_both (and_both (and_both (spare_form a.vid x.vid (search (and_fst, and_snd)) (search (and_fst, and_snd))) (spare_form a.local x.local (search (and_fst, and_snd)) (search (and_fst, and_snd))))
    (spare_form a.remote x.remote (search (and_fst, and_snd)) (search (and_fst, and_snd)))) (sync_at_form (latest_lsn cs (or_spare a.remote x.remote)) (latest_form cs (or_spare a.remote x.remote) k.forms))) refl

opened_kept : (vs : Table Volume) (cs : Table Commit) (a : Asked) (x : Ids) (o : Option Volume) (r : Volume × Table Volume) → volumes_formed vs ≡ true → commits_formed cs ≡ true
    → asked_typed a && ids_typed x ≡ true → opened vs cs a x o ≡ done r → volumes_formed r.1 ≡ true
opened_kept vs cs a x (some v) r vf cf t e = asked (agrees_on a.remote v) 6 _ e λ same e1. rw (← done_same e1) vf
opened_kept vs cs a x none r vf cf t e =
    asked (vid_free vs a.vid x.vid && log_free vs cs a.local x.local (or_spare a.remote x.remote) && log_free vs cs a.remote x.remote (or_spare a.local x.local)) 5 _ e λ free e1.
    asked (fits (store volume_key bytes _ vs)) 19 _ e1 λ room e2.
    rw (← done_same e2) (formed_store volume_key bytes bytes_lawful volume_form _ vs (opened_form cs a x cf t) vf room)

open_kept : (vs : Table Volume) (cs : Table Commit) (a : Asked) (x : Ids) (r : Volume × Table Volume) → asked_typed a && ids_typed x ≡ true → open_volume vs cs a x ≡ done r
    → volumes_formed r.1 ≡ true
unfolding open_volume
open_kept vs cs a x r t e =
    asked (volumes_formed vs && commits_formed cs) 20 _ e λ f e1.
    opened_kept vs cs a x (asked_volume vs a.vid) r (and_fst (volumes_formed vs) (commits_formed cs) f) (and_snd (volumes_formed vs) (commits_formed cs) f) t e1

-- the LSN after the latest is one, and above it
pub next_above : (o : Option ℕ) (n : ℕ) → lsn_after o ≡ done n → lsn_form n ≡ true × ((m : ℕ) → o ≡ some m → m < n)
unfolding lsn_after lsn_form last_lsn
next_above none n e = (rw (← done_same e), λ m h. absurd (missing refl h))
next_above (some m) n e =
    asked (ltb m (2 ^ 64 - 1)) 18 _ e λ q e1.
    let s : m + 1 ≡ n = done_same e1 in
    let b = ltb-true m (2 ^ 64 - 1) q in
    (lsn_form_lem n (omega arith) (omega arith), λ k h. omega (arith, option_same h))

-- the commit of a save is in form
pub saved_form : (v : Volume) (lsn count : ℕ) (sid : Id) (pages : Pages) → volume_form v ≡ true → lsn_form lsn ≡ true → count_form count ≡ true → id_form sid ≡ true → normal_form pages ≡ true
    → commit_form (saved_commit v lsn count sid pages) ≡ true
unfolding commit_form segment_form lists_form frames_form lasts_from all volume_form last_lsn
saved_form v lsn count sid pages f l c d s =
    let i : id_form v.local ≡ true = search (and_fst, and_snd) in
    and_both (and_both (and_both (and_both (and_both (and_both i l) c) refl) (and_both d (and_both s refl))) (cases (eqb count (size pages)) (λ q. rw q) (λ q. rw q)))
    (cases (eqb count (size pages)) (λ q. rw q (and_both l refl)) (λ q. rw q))

present_forms : (sid : Id) (pages : Pages) → id_form sid ≡ true → normal_form pages ≡ true → all present_form (map (λ (p : ℕ). record { sid = sid; page = p }) (pages_in pages)) ≡ true
unfolding present_form
present_forms sid pages i s =
    all_map present_form (λ (p : ℕ). record { sid = sid; page = p }) (pages_in pages) ∙ all_weaken page_form _ (pages_in pages) (λ p h. and_both i h) (pages_form pages s)

-- what save did, where it answers
pub record Saved (vs : Table Volume) (g : Logs) (ps : Table Present) (vid : Id) (s : Snapshot) (count : ℕ) (sid : Id) (pages : Pages) (r : Snapshot × Logs × Table Present) : Type 0 where
  pub volumes : volumes_formed vs ≡ true
  pub logs : logs_formed g ≡ true
  pub presence : presence_formed ps ≡ true
  pub set : normal_form pages ≡ true
  pub volume : Volume
  pub is : get_volume vs vid ≡ some volume
  pub current : is_latest g.commits volume s ≡ true
  pub lsn : ℕ
  pub next : lsn_after (latest_lsn g.commits volume.local) ≡ done lsn
  pub unused : not (sid_in_use g.commits ps sid) ≡ true
  pub room : logs_fit (write g (saved_commit volume lsn count sid pages)) && fits (now_present sid pages ps) ≡ true
  pub result : ◌≡◌ {A = Snapshot × Logs × Table Present}
      (snapshot_of (write g (saved_commit volume lsn count sid pages)).commits volume, write g (saved_commit volume lsn count sid pages), now_present sid pages ps) r

pub save_done : (vs : Table Volume) (g : Logs) (ps : Table Present) (vid : Id) (s : Snapshot) (count : ℕ) (sid : Id) (pages : Pages) (r : Snapshot × Logs × Table Present)
    → save vs g ps vid s count sid pages ≡ done r → Saved vs g ps vid s count sid pages r
unfolding save
save_done vs g ps vid s count sid pages r e =
    asked (volumes_formed vs && logs_formed g && presence_formed ps) 20 _ e λ f e1.
    asked (snapshot_lsns s) 1 _ e1 λ one e2.
    asked (snapshot_order s) 2 _ e2 λ two e3.
    asked (snapshot_form s && normal_form pages) 3 _ e3 λ three e4.
    needed (get_volume vs vid) 4 _ e4 λ v is e5.
    asked (is_latest g.commits v s) 7 _ e5 λ current e6.
    gotten (lsn_after (latest_lsn g.commits v.local)) _ e6 λ lsn nx e7.
    asked (not (sid_in_use g.commits ps sid)) 5 _ e7 λ free e8.
    asked (logs_fit (write g (saved_commit v lsn count sid pages)) && fits (now_present sid pages ps)) 19 _ e8 λ room e9.
    record {
      volumes = search (and_fst, and_snd);
      logs = search (and_fst, and_snd);
      presence = search (and_fst, and_snd);
      set = and_snd (snapshot_form s) (normal_form pages) three;
      volume = v;
      is = is;
      current = current;
      lsn = lsn;
      next = nx;
      unused = free;
      room = room;
      result = done_same e9;
    }

pub save_kept : (vs : Table Volume) (g : Logs) (ps : Table Present) (vid : Id) (s : Snapshot) (count : ℕ) (sid : Id) (pages : Pages) (r : Snapshot × Logs × Table Present)
    → count_form count && id_form sid ≡ true → save vs g ps vid s count sid pages ≡ done r → (logs_formed r.1 ≡ true) × (presence_formed r.2 ≡ true)
save_kept vs g ps vid s count sid pages r t e =
    let x = save_done vs g ps vid s count sid pages r e in
    let v = x.volume in
    let c = saved_commit v x.lsn count sid pages in
    let h = saved_form v x.lsn count sid pages (volume_form_lem vs vid v x.volumes x.is) (next_above (latest_lsn g.commits v.local) x.lsn x.next).0 (and_fst (count_form count) (id_form sid) t) (and_snd (count_form count) (id_form sid) t) x.set in
    rw (← x.result) (
      rows_logs (write g c) (and_fst (logs_fit (write g c)) (fits (now_present sid pages ps)) x.room) (write_rows g c h (logs_rows g x.logs)),
      formed_store_all present_key sid_page sid_page_lawful present_form _ ps (present_forms sid pages (and_snd (count_form count) (id_form sid) t) x.set) x.presence (and_snd (logs_fit (write g c)) (fits (now_present sid pages ps)) x.room),
    )

prepare_kept : (vs vs' : Table Volume) (cs : Table Commit) (vid : Id) (p : Pending) → lsn_typed p.local && lsn_typed p.commit && hash_form p.hash ≡ true
    → prepare vs cs vid p ≡ done vs' → volumes_formed vs' ≡ true
unfolding prepare pending_form lsn_form
prepare_kept vs vs' cs vid p t e =
    asked (volumes_formed vs && commits_formed cs) 20 _ e λ f e1.
    asked (counts p.local && counts p.commit) 1 _ e1 λ one e2.
    needed (get_volume vs vid) 4 _ e2 λ v is e3.
    asked (is_none v.pending) 9 _ e3 λ nine e4.
    asked (below (watermark_of v.sync) p.local) 11 _ e4 λ eleven e5.
    asked (is_before (latest_lsn cs v.remote) p.commit) 12 _ e5 λ twelve e6.
    asked (not (is_zero p.hash)) 13 _ e6 λ thirteen e7.
    let vf = and_fst (volumes_formed vs) (commits_formed cs) f in
    let a : counts p.local ≡ true = search (and_fst, and_snd) in
    let b : lsn_typed p.local ≡ true = search (and_fst, and_snd) in
    let c : counts p.commit ≡ true = search (and_fst, and_snd) in
    let d : lsn_typed p.commit ≡ true = search (and_fst, and_snd) in
    let h : hash_form p.hash ≡ true = search (and_fst, and_snd) in
    let pf : pending_form p ≡ true = and_both (and_both (and_both a b) (and_both c d)) h in
    rw (← done_same e7) (replaced vs vid v (with_pending v (some p)) vf is refl (pending_form_lem v (some p) (volume_form_lem vs vid v vf is) pf))

-- the volumes and the three tables
abbrev Both : Table Volume → Logs → Type 0
Both vs g = (volumes_formed vs ≡ true) × (logs_formed g ≡ true)

push_kept : (vs : Table Volume) (g : Logs) (vid : Id) (v : Volume) (p : Pending) (c : Commit) (r : Table Volume × Logs) → Both vs g → get_volume vs vid ≡ some v → v.pending ≡ some p
    → commit_form c ≡ true → push vs g v p c ≡ done r → Both r.0 r.1
push_kept vs g vid v p c r b is pe h e =
    asked (fits (store volume_key bytes (pushed_volume v p) vs) && logs_fit (write g c)) 19 _ e λ room e1.
    let vf = volume_form_lem vs vid v b.0 is in
    rw (← done_same e1) (
      replaced vs vid v (pushed_volume v p) b.0 is refl (pushed_form v p vf pe),
      rows_logs (write g c) (and_snd (fits (store volume_key bytes (pushed_volume v p) vs)) (logs_fit (write g c)) room) (write_rows g c h (logs_rows g b.1)),
    )

success_kept : (vs : Table Volume) (g : Logs) (vid : Id) (c : Commit) (r : Table Volume × Logs) → commit_typed c ≡ true → success vs g vid c ≡ done r → Both r.0 r.1
unfolding success
success_kept vs g vid c r t e =
    asked (volumes_formed vs && logs_formed g) 20 _ e λ f e1.
    asked (commit_lsns c) 1 _ e1 λ one e2.
    asked (commit_lists c) 3 _ e2 λ three e3.
    needed (get_volume vs vid) 4 _ e3 λ v is e4.
    needed v.pending 10 _ e4 λ p pe e5.
    asked (eqb c.lsn p.commit && is_hash c.hash p.hash) 14 _ e5 λ fourteen e6.
    asked (same_there (get_commit g.commits c.log c.lsn) p.hash) 15 _ e6 λ fifteen e7.
    push_kept vs g vid v p c r (and_fst (volumes_formed vs) (logs_formed g) f, and_snd (volumes_formed vs) (logs_formed g) f) is pe (written_form c t one three) e7

dropped_kept : (vs : Table Volume) (vid : Id) (v : Volume) → volumes_formed vs ≡ true → get_volume vs vid ≡ some v → volumes_formed (store volume_key bytes (with_pending v none) vs) ≡ true
dropped_kept vs vid v f is = replaced vs vid v (with_pending v none) f is refl (pending_form_lem v none (volume_form_lem vs vid v f is) refl)

drop_kept : (vs vs' : Table Volume) (vid : Id) → drop_pending vs vid ≡ done vs' → volumes_formed vs' ≡ true
unfolding drop_pending
drop_kept vs vs' vid e =
    asked (volumes_formed vs) 20 _ e λ f e1.
    needed (get_volume vs vid) 4 _ e1 λ v is e2.
    rw (← done_same e2) (dropped_kept vs vid v f is)

leaves_kept : (vs : Table Volume) (g : Logs) (a : Answer (Table Volume × Logs)) → Both vs g → ((r : Table Volume × Logs) → a ≡ done r → Both r.0 r.1)
    → Both (leaves vs g a).1 (leaves vs g a).2
leaves_kept vs g (refused n) b h = b
leaves_kept vs g (done r) b h = h r refl

recover_by_kept : (vs : Table Volume) (g : Logs) (vid : Id) (v : Volume) (p : Pending) (o : Option Commit) → Both vs g → get_volume vs vid ≡ some v → v.pending ≡ some p
    → ((c : Commit) → o ≡ some c → commit_form c ≡ true) → Both (recover_by vs g v p o).1 (recover_by vs g v p o).2
recover_by_kept vs g vid v p none b is pe h = (dropped_kept vs vid v b.0 is, b.1)
recover_by_kept vs g vid v p (some c) b is pe h =
    cases (is_hash c.hash p.hash)
    (λ q. rw q (leaves_kept vs g (push vs g v p c) b (λ r e. push_kept vs g vid v p c r b is pe (h c refl) e)))
    (λ q. rw q (dropped_kept vs vid v b.0 is, b.1))

recover_pending_kept : (vs : Table Volume) (g : Logs) (vid : Id) (v : Volume) (o : Option Pending) → Both vs g → get_volume vs vid ≡ some v → v.pending ≡ o
    → Both (recover_pending vs g v o).1 (recover_pending vs g v o).2
recover_pending_kept vs g vid v none b is pe = b
recover_pending_kept vs g vid v (some p) b is pe =
    recover_by_kept vs g vid v p (get_commit g.commits v.remote p.commit) b is pe (λ c q. commit_form_lem g.commits v.remote p.commit c (logs_rows g b.1).commits q)

recover_kept : (vs : Table Volume) (g : Logs) (vid : Id) → Both vs g → Both (recover vs g vid).1 (recover vs g vid).2
unfolding recover
recover_kept vs g vid b = rw (b.0, b.1) (options (get_volume vs vid) (λ q. rw q b) (λ v is. rw is (recover_pending_kept vs g vid v v.pending b is refl)))

-- the head of changes is the log's latest LSN
changed_head : (b h : Option ℕ) (r : ℕ × ℕ) → changed b h ≡ done (some r) → h ≡ some r.1
unfolding changed
changed_head none none r e = absurd (missing refl (done_same e))
changed_head none (some h) r e = ap {B = Option ℕ} some (λ i. (option_same (done_same e) i).1)
changed_head (some b) none r e = refused_done e
changed_head (some b) (some h) r e =
    cases (ltb b h) (λ q. ap {B = Option ℕ} some (λ i. (option_same (done_same (rw q at e)) i).1)) (λ q. absurd (missing refl (done_same (rw q at e))))

sync_by_kept : (vs vs' : Table Volume) (cs : Table Commit) (vid : Id) (v : Volume) (o : Option (ℕ × ℕ)) → volumes_formed vs ≡ true → commits_formed cs ≡ true → get_volume vs vid ≡ some v
    → changed (remote_of v.sync) (latest_lsn cs v.remote) ≡ done o → sync_by vs cs v o ≡ done vs' → volumes_formed vs' ≡ true
sync_by_kept vs vs' cs vid v none vf cf is q e = rw (← done_same e) vf
sync_by_kept vs vs' cs vid v (some r) vf cf is q e =
    gotten (changed (watermark_of v.sync) (latest_lsn cs v.local)) _ e λ here k e1.
    asked (is_none here) 8 _ e1 λ even e2.
    asked (not_older (remote_of v.sync) r.1) 17 _ e2 λ new e3.
    let k : given lsn_form (latest_lsn cs v.remote) ≡ true = latest_form cs v.remote (formed_rows commit_key log_lsn log_lsn_lawful commit_form cs cf).forms in
    let l : lsn_form r.1 ≡ true = rw (changed_head (remote_of v.sync) (latest_lsn cs v.remote) r q) at k in
    rw (← done_same e3) (replaced vs vid v (moved_volume v r.1) vf is refl (moved_form v r.1 (volume_form_lem vs vid v vf is) l))

sync_kept : (vs vs' : Table Volume) (cs : Table Commit) (vid : Id) → sync vs cs vid ≡ done vs' → volumes_formed vs' ≡ true
unfolding sync
sync_kept vs vs' cs vid e =
    asked (volumes_formed vs && commits_formed cs) 20 _ e λ f e1.
    needed (get_volume vs vid) 4 _ e1 λ v is e2.
    gotten (changed (remote_of v.sync) (latest_lsn cs v.remote)) _ e2 λ there q e3.
    sync_by_kept vs vs' cs vid v there (and_fst (volumes_formed vs) (commits_formed cs) f) (and_snd (volumes_formed vs) (commits_formed cs) f) is q e3

-- ---- copies: at most 8 times 65,535 commits
path_length : (cs : Table Commit) (path : List Range) → fits cs ≡ true → length (path_commits cs path) ≤ length path * 65535
unfolding fits
path_length cs [] f = omega arith
path_length cs (r ∷ rs) f =
    omega (arith, length-append (those (in_range r) cs.rows) (path_commits cs rs), length_those (in_range r) cs.rows, leb-true (length cs.rows) (min cs.room 65535) f, path_length cs rs f)

-- the commits of a path are in form, and so they are renumbered
pub path_forms : (cs : Table Commit) (path : List Range) → all commit_form cs.rows ≡ true → all commit_form (path_commits cs path) ≡ true
unfolding all
path_forms cs [] f = refl
path_forms cs (r ∷ rs) f = all_append commit_form (those (in_range r) cs.rows) (path_commits cs rs) ∙ and_both (all_those commit_form (in_range r) cs.rows f) (path_forms cs rs f)

pub renumber_form : (log : Id) (lsn : ℕ) (c : Commit) → id_form log ≡ true → lsn_form lsn ≡ true → commit_form c ≡ true
    → commit_form (record { log = log; lsn = lsn; count = c.count; hash = c.hash; segment = c.segment; checkpoints = c.checkpoints }) ≡ true
unfolding commit_form
renumber_form log lsn c i l f =
    and_both (and_both (and_both (and_both (and_both (and_both i l) (search (and_fst, and_snd))) (search (and_fst, and_snd))) (search (and_fst, and_snd))) (search (and_fst, and_snd))) (search (and_fst, and_snd))

pub renumbered_forms : (log : Id) (cs : List Commit) → id_form log ≡ true → length cs ≤ 524280 → all commit_form cs ≡ true → all commit_form (renumbered log cs) ≡ true
unfolding all
renumbered_forms log [] i n f = refl
renumbered_forms log (c ∷ cs) i n f =
    and_both
    (renumber_form log (suc (length cs)) c i (lsn_form_lem (suc (length cs)) (omega arith) (omega arith)) (and_fst (commit_form c) (all commit_form cs) f))
    (renumbered_forms log cs i (omega arith) (and_snd (commit_form c) (all commit_form cs) f))

commits_fit : (g : Logs) → logs_formed g ≡ true → fits g.commits ≡ true
unfolding logs_formed formed
commits_fit g e = search (and_fst, and_snd)

copied_kept : (vs : Table Volume) (g : Logs) (path : List Range) (x : Ids) (r : Volume × Table Volume × Logs) → Both vs g → length path ≤ 8 → ids_typed x ≡ true → copied vs g path x ≡ done r
    → Both r.1 r.2
copied_kept vs g path x r b n t e =
    let cs = renumbered x.local (path_commits g.commits path) in
    asked (copy_free vs g.commits x) 5 _ e λ free e1.
    asked (fits (store volume_key bytes (new_volume x) vs) && logs_fit (write_all g cs)) 19 _ e1 λ room e2.
    let k = logs_rows g b.1 in
    let i : id_form x.local ≡ true = search (and_fst, and_snd) in
    let f = renumbered_forms x.local (path_commits g.commits path) i (omega (arith, path_length g.commits path (commits_fit g b.1))) (path_forms g.commits path k.commits.forms) in
    rw (← done_same e2) (
      formed_store volume_key bytes bytes_lawful volume_form (new_volume x) vs (new_form x t) b.0 (and_fst (fits (store volume_key bytes (new_volume x) vs)) (logs_fit (write_all g cs)) room),
      rows_logs (write_all g cs) (and_snd (fits (store volume_key bytes (new_volume x) vs)) (logs_fit (write_all g cs)) room) (write_all_rows g cs f k),
    )

from_snapshot_kept : (vs : Table Volume) (g : Logs) (s : Snapshot) (x : Ids) (r : Volume × Table Volume × Logs) → ids_typed x ≡ true → from_snapshot vs g s x ≡ done r → Both r.1 r.2
unfolding from_snapshot snapshot_form
from_snapshot_kept vs g s x r t e =
    asked (volumes_formed vs && logs_formed g) 20 _ e λ f e1.
    asked (snapshot_lsns s) 1 _ e1 λ one e2.
    asked (snapshot_order s) 2 _ e2 λ two e3.
    asked (leb (length s.path) 8) 3 _ e3 λ three e4.
    copied_kept vs g s.path x r (and_fst (volumes_formed vs) (logs_formed g) f, and_snd (volumes_formed vs) (logs_formed g) f) (leb-true (length s.path) 8 three) t e4

from_commit_kept : (vs : Table Volume) (g : Logs) (log : Id) (lsn : ℕ) (x : Ids) (o : Option Commit) (r : Option Volume × Table Volume × Logs) → Both vs g → ids_typed x ≡ true
    → from_commit vs g log lsn x o ≡ done r → Both r.1 r.2
from_commit_kept vs g log lsn x none r b t e = rw (← done_same e) b
from_commit_kept vs g log lsn x (some c) r b t e =
    gotten (copied vs g (record { log = log; start = 1; end = lsn } ∷ []) x) _ e λ q k e1.
    rw (← done_same e1) (copied_kept vs g (record { log = log; start = 1; end = lsn } ∷ []) x q b (omega arith) t k)

from_logref_kept : (vs : Table Volume) (g : Logs) (log : Id) (lsn : ℕ) (x : Ids) (r : Option Volume × Table Volume × Logs) → ids_typed x ≡ true → from_logref vs g log lsn x ≡ done r → Both r.1 r.2
unfolding from_logref
from_logref_kept vs g log lsn x r t e =
    asked (volumes_formed vs && logs_formed g) 20 _ e λ f e1.
    asked (counts lsn) 1 _ e1 λ one e2.
    from_commit_kept vs g log lsn x (get_commit g.commits log lsn) r (and_fst (volumes_formed vs) (logs_formed g) f, and_snd (volumes_formed vs) (logs_formed g) f) t e2

-- ---- removals, pages, tags

delete_kept : (vs vs' : Table Volume) (vid : Id) → volume_delete vs vid ≡ done vs' → volumes_formed vs' ≡ true
unfolding volume_delete
delete_kept vs vs' vid e =
    asked (volumes_formed vs) 20 _ e λ f e1.
    rw (← done_same e1) (formed_remove volume_key bytes bytes_lawful volume_form (λ v. same_id vid v.vid) vs f)

mark_kept : (ps ps' : Table Present) (sid : Id) (page : ℕ) → id_form sid && leb page last_page ≡ true → page_mark ps sid page ≡ done ps' → presence_formed ps' ≡ true
unfolding page_mark present_form page_form
mark_kept ps ps' sid page t e =
    asked (presence_formed ps) 20 _ e λ f e1.
    asked (counts page) 1 _ e1 λ one e2.
    asked (fits (store present_key sid_page (record { sid = sid; page = page }) ps)) 19 _ e2 λ room e3.
    rw (← done_same e3)
    (formed_store present_key sid_page sid_page_lawful _ (record { sid = sid; page = page }) ps (and_both (and_fst (id_form sid) (leb page last_page) t) (and_both one (and_snd (id_form sid) (leb page last_page) t))) f room)

unmark_kept : (ps ps' : Table Present) (sid : Id) (page : ℕ) → page_remove ps sid page ≡ done ps' → presence_formed ps' ≡ true
unfolding page_remove
unmark_kept ps ps' sid page e =
    asked (presence_formed ps) 20 _ e λ f e1.
    asked (counts page) 1 _ e1 λ one e2.
    rw (← done_same e2) (formed_remove present_key sid_page sid_page_lawful present_form (present_in sid page page) ps f)

unmark_all_kept : (ps ps' : Table Present) (sid : Id) (a b : ℕ) → pages_remove ps sid a b ≡ done ps' → presence_formed ps' ≡ true
unfolding pages_remove
unmark_all_kept ps ps' sid a b e =
    asked (presence_formed ps) 20 _ e λ f e1.
    asked (counts a && counts b) 1 _ e1 λ one e2.
    asked (leb a b) 2 _ e2 λ two e3.
    rw (← done_same e3) (formed_remove present_key sid_page sid_page_lawful present_form (present_in sid a b) ps f)

delete_tag_kept : (gs gs' : Table Tag) (name : Name) → tag_delete gs name ≡ done gs' → tags_formed gs' ≡ true
unfolding tag_delete
delete_tag_kept gs gs' name e =
    asked (tags_formed gs) 20 _ e λ f e1.
    asked (name_length name) 1 _ e1 λ one e2.
    rw (← done_same e2) (formed_remove tag_key bytes bytes_lawful tag_form (λ g. same_id name g.name) gs f)

replace_tag_kept : (gs : Table Tag) (name : Name) (vid : Id) (r : Option Id × Table Tag) → all (λ x. ltb x 256) name && id_form vid ≡ true → tag_replace gs name vid ≡ done r → tags_formed r.1 ≡ true
unfolding tag_replace tag_form name_form
replace_tag_kept gs name vid r t e =
    asked (tags_formed gs) 20 _ e λ f e1.
    asked (name_length name) 1 _ e1 λ one e2.
    asked (fits (store tag_key bytes (record { name = name; vid = vid }) gs)) 19 _ e2 λ room e3.
    rw (← done_same e3)
    (formed_store tag_key bytes bytes_lawful _ (record { name = name; vid = vid }) gs (and_both (and_both one (and_fst (all (λ x. ltb x 256) name) (id_form vid) t)) (and_snd (all (λ x. ltb x 256) name) (id_form vid) t)) f room)

-- ---- all of them

record Well (t : Tables) : Type 0 where
  volumes : volumes_formed t.volumes ≡ true
  logs : logs_formed t.logs ≡ true
  presence : presence_formed t.presence ≡ true
  tags : tags_formed t.tags ≡ true

well : (t : Tables) → well_formed t ≡ true → Well t
unfolding well_formed
well t e = record { volumes = search (and_fst, and_snd); logs = search (and_fst, and_snd); presence = search (and_fst, and_snd); tags = search (and_fst, and_snd) }

formed_well : (t : Tables) → Well t → well_formed t ≡ true
unfolding well_formed
formed_well t k = and_both (and_both (and_both k.volumes k.logs) k.presence) k.tags

outcome_well : {A : Type 0} (t : Tables) (a : Answer A) (f : A → Tables) → Well t → ((x : A) → a ≡ done x → Well (f x)) → Well (outcome t a f).1
outcome_well t (refused n) f k h = k
outcome_well t (done x) f k h = h x refl

volumes_well : (t : Tables) (vs : Table Volume) → Well t → volumes_formed vs ≡ true → Well (with_volumes t vs)
volumes_well t vs k h = record { volumes = h; logs = k.logs; presence = k.presence; tags = k.tags }

both_well : (t : Tables) (vs : Table Volume) (g : Logs) → Well t → Both vs g → Well (with_logs (with_volumes t vs) g)
both_well t vs g k h = record { volumes = h.0; logs = h.1; presence = k.presence; tags = k.tags }

presence_well : (t : Tables) (ps : Table Present) → Well t → presence_formed ps ≡ true → Well (with_presence t ps)
presence_well t ps k h = record { volumes = k.volumes; logs = k.logs; presence = h; tags = k.tags }

tags_well : (t : Tables) (gs : Table Tag) → Well t → tags_formed gs ≡ true → Well (with_tags t gs)
tags_well t gs k h = record { volumes = k.volumes; logs = k.logs; presence = k.presence; tags = h }

after_well : (t : Tables) (c : Change) → typed c ≡ true → Well t → Well (does t c).1
unfolding does typed
after_well t (writing c) y k =
    outcome_well t (write_commit t.logs c) (with_logs t) k (λ g e. record { volumes = k.volumes; logs = write_kept t.logs g c y e; presence = k.presence; tags = k.tags })
after_well t (opening a x) y k =
    outcome_well t (open_volume t.volumes t.logs.commits a x) (λ r. with_volumes t r.1) k (λ r e. volumes_well t r.1 k (open_kept t.volumes t.logs.commits a x r y e))
after_well t (saving vid s count sid pages) y k =
    outcome_well t (save t.volumes t.logs t.presence vid s count sid pages) (λ r. with_presence (with_logs t r.1) r.2) k
    (λ r e. let h = save_kept t.volumes t.logs t.presence vid s count sid pages r y e in record { volumes = k.volumes; logs = h.0; presence = h.1; tags = k.tags })
after_well t (preparing vid p) y k =
    outcome_well t (prepare t.volumes t.logs.commits vid p) (with_volumes t) k (λ vs e. volumes_well t vs k (prepare_kept t.volumes vs t.logs.commits vid p y e))
after_well t (succeeding vid c) y k =
    outcome_well t (success t.volumes t.logs vid c) (λ r. with_logs (with_volumes t r.0) r.1) k (λ r e. both_well t r.0 r.1 k (success_kept t.volumes t.logs vid c r y e))
after_well t (dropping vid) y k = outcome_well t (drop_pending t.volumes vid) (with_volumes t) k (λ vs e. volumes_well t vs k (drop_kept t.volumes vs vid e))
after_well t (recovering vid) y k =
    both_well t (recover t.volumes t.logs vid).1 (recover t.volumes t.logs vid).2 k (recover_kept t.volumes t.logs vid (k.volumes, k.logs))
after_well t (syncing vid) y k = outcome_well t (sync t.volumes t.logs.commits vid) (with_volumes t) k (λ vs e. volumes_well t vs k (sync_kept t.volumes vs t.logs.commits vid e))
after_well t (copying s x) y k =
    outcome_well t (from_snapshot t.volumes t.logs s x) (λ r. with_logs (with_volumes t r.1) r.2) k (λ r e. both_well t r.1 r.2 k (from_snapshot_kept t.volumes t.logs s x r y e))
after_well t (copying_ref log lsn x) y k =
    outcome_well t (from_logref t.volumes t.logs log lsn x) (λ r. with_logs (with_volumes t r.1) r.2) k (λ r e. both_well t r.1 r.2 k (from_logref_kept t.volumes t.logs log lsn x r y e))
after_well t (deleting_volume vid) y k = outcome_well t (volume_delete t.volumes vid) (with_volumes t) k (λ vs e. volumes_well t vs k (delete_kept t.volumes vs vid e))
after_well t (marking sid page) y k = outcome_well t (page_mark t.presence sid page) (with_presence t) k (λ ps e. presence_well t ps k (mark_kept t.presence ps sid page y e))
after_well t (unmarking sid page) y k = outcome_well t (page_remove t.presence sid page) (with_presence t) k (λ ps e. presence_well t ps k (unmark_kept t.presence ps sid page e))
after_well t (unmarking_all sid a b) y k = outcome_well t (pages_remove t.presence sid a b) (with_presence t) k (λ ps e. presence_well t ps k (unmark_all_kept t.presence ps sid a b e))
after_well t (deleting_tag name) y k = outcome_well t (tag_delete t.tags name) (with_tags t) k (λ gs e. tags_well t gs k (delete_tag_kept t.tags gs name e))
after_well t (replacing_tag name vid) y k = outcome_well t (tag_replace t.tags name vid) (λ r. with_tags t r.1) k (λ r e. tags_well t r.1 k (replace_tag_kept t.tags name vid r y e))

-- T2: every call keeps tables well formed
pub kept : (t : Tables) (c : Change) → typed c ≡ true → well_formed t ≡ true → well_formed (does t c).1 ≡ true
kept t c y w = formed_well (does t c).1 (after_well t c y (well t w))
