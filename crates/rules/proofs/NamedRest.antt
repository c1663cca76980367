-- What the calls do to volumes, present pages and tags. After any call the volumes are as before, or one stored volume is replaced by one that differs as the call
-- allows, or one is added where none was, or (delete) one is removed; present pages are added or removed, and a tag put or removed, only where named.
use Rattle.std.proofs.Common.{◌≡◌, ℕ, Bool, true, false, cond, not, ◌&&◌, eqb, leb, List, [], ◌∷◌, map, sym, refl, ap, ◌∙◌, ⊎_elim}
use Prim.Native.Nat.{compare, Ordering}
use mathlib.Core.Option.{Option, none, some}
use lib.Dec.{compare_is_eq}
use Rattle.basics.specs.Answers.{Answer, refused, done}
use Rattle.basics.specs.Numbers.{counts}
use Rattle.pageset.specs.Sets.{holds, normal_form}
use Rattle.basics.specs.Orders.{bytes, next, sid_page}
use Rattle.basics.specs.Hashes.{is_zero}
use Rattle.rules.specs.Lists.{any, is_some, is_none}
use Rattle.rules.specs.Records.{Id, Name, Pages, Commit, Pending, Volume, Present, Tag, Snapshot, SidPage, present_key, volume_key, tag_key}
use Rattle.rules.specs.Pages.{pages_in}
use Rattle.rules.specs.Forms.{name_length}
use Rattle.rules.specs.Tables.{Table, fits, get, put_all, store, store_all, remove, same_id, get_volume, get_commit, get_tag, get_present, latest_lsn, volumes_formed, commits_formed, presence_formed, tags_formed}
use Rattle.rules.specs.Write.{Logs, logs_formed, write_commit}
use Rattle.rules.specs.Open.{Ids, Asked, or_spare, asked_volume, agrees_on, vid_free, log_free, opened, open_volume}
use Rattle.rules.specs.Snapshots.{watermark_of, remote_of, below}
use Rattle.rules.specs.Save.{save}
use Rattle.rules.specs.Push.{with_pending, is_before, is_hash, pushed_volume, push, prepare, success, drop_pending, leaves, recover_by, recover_pending, recover}
use Rattle.rules.specs.Sync.{changed, moved_volume, not_older, sync_by, sync}
use Rattle.rules.specs.Copies.{copy_free, new_volume, copied, from_snapshot, from_logref}
use Rattle.rules.specs.Reads.{volume_delete, present_in, page_mark, page_remove, pages_remove, tag_delete, tag_replace}
use Rattle.rules.specs.Calls.{Tables, Change, writing, opening, saving, preparing, succeeding, dropping, recovering, syncing, copying, copying_ref, deleting_volume, marking, unmarking, unmarking_all, deleting_tag, replacing_tag, outcome, does, with_volumes, with_logs, with_presence, with_tags}
use Rattle.rules.specs.Named.{names_volume, deletes_volume, changes_pending, changes_sync, VolumeKept, marks, unmarks, names_tag}
use Rattle.basics.proofs.OrderLaws.{bytes_lawful, sid_page_lawful}
use Rattle.rules.proofs.TableLaws.{none_of, cases, options, clash, missing, option_same, and_fst, and_snd, any_map, any_and, get_some, get_put, get_put_all, get_remove, held_put_all, eqb_turn}
use Rattle.rules.proofs.PageLaws.{pages_holds, form_rising}
use Rattle.rules.proofs.Facts.{same_id_lem, id_same}
use Rattle.rules.proofs.AnswerLaws.{done_same, asked, needed, gotten}
use Rattle.rules.proofs.Kept.{save_done}
use Rattle.rules.proofs.NamedLogs.{push_done, success_done, copied_done, from_snapshot_done, from_logref_done}

-- ---- volumes

data VolumeStep (c : Change) (vs : Table Volume) : Table Volume → Type 0 where
  unchanged : VolumeStep c vs vs
  replacing : (v w : Volume) → get_volume vs w.vid ≡ some v → names_volume c w.vid ≡ true → VolumeKept c v w → VolumeStep c vs (store volume_key bytes w vs)
  adding : (w : Volume) → get_volume vs w.vid ≡ none → names_volume c w.vid ≡ true → VolumeStep c vs (store volume_key bytes w vs)
  removing : (vid : Id) → deletes_volume c ≡ true → ((i : Id) → names_volume c i ≡ same_id i vid) → VolumeStep c vs (remove (λ v. same_id vid v.vid) vs)

cast : (c : Change) (vs : Table Volume) {x y : Table Volume} → x ≡ y → VolumeStep c vs x → VolumeStep c vs y
cast c vs e s = rw (← e) s

self : (a : Id) → same_id a a ≡ true
self a = id_same a a refl

-- the volume of an identifier has it, so it is found by its own
own_vid : (vs : Table Volume) (vid : Id) (v : Volume) → get_volume vs vid ≡ some v → (vid ≡ v.vid) × (get_volume vs v.vid ≡ some v)
own_vid vs vid v e =
    let s = (get_some volume_key bytes bytes_lawful vid vs.rows e).1 in (s, ap (λ (i : Id). get volume_key bytes i vs.rows) (sym s) ∙ e)

outcome_volumes : {A : Type 0} (t : Tables) (c : Change) (a : Answer A) (f : A → Tables) → ((x : A) → a ≡ done x → VolumeStep c t.volumes (f x).volumes) → VolumeStep c t.volumes (outcome t a f).1.volumes
outcome_volumes t c (refused n) f h = unchanged
outcome_volumes t c (done x) f h = h x refl

-- a new volume's identifier is that of no stored one
new_vid : (vs : Table Volume) (o : Option Id) (x : Id) → asked_volume vs o ≡ none → vid_free vs o x ≡ true → get_volume vs (or_spare o x) ≡ none
new_vid vs none x e f = none_of (get_volume vs x) f
new_vid vs (some a) x e f = e

open_step : (vs : Table Volume) (cs : Table Commit) (a : Asked) (x : Ids) (r : Volume × Table Volume) → open_volume vs cs a x ≡ done r → VolumeStep (opening a x) vs r.1
unfolding open_volume names_volume
open_step vs cs a x r e =
    asked (volumes_formed vs && commits_formed cs) 20 _ e λ f e1.
    by (asked_volume vs a.vid) refl e1
  where
    by : (o : Option Volume) → asked_volume vs a.vid ≡ o → opened vs cs a x o ≡ done r → VolumeStep (opening a x) vs r.1
    by (some v) q z = asked (agrees_on a.remote v) 6 _ z λ same z1. cast (opening a x) vs (λ i. (done_same z1 i).1) unchanged
    by none q z =
        asked (vid_free vs a.vid x.vid && log_free vs cs a.local x.local (or_spare a.remote x.remote) && log_free vs cs a.remote x.remote (or_spare a.local x.local)) 5 _ z λ free z1.
        asked (fits (store volume_key bytes _ vs)) 19 _ z1 λ room z2.
        cast (opening a x) vs (λ i. (done_same z2 i).1) (adding _ (new_vid vs a.vid x.vid q (search (and_fst, and_snd))) (self (or_spare a.vid x.vid)))

prepare_step : (vs vs' : Table Volume) (cs : Table Commit) (vid : Id) (p : Pending) → prepare vs cs vid p ≡ done vs' → VolumeStep (preparing vid p) vs vs'
unfolding prepare names_volume changes_pending
prepare_step vs vs' cs vid p e =
    asked (volumes_formed vs && commits_formed cs) 20 _ e λ f e1.
    asked (counts p.local && counts p.commit) 1 _ e1 λ one e2.
    needed (get_volume vs vid) 4 _ e2 λ v is e3.
    asked (is_none v.pending) 9 _ e3 λ nine e4.
    asked (below (watermark_of v.sync) p.local) 11 _ e4 λ eleven e5.
    asked (is_before (latest_lsn cs v.remote) p.commit) 12 _ e5 λ twelve e6.
    asked (not (is_zero p.hash)) 13 _ e6 λ thirteen e7.
    let o = own_vid vs vid v is in
    cast (preparing vid p) vs (done_same e7) (replacing v (with_pending v (some p)) o.1 (id_same v.vid vid (sym o.0))
    (record { vid = refl; local = refl; remote = refl; pending = λ q. absurd (clash refl q); sync = λ q. refl }))

success_step : (vs : Table Volume) (g : Logs) (vid : Id) (c : Commit) (r : Table Volume × Logs) → success vs g vid c ≡ done r → VolumeStep (succeeding vid c) vs r.0
unfolding names_volume changes_pending changes_sync
success_step vs g vid c r e =
    success_done vs g vid c r e (λ v p is pe q.
    let o = own_vid vs vid v is in
    cast (succeeding vid c) vs (λ i. (q i).0) (replacing v (pushed_volume v p) o.1 (id_same v.vid vid (sym o.0))
    (record { vid = refl; local = refl; remote = refl; pending = λ z. absurd (clash refl z); sync = λ z. absurd (clash refl z) })))

drop_step : (vs vs' : Table Volume) (vid : Id) → drop_pending vs vid ≡ done vs' → VolumeStep (dropping vid) vs vs'
unfolding drop_pending names_volume changes_pending
drop_step vs vs' vid e =
    asked (volumes_formed vs) 20 _ e λ f e1.
    needed (get_volume vs vid) 4 _ e1 λ v is e2.
    let o = own_vid vs vid v is in
    cast (dropping vid) vs (done_same e2) (replacing v (with_pending v none) o.1 (id_same v.vid vid (sym o.0))
    (record { vid = refl; local = refl; remote = refl; pending = λ q. absurd (clash refl q); sync = λ q. refl }))

recover_volumes : (vs : Table Volume) (g : Logs) (vid : Id) → VolumeStep (recovering vid) vs (recover vs g vid).1
unfolding recover names_volume changes_pending changes_sync
recover_volumes vs g vid =
    cases (volumes_formed vs && logs_formed g) (λ f. rw f (options (get_volume vs vid) (λ q. rw q unchanged) (λ v is. rw is (by v is v.pending)))) (λ f. rw f unchanged)
  where
    dropped : (v : Volume) → get_volume vs vid ≡ some v → VolumeStep (recovering vid) vs (store volume_key bytes (with_pending v none) vs)
    dropped v is =
        let o = own_vid vs vid v is in
        replacing v (with_pending v none) o.1 (id_same v.vid vid (sym o.0)) (record { vid = refl; local = refl; remote = refl; pending = λ q. absurd (clash refl q); sync = λ q. refl })

    pushed : (v : Volume) → get_volume vs vid ≡ some v → (p : Pending) (c : Commit) (a : Answer (Table Volume × Logs)) → push vs g v p c ≡ a → VolumeStep (recovering vid) vs (leaves vs g a).1
    pushed v is p c (refused n) e = unchanged
    pushed v is p c (done r) e =
        let o = own_vid vs vid v is in
        cast (recovering vid) vs (λ i. (push_done vs g v p c r e i).0) (replacing v (pushed_volume v p) o.1 (id_same v.vid vid (sym o.0))
        (record { vid = refl; local = refl; remote = refl; pending = λ q. absurd (clash refl q); sync = λ q. absurd (clash refl q) }))

    by_commit : (v : Volume) → get_volume vs vid ≡ some v → (p : Pending) (o : Option Commit) → VolumeStep (recovering vid) vs (recover_by vs g v p o).1
    by_commit v is p none = dropped v is
    by_commit v is p (some c) = cases (is_hash c.hash p.hash) (λ h. rw h (pushed v is p c (push vs g v p c) refl)) (λ h. rw h (dropped v is))

    by : (v : Volume) → get_volume vs vid ≡ some v → (o : Option Pending) → VolumeStep (recovering vid) vs (recover_pending vs g v o).1
    by v is none = unchanged
    by v is (some p) = by_commit v is p (get_commit g.commits v.remote p.commit)

sync_step : (vs vs' : Table Volume) (cs : Table Commit) (vid : Id) → sync vs cs vid ≡ done vs' → VolumeStep (syncing vid) vs vs'
unfolding sync names_volume changes_pending changes_sync
sync_step vs vs' cs vid e =
    asked (volumes_formed vs && commits_formed cs) 20 _ e λ f e1.
    needed (get_volume vs vid) 4 _ e1 λ v is e2.
    gotten (changed (remote_of v.sync) (latest_lsn cs v.remote)) _ e2 λ there q e3.
    by v is there e3
  where
    by : (v : Volume) → get_volume vs vid ≡ some v → (o : Option (ℕ × ℕ)) → sync_by vs cs v o ≡ done vs' → VolumeStep (syncing vid) vs vs'
    by v is none z = cast (syncing vid) vs (done_same z) unchanged
    by v is (some r) z =
        gotten (changed (watermark_of v.sync) (latest_lsn cs v.local)) _ z λ here k z1.
        asked (is_none here) 8 _ z1 λ even z2.
        asked (not_older (remote_of v.sync) r.1) 17 _ z2 λ new z3.
        let o = own_vid vs vid v is in
        cast (syncing vid) vs (done_same z3) (replacing v (moved_volume v r.1) o.1 (id_same v.vid vid (sym o.0))
        (record { vid = refl; local = refl; remote = refl; pending = λ q. refl; sync = λ q. absurd (clash refl q) }))

copied_step : (c : Change) (vs : Table Volume) (g : Logs) (path : _) (x : Ids) (r : Volume × Table Volume × Logs) → copied vs g path x ≡ done r → names_volume c x.vid ≡ true → VolumeStep c vs r.1
unfolding copy_free
copied_step c vs g path x r e n =
    let q = copied_done vs g path x r e in
    let f = q.0 in
    cast c vs (λ i. (q.1 i).1) (adding (new_volume x) (none_of (get_volume vs x.vid) (search (and_fst, and_snd))) n)

delete_step : (vs vs' : Table Volume) (vid : Id) → volume_delete vs vid ≡ done vs' → VolumeStep (deleting_volume vid) vs vs'
unfolding volume_delete names_volume deletes_volume
delete_step vs vs' vid e = asked (volumes_formed vs) 20 _ e λ f e1. cast (deleting_volume vid) vs (done_same e1) (removing vid refl (λ i. refl))

volumes_step : (t : Tables) (c : Change) → VolumeStep c t.volumes (does t c).1.volumes
unfolding does names_volume
volumes_step t (writing c) = outcome_volumes t (writing c) (write_commit t.logs c) (with_logs t) (λ x e. unchanged)
volumes_step t (opening a x) = outcome_volumes t (opening a x) (open_volume t.volumes t.logs.commits a x) (λ r. with_volumes t r.1) (λ r e. open_step t.volumes t.logs.commits a x r e)
volumes_step t (saving vid s count sid pages) =
    outcome_volumes t (saving vid s count sid pages) (save t.volumes t.logs t.presence vid s count sid pages) (λ r. with_presence (with_logs t r.1) r.2) (λ x e. unchanged)
volumes_step t (preparing vid p) = outcome_volumes t (preparing vid p) (prepare t.volumes t.logs.commits vid p) (with_volumes t) (λ vs e. prepare_step t.volumes vs t.logs.commits vid p e)
volumes_step t (succeeding vid c) =
    outcome_volumes t (succeeding vid c) (success t.volumes t.logs vid c) (λ r. with_logs (with_volumes t r.0) r.1) (λ r e. success_step t.volumes t.logs vid c r e)
volumes_step t (dropping vid) = outcome_volumes t (dropping vid) (drop_pending t.volumes vid) (with_volumes t) (λ vs e. drop_step t.volumes vs vid e)
volumes_step t (recovering vid) = recover_volumes t.volumes t.logs vid
volumes_step t (syncing vid) = outcome_volumes t (syncing vid) (sync t.volumes t.logs.commits vid) (with_volumes t) (λ vs e. sync_step t.volumes vs t.logs.commits vid e)
volumes_step t (copying s x) =
    outcome_volumes t (copying s x) (from_snapshot t.volumes t.logs s x) (λ r. with_logs (with_volumes t r.1) r.2)
    (λ r e. copied_step (copying s x) t.volumes t.logs s.path x r (from_snapshot_done t.volumes t.logs s x r e) (self x.vid))
volumes_step t (copying_ref log lsn x) =
    outcome_volumes t (copying_ref log lsn x) (from_logref t.volumes t.logs log lsn x) (λ r. with_logs (with_volumes t r.1) r.2)
    (λ r e. ⊎_elim (λ s. cast (copying_ref log lsn x) t.volumes (sym s.0) unchanged)
    (λ s. cast (copying_ref log lsn x) t.volumes (sym s.2) (copied_step (copying_ref log lsn x) t.volumes t.logs (record { log = log; start = 1; end = lsn } ∷ []) x s.0 s.1 (self x.vid)))
    (from_logref_done t.volumes t.logs log lsn x r e))
volumes_step t (deleting_volume vid) = outcome_volumes t (deleting_volume vid) (volume_delete t.volumes vid) (with_volumes t) (λ vs e. delete_step t.volumes vs vid e)
volumes_step t (marking sid page) = outcome_volumes t (marking sid page) (page_mark t.presence sid page) (with_presence t) (λ x e. unchanged)
volumes_step t (unmarking sid page) = outcome_volumes t (unmarking sid page) (page_remove t.presence sid page) (with_presence t) (λ x e. unchanged)
volumes_step t (unmarking_all sid a b) = outcome_volumes t (unmarking_all sid a b) (pages_remove t.presence sid a b) (with_presence t) (λ x e. unchanged)
volumes_step t (deleting_tag name) = outcome_volumes t (deleting_tag name) (tag_delete t.tags name) (with_tags t) (λ x e. unchanged)
volumes_step t (replacing_tag name vid) = outcome_volumes t (replacing_tag name vid) (tag_replace t.tags name vid) (λ r. with_tags t r.1) (λ x e. unchanged)

volume_put_lem : (vs : Table Volume) (w : Volume) (vid : Id) → get_volume (store volume_key bytes w vs) vid ≡ cond (same_id vid w.vid) (some w) (get_volume vs vid)
volume_put_lem vs w vid = get_put volume_key bytes bytes_lawful vid w vs.rows

volume_removed : (vs : Table Volume) (gone vid : Id) → get_volume (remove (λ v. same_id gone v.vid) vs) vid ≡ cond (same_id gone vid) none (get_volume vs vid)
volume_removed vs gone vid = get_remove volume_key bytes bytes_lawful (λ v. same_id gone v.vid) (same_id gone) (λ v. refl) vid vs.rows

other_volume : (c : Change) (w : Volume) (vid : Id) → names_volume c w.vid ≡ true → names_volume c vid ≡ false → same_id vid w.vid ≡ false
other_volume c w vid n h =
    cases (same_id vid w.vid) (λ q. absurd (clash (ap (names_volume c) (same_id_lem vid w.vid q) ∙ n) h)) (λ q. q)

untouched_of : (c : Change) (vs vs' : Table Volume) → VolumeStep c vs vs' → (vid : Id) → names_volume c vid ≡ false → get_volume vs' vid ≡ get_volume vs vid
untouched_of c vs vs' unchanged vid h = refl
untouched_of c vs vs' (replacing v w is n k) vid h = volume_put_lem vs w vid ∙ rw (other_volume c w vid n h)
untouched_of c vs vs' (adding w is n) vid h = volume_put_lem vs w vid ∙ rw (other_volume c w vid n h)
untouched_of c vs vs' (removing gone d n) vid h =
    volume_removed vs gone vid
    ∙ cases (same_id gone vid) (λ q. absurd (clash (n vid ∙ id_same vid gone (sym (same_id_lem gone vid q))) h)) (λ q. rw q)

-- T5: a volume that the call does not name is kept
pub volume_untouched : (t : Tables) (c : Change) (vid : Id) → names_volume c vid ≡ false → get_volume (does t c).1.volumes vid ≡ get_volume t.volumes vid
volume_untouched t c vid h = untouched_of c t.volumes (does t c).1.volumes (volumes_step t c) vid h

as_it_was : (c : Change) (v : Volume) → VolumeKept c v v
as_it_was c v = record { vid = refl; local = refl; remote = refl; pending = λ q. refl; sync = λ q. refl }

stays_of : (c : Change) (vs vs' : Table Volume) → VolumeStep c vs vs' → (vid : Id) (v : Volume) → deletes_volume c ≡ false → get_volume vs vid ≡ some v
    → (w : Volume) × (get_volume vs' vid ≡ some w) × VolumeKept c v w
stays_of c vs vs' unchanged vid v d e = (v, e, as_it_was c v)
stays_of c vs vs' (replacing u w is n k) vid v d e =
    cases (same_id vid w.vid)
    (λ q. let s : u ≡ v = option_same (sym is ∙ ap (get_volume vs) (sym (same_id_lem vid w.vid q)) ∙ e) in (w, volume_put_lem vs w vid ∙ rw q, rw s at k))
    (λ q. (v, volume_put_lem vs w vid ∙ rw q e, as_it_was c v))
stays_of c vs vs' (adding w is n) vid v d e =
    cases (same_id vid w.vid)
    (λ q. absurd (missing (ap (get_volume vs) (same_id_lem vid w.vid q) ∙ is) e))
    (λ q. (v, volume_put_lem vs w vid ∙ rw q e, as_it_was c v))
stays_of c vs vs' (removing gone y n) vid v d e = absurd (clash y d)

-- T5: only delete removes a volume; a stored volume keeps its logs, its pending commit but by prepare, success, drop and recover, and its sync point but by success, recover and sync
pub volume_stays : (t : Tables) (c : Change) (vid : Id) (v : Volume) → deletes_volume c ≡ false → get_volume t.volumes vid ≡ some v
    → (w : Volume) × (get_volume (does t c).1.volumes vid ≡ some w) × VolumeKept c v w
volume_stays t c vid v d e = stays_of c t.volumes (does t c).1.volumes (volumes_step t c) vid v d e

-- ---- present pages

data PageStep (c : Change) (ps : Table Present) : Table Present → Type 0 where
  as_before : PageStep c ps ps
  marked : (rs : List Present) → ((k : SidPage) → marks c k ≡ false → any (λ r. compare_is_eq (sid_page k (present_key r))) rs ≡ false) → PageStep c ps (store_all present_key sid_page rs ps)
  unmarked : (f : Present → Bool) → ((r : Present) → f r ≡ unmarks c (present_key r)) → PageStep c ps (remove f ps)

cast_page : (c : Change) (ps : Table Present) {x y : Table Present} → x ≡ y → PageStep c ps x → PageStep c ps y
cast_page c ps e s = rw (← e) s

outcome_pages : {A : Type 0} (t : Tables) (c : Change) (a : Answer A) (f : A → Tables) → ((x : A) → a ≡ done x → PageStep c t.presence (f x).presence) → PageStep c t.presence (outcome t a f).1.presence
outcome_pages t c (refused n) f h = as_before
outcome_pages t c (done x) f h = h x refl

both_parts : (a b : Ordering) → compare_is_eq (next a b) ≡ compare_is_eq a && compare_is_eq b
both_parts Ordering.lt b = refl
both_parts Ordering.eq b = refl
both_parts Ordering.gt b = refl

-- the pages that save makes present: of the segment, and of the set
saved_pages : (sid : Id) (pages : Pages) (k : SidPage) → normal_form pages ≡ true
    → any (λ r. compare_is_eq (sid_page k (present_key r))) (map (λ (p : ℕ). record { sid = sid; page = p }) (pages_in pages)) ≡ same_id k.0 sid && holds pages k.1
saved_pages sid pages k f =
    any_map (λ (r : Present). compare_is_eq (sid_page k (present_key r))) (λ (p : ℕ). record { sid = sid; page = p }) (pages_in pages)
    ∙ any_and (same_id k.0 sid) (λ q. eqb k.1 q) (λ q. compare_is_eq (sid_page k (sid, q))) (pages_in pages) (λ q. both_parts (bytes k.0 sid) (compare q k.1) ∙ ap (λ (b : Bool). same_id k.0 sid && b) (eqb_turn q k.1))
    ∙ ap (λ (b : Bool). same_id k.0 sid && b) (pages_holds 0 pages k.1 (form_rising pages f))

save_pages : (vs : Table Volume) (g : Logs) (ps : Table Present) (vid : Id) (s : Snapshot) (count : ℕ) (sid : Id) (pages : Pages) (r : Snapshot × Logs × Table Present)
    → save vs g ps vid s count sid pages ≡ done r → PageStep (saving vid s count sid pages) ps r.2
unfolding marks
save_pages vs g ps vid s count sid pages r e =
    let x = save_done vs g ps vid s count sid pages r e in
    cast_page (saving vid s count sid pages) ps (λ i. (x.result i).2)
    (marked (map (λ (p : ℕ). record { sid = sid; page = p }) (pages_in pages)) (λ k h. saved_pages sid pages k x.set ∙ h))

mark_pages : (ps ps' : Table Present) (sid : Id) (page : ℕ) → page_mark ps sid page ≡ done ps' → PageStep (marking sid page) ps ps'
unfolding page_mark marks put_all any
mark_pages ps ps' sid page e =
    asked (presence_formed ps) 20 _ e λ f e1.
    asked (counts page) 1 _ e1 λ one e2.
    asked (fits (store present_key sid_page (record { sid = sid; page = page }) ps)) 19 _ e2 λ room e3.
    cast_page (marking sid page) ps (done_same e3) (marked (record { sid = sid; page = page } ∷ []) (λ k h. rw h))

unmark_pages : (ps ps' : Table Present) (sid : Id) (page : ℕ) → page_remove ps sid page ≡ done ps' → PageStep (unmarking sid page) ps ps'
unfolding page_remove unmarks
unmark_pages ps ps' sid page e =
    asked (presence_formed ps) 20 _ e λ f e1.
    asked (counts page) 1 _ e1 λ one e2.
    cast_page (unmarking sid page) ps (done_same e2) (unmarked (present_in sid page page) (λ r. refl))

unmark_all_pages : (ps ps' : Table Present) (sid : Id) (a b : ℕ) → pages_remove ps sid a b ≡ done ps' → PageStep (unmarking_all sid a b) ps ps'
unfolding pages_remove unmarks
unmark_all_pages ps ps' sid a b e =
    asked (presence_formed ps) 20 _ e λ f e1.
    asked (counts a && counts b) 1 _ e1 λ one e2.
    asked (leb a b) 2 _ e2 λ two e3.
    cast_page (unmarking_all sid a b) ps (done_same e3) (unmarked (present_in sid a b) (λ r. refl))

pages_step : (t : Tables) (c : Change) → PageStep c t.presence (does t c).1.presence
unfolding does
pages_step t (writing c) = outcome_pages t (writing c) (write_commit t.logs c) (with_logs t) (λ x e. as_before)
pages_step t (opening a x) = outcome_pages t (opening a x) (open_volume t.volumes t.logs.commits a x) (λ r. with_volumes t r.1) (λ r e. as_before)
pages_step t (saving vid s count sid pages) =
    outcome_pages t (saving vid s count sid pages) (save t.volumes t.logs t.presence vid s count sid pages) (λ r. with_presence (with_logs t r.1) r.2)
    (λ r e. save_pages t.volumes t.logs t.presence vid s count sid pages r e)
pages_step t (preparing vid p) = outcome_pages t (preparing vid p) (prepare t.volumes t.logs.commits vid p) (with_volumes t) (λ x e. as_before)
pages_step t (succeeding vid c) = outcome_pages t (succeeding vid c) (success t.volumes t.logs vid c) (λ r. with_logs (with_volumes t r.0) r.1) (λ x e. as_before)
pages_step t (dropping vid) = outcome_pages t (dropping vid) (drop_pending t.volumes vid) (with_volumes t) (λ x e. as_before)
pages_step t (recovering vid) = as_before
pages_step t (syncing vid) = outcome_pages t (syncing vid) (sync t.volumes t.logs.commits vid) (with_volumes t) (λ x e. as_before)
pages_step t (copying s x) = outcome_pages t (copying s x) (from_snapshot t.volumes t.logs s x) (λ r. with_logs (with_volumes t r.1) r.2) (λ r e. as_before)
pages_step t (copying_ref log lsn x) = outcome_pages t (copying_ref log lsn x) (from_logref t.volumes t.logs log lsn x) (λ r. with_logs (with_volumes t r.1) r.2) (λ r e. as_before)
pages_step t (deleting_volume vid) = outcome_pages t (deleting_volume vid) (volume_delete t.volumes vid) (with_volumes t) (λ x e. as_before)
pages_step t (marking sid page) = outcome_pages t (marking sid page) (page_mark t.presence sid page) (with_presence t) (λ ps e. mark_pages t.presence ps sid page e)
pages_step t (unmarking sid page) = outcome_pages t (unmarking sid page) (page_remove t.presence sid page) (with_presence t) (λ ps e. unmark_pages t.presence ps sid page e)
pages_step t (unmarking_all sid a b) = outcome_pages t (unmarking_all sid a b) (pages_remove t.presence sid a b) (with_presence t) (λ ps e. unmark_all_pages t.presence ps sid a b e)
pages_step t (deleting_tag name) = outcome_pages t (deleting_tag name) (tag_delete t.tags name) (with_tags t) (λ x e. as_before)
pages_step t (replacing_tag name vid) = outcome_pages t (replacing_tag name vid) (tag_replace t.tags name vid) (λ r. with_tags t r.1) (λ x e. as_before)

page_untouched_of : (c : Change) (ps ps' : Table Present) → PageStep c ps ps' → (sid : Id) (page : ℕ) → marks c (sid, page) ≡ false → unmarks c (sid, page) ≡ false → get_present ps' sid page ≡ get_present ps sid page
page_untouched_of c ps ps' as_before sid page m u = refl
page_untouched_of c ps ps' (marked rs n) sid page m u = get_put_all present_key sid_page sid_page_lawful (sid, page) rs ps.rows (n (sid, page) m)
page_untouched_of c ps ps' (unmarked f n) sid page m u = get_remove present_key sid_page sid_page_lawful f (unmarks c) n (sid, page) ps.rows ∙ rw u

-- T5: a page that the call neither marks nor unmarks is as it was
pub page_untouched : (t : Tables) (c : Change) (sid : Id) (page : ℕ) → marks c (sid, page) ≡ false → unmarks c (sid, page) ≡ false → get_present (does t c).1.presence sid page ≡ get_present t.presence sid page
page_untouched t c sid page m u = page_untouched_of c t.presence (does t c).1.presence (pages_step t c) sid page m u

page_stays_of : (c : Change) (ps ps' : Table Present) → PageStep c ps ps' → (sid : Id) (page : ℕ) → unmarks c (sid, page) ≡ false → is_some (get_present ps sid page) ≡ true → is_some (get_present ps' sid page) ≡ true
page_stays_of c ps ps' as_before sid page u h = h
page_stays_of c ps ps' (marked rs n) sid page u h = held_put_all present_key sid_page sid_page_lawful (sid, page) rs ps.rows h
page_stays_of c ps ps' (unmarked f n) sid page u h = ap is_some (get_remove present_key sid_page sid_page_lawful f (unmarks c) n (sid, page) ps.rows) ∙ rw u h

-- T5: only the page removals unmark a page
pub page_stays : (t : Tables) (c : Change) (sid : Id) (page : ℕ) → unmarks c (sid, page) ≡ false → is_some (get_present t.presence sid page) ≡ true → is_some (get_present (does t c).1.presence sid page) ≡ true
page_stays t c sid page u h = page_stays_of c t.presence (does t c).1.presence (pages_step t c) sid page u h

-- ---- tags

data TagStep (c : Change) (gs : Table Tag) : Table Tag → Type 0 where
  tags_before : TagStep c gs gs
  tag_put : (g : Tag) → ((n : Name) → names_tag c n ≡ same_id n g.name) → TagStep c gs (store tag_key bytes g gs)
  tag_gone : (name : Name) → ((n : Name) → names_tag c n ≡ same_id name n) → TagStep c gs (remove (λ g. same_id name g.name) gs)

cast_tag : (c : Change) (gs : Table Tag) {x y : Table Tag} → x ≡ y → TagStep c gs x → TagStep c gs y
cast_tag c gs e s = rw (← e) s

outcome_tags : {A : Type 0} (t : Tables) (c : Change) (a : Answer A) (f : A → Tables) → ((x : A) → a ≡ done x → TagStep c t.tags (f x).tags) → TagStep c t.tags (outcome t a f).1.tags
outcome_tags t c (refused n) f h = tags_before
outcome_tags t c (done x) f h = h x refl

delete_tags : (gs gs' : Table Tag) (name : Name) → tag_delete gs name ≡ done gs' → TagStep (deleting_tag name) gs gs'
unfolding tag_delete names_tag
delete_tags gs gs' name e =
    asked (tags_formed gs) 20 _ e λ f e1.
    asked (name_length name) 1 _ e1 λ one e2.
    cast_tag (deleting_tag name) gs (done_same e2) (tag_gone name (λ n. refl))

replace_tags : (gs : Table Tag) (name : Name) (vid : Id) (r : Option Id × Table Tag) → tag_replace gs name vid ≡ done r → TagStep (replacing_tag name vid) gs r.1
unfolding tag_replace names_tag
replace_tags gs name vid r e =
    asked (tags_formed gs) 20 _ e λ f e1.
    asked (name_length name) 1 _ e1 λ one e2.
    asked (fits (store tag_key bytes (record { name = name; vid = vid }) gs)) 19 _ e2 λ room e3.
    cast_tag (replacing_tag name vid) gs (λ i. (done_same e3 i).1) (tag_put (record { name = name; vid = vid }) (λ n. refl))

tags_step : (t : Tables) (c : Change) → TagStep c t.tags (does t c).1.tags
unfolding does
tags_step t (writing c) = outcome_tags t (writing c) (write_commit t.logs c) (with_logs t) (λ x e. tags_before)
tags_step t (opening a x) = outcome_tags t (opening a x) (open_volume t.volumes t.logs.commits a x) (λ r. with_volumes t r.1) (λ r e. tags_before)
tags_step t (saving vid s count sid pages) =
    outcome_tags t (saving vid s count sid pages) (save t.volumes t.logs t.presence vid s count sid pages) (λ r. with_presence (with_logs t r.1) r.2) (λ r e. tags_before)
tags_step t (preparing vid p) = outcome_tags t (preparing vid p) (prepare t.volumes t.logs.commits vid p) (with_volumes t) (λ x e. tags_before)
tags_step t (succeeding vid c) = outcome_tags t (succeeding vid c) (success t.volumes t.logs vid c) (λ r. with_logs (with_volumes t r.0) r.1) (λ x e. tags_before)
tags_step t (dropping vid) = outcome_tags t (dropping vid) (drop_pending t.volumes vid) (with_volumes t) (λ x e. tags_before)
tags_step t (recovering vid) = tags_before
tags_step t (syncing vid) = outcome_tags t (syncing vid) (sync t.volumes t.logs.commits vid) (with_volumes t) (λ x e. tags_before)
tags_step t (copying s x) = outcome_tags t (copying s x) (from_snapshot t.volumes t.logs s x) (λ r. with_logs (with_volumes t r.1) r.2) (λ r e. tags_before)
tags_step t (copying_ref log lsn x) = outcome_tags t (copying_ref log lsn x) (from_logref t.volumes t.logs log lsn x) (λ r. with_logs (with_volumes t r.1) r.2) (λ r e. tags_before)
tags_step t (deleting_volume vid) = outcome_tags t (deleting_volume vid) (volume_delete t.volumes vid) (with_volumes t) (λ x e. tags_before)
tags_step t (marking sid page) = outcome_tags t (marking sid page) (page_mark t.presence sid page) (with_presence t) (λ ps e. tags_before)
tags_step t (unmarking sid page) = outcome_tags t (unmarking sid page) (page_remove t.presence sid page) (with_presence t) (λ ps e. tags_before)
tags_step t (unmarking_all sid a b) = outcome_tags t (unmarking_all sid a b) (pages_remove t.presence sid a b) (with_presence t) (λ ps e. tags_before)
tags_step t (deleting_tag name) = outcome_tags t (deleting_tag name) (tag_delete t.tags name) (with_tags t) (λ gs e. delete_tags t.tags gs name e)
tags_step t (replacing_tag name vid) = outcome_tags t (replacing_tag name vid) (tag_replace t.tags name vid) (λ r. with_tags t r.1) (λ r e. replace_tags t.tags name vid r e)

tag_untouched_of : (c : Change) (gs gs' : Table Tag) → TagStep c gs gs' → (name : Name) → names_tag c name ≡ false → get_tag gs' name ≡ get_tag gs name
tag_untouched_of c gs gs' tags_before name h = refl
tag_untouched_of c gs gs' (tag_put g n) name h = get_put tag_key bytes bytes_lawful name g gs.rows ∙ rw (sym (n name) ∙ h)
tag_untouched_of c gs gs' (tag_gone gone n) name h = get_remove tag_key bytes bytes_lawful (λ g. same_id gone g.name) (same_id gone) (λ g. refl) name gs.rows ∙ rw (sym (n name) ∙ h)

-- T5: only tag delete and replacement change a tag, and only the one that they name
pub tag_untouched : (t : Tables) (c : Change) (name : Name) → names_tag c name ≡ false → get_tag (does t c).1.tags name ≡ get_tag t.tags name
tag_untouched t c name h = tag_untouched_of c t.tags (does t c).1.tags (tags_step t c) name h
