-- What the law asks of each rule: its room stays, its answer is what `does` has, and what the types of its arguments ensure.
use Rattle.std.proofs.Common.{◌≡◌, ℕ, ◌≤◌, Bool, true, not, ◌&&◌, leb, List, length, sym, refl, ap, ◌∙◌, eq-eqb, le-leb}
use mathlib.Core.Option.{Option, none, some}
use Rattle.octets.specs.Bytes.{AreBytes}
use Rattle.basics.specs.Answers.{done}
use Rattle.basics.specs.Numbers.{counts, last_lsn, last_page}
use Rattle.basics.specs.Hashes.{is_zero}
use Rattle.basics.specs.Orders.{bytes, sid_page}
use Rattle.rules.specs.Lists.{is_none, all}
use Rattle.rules.specs.Records.{Id, Name, Commit, Pending, Volume, Present, Tag, present_key, tag_key}
use Rattle.rules.specs.Forms.{bytes_form, name_length}
use Rattle.rules.specs.Tables.{Table, fits, store, formed, in_order, volumes_formed, commits_formed, presence_formed, tags_formed, get_volume, latest_lsn}
use Rattle.rules.specs.Write.{logs_formed}
use Rattle.rules.specs.Snapshots.{below, watermark_of, remote_of}
use Rattle.rules.specs.Push.{is_before, prepare, drop_pending}
use Rattle.rules.specs.Sync.{changed, not_older, sync_by, sync}
use Rattle.rules.specs.Reads.{volume_delete, page_mark, page_remove, pages_remove, tag_delete, tag_replace}
use Rattle.rules.specs.Calls.{preparing, marking, replacing_tag, empty, well_formed, typed}
use Rattle.rules.proofs.TableLaws.{and_fst, and_snd, and_both}
use Rattle.rules.proofs.AnswerLaws.{done_same, asked, needed, gotten}
use Rattle.layout.proofs.PlaceLaws.{all_bytes}
use Rattle.keeping.specs.Holding.{holding}

-- ---- room stays

pub delete_room : (vs : Table Volume) (vid : Id) (w : Table Volume) → volume_delete vs vid ≡ done w → w.room ≡ vs.room
unfolding volume_delete
delete_room vs vid w e = asked (volumes_formed vs) 20 _ e λ f e1. sym (ap (λ (x : Table Volume). x.room) (done_same e1))

pub drop_room : (vs : Table Volume) (vid : Id) (w : Table Volume) → drop_pending vs vid ≡ done w → w.room ≡ vs.room
unfolding drop_pending
drop_room vs vid w e =
    asked (volumes_formed vs) 20 _ e λ f e1.
    needed (get_volume vs vid) 4 _ e1 λ v is e2. sym (ap (λ (x : Table Volume). x.room) (done_same e2))

pub prepare_room : (vs : Table Volume) (cs : Table Commit) (vid : Id) (p : Pending) (w : Table Volume) → prepare vs cs vid p ≡ done w → w.room ≡ vs.room
unfolding prepare
prepare_room vs cs vid p w e =
    asked (volumes_formed vs && commits_formed cs) 20 _ e λ f e1.
    asked (counts p.local && counts p.commit) 1 _ e1 λ one e2.
    needed (get_volume vs vid) 4 _ e2 λ v is e3.
    asked (is_none v.pending) 9 _ e3 λ a e4.
    asked (below (watermark_of v.sync) p.local) 11 _ e4 λ b e5.
    asked (is_before (latest_lsn cs v.remote) p.commit) 12 _ e5 λ c e6.
    asked (not (is_zero p.hash)) 13 _ e6 λ d e7. sym (ap (λ (x : Table Volume). x.room) (done_same e7))

pub sync_room : (vs : Table Volume) (cs : Table Commit) (vid : Id) (w : Table Volume) → sync vs cs vid ≡ done w → w.room ≡ vs.room
unfolding sync
sync_room vs cs vid w e =
    asked (volumes_formed vs && commits_formed cs) 20 _ e λ f e1.
    needed (get_volume vs vid) 4 _ e1 λ v is e2.
    gotten (changed (remote_of v.sync) (latest_lsn cs v.remote)) _ e2 λ o q e3. by v o e3
  where
    by : (v : Volume) (o : Option (ℕ × ℕ)) → sync_by vs cs v o ≡ done w → w.room ≡ vs.room
    by v none z = sym (ap (λ (x : Table Volume). x.room) (done_same z))
    by v (some r) z =
        gotten (changed (watermark_of v.sync) (latest_lsn cs v.local)) _ z λ here k z1.
        asked (is_none here) 8 _ z1 λ even z2.
        asked (not_older (remote_of v.sync) r.1) 17 _ z2 λ not_old z3. sym (ap (λ (x : Table Volume). x.room) (done_same z3))

pub mark_room : (ps : Table Present) (sid : Id) (page : ℕ) (w : Table Present) → page_mark ps sid page ≡ done w → w.room ≡ ps.room
unfolding page_mark
mark_room ps sid page w e =
    asked (presence_formed ps) 20 _ e λ f e1.
    asked (counts page) 1 _ e1 λ one e2.
    asked (fits (store present_key sid_page (record { sid = sid; page = page }) ps)) 19 _ e2 λ room e3. sym (ap (λ (x : Table Present). x.room) (done_same e3))

pub unmark_room : (ps : Table Present) (sid : Id) (page : ℕ) (w : Table Present) → page_remove ps sid page ≡ done w → w.room ≡ ps.room
unfolding page_remove
unmark_room ps sid page w e =
    asked (presence_formed ps) 20 _ e λ f e1.
    asked (counts page) 1 _ e1 λ one e2. sym (ap (λ (x : Table Present). x.room) (done_same e2))

pub unmark_all_room : (ps : Table Present) (sid : Id) (a b : ℕ) (w : Table Present) → pages_remove ps sid a b ≡ done w → w.room ≡ ps.room
unfolding pages_remove
unmark_all_room ps sid a b w e =
    asked (presence_formed ps) 20 _ e λ f e1.
    asked (counts a && counts b) 1 _ e1 λ one e2.
    asked (leb a b) 2 _ e2 λ two e3. sym (ap (λ (x : Table Present). x.room) (done_same e3))

pub delete_tag_room : (gs : Table Tag) (name : Name) (w : Table Tag) → tag_delete gs name ≡ done w → w.room ≡ gs.room
unfolding tag_delete
delete_tag_room gs name w e =
    asked (tags_formed gs) 20 _ e λ f e1.
    asked (name_length name) 1 _ e1 λ one e2. sym (ap (λ (x : Table Tag). x.room) (done_same e2))

pub replace_tag_room : (gs : Table Tag) (name : Name) (vid : Id) (w : Option Id × Table Tag) → tag_replace gs name vid ≡ done w → w.1.room ≡ gs.room
unfolding tag_replace
replace_tag_room gs name vid w e =
    asked (tags_formed gs) 20 _ e λ f e1.
    asked (name_length name) 1 _ e1 λ one e2.
    asked (fits (store tag_key bytes (record { name = name; vid = vid }) gs)) 19 _ e2 λ room e3. sym (ap (λ (x : Option Id × Table Tag). x.1.room) (done_same e3))

-- ---- the six tables are well formed just where the lent ones are

module _ (vs : Table Volume) (cs : Table Commit) (ps : Table Present) (gs : Table Tag) where
  pub well_of : volumes_formed vs ≡ true → commits_formed cs ≡ true → presence_formed ps ≡ true → tags_formed gs ≡ true → well_formed (holding vs cs ps gs) ≡ true
  unfolding well_formed logs_formed formed fits in_order all
  well_of v c p g = and_both (and_both (and_both v (and_both (and_both c refl) refl)) p) g

  pub volumes_of : well_formed (holding vs cs ps gs) ≡ true → volumes_formed vs ≡ true
  unfolding well_formed
  volumes_of w = search (and_fst, and_snd)

  pub presence_of_lem : well_formed (holding vs cs ps gs) ≡ true → presence_formed ps ≡ true
  unfolding well_formed
  presence_of_lem w = search (and_fst, and_snd)

  pub tags_of : well_formed (holding vs cs ps gs) ≡ true → tags_formed gs ≡ true
  unfolding well_formed
  tags_of w = search (and_fst, and_snd)

-- an empty table is formed
pub no_volumes : volumes_formed (empty 0) ≡ true
unfolding formed fits in_order all
no_volumes = refl

pub no_commits : commits_formed (empty 0) ≡ true
unfolding formed fits in_order all
no_commits = refl

pub no_presence : presence_formed (empty 0) ≡ true
unfolding formed fits in_order all
no_presence = refl

pub no_tags : tags_formed (empty 0) ≡ true
unfolding formed fits in_order all
no_tags = refl

-- ---- what the types of the arguments ensure

bytes_good : (n : ℕ) (b : List ℕ) → length b ≡ n → AreBytes b → bytes_form n b ≡ true
unfolding bytes_form
bytes_good n b l h = and_both (eq-eqb (length b) n l) (all_bytes b h)

pub prepare_typed : (vid : Id) (p : Pending) → p.local ≤ 18446744073709551615 → p.commit ≤ 18446744073709551615 → length p.hash ≡ 32 → AreBytes p.hash → typed (preparing vid p) ≡ true
unfolding typed last_lsn
prepare_typed vid p l m n h = and_both (and_both (le-leb p.local 18446744073709551615 l) (le-leb p.commit 18446744073709551615 m)) (bytes_good 32 p.hash n h)

pub mark_typed : (sid : Id) (page : ℕ) → length sid ≡ 16 → AreBytes sid → page ≤ 4294967295 → typed (marking sid page) ≡ true
unfolding typed last_page
mark_typed sid page l b p = and_both (bytes_good 16 sid l b) (le-leb page 4294967295 p)

pub replace_typed : (name : Name) (vid : Id) → AreBytes name → length vid ≡ 16 → AreBytes vid → typed (replacing_tag name vid) ≡ true
unfolding typed
replace_typed name vid n l b = and_both (all_bytes name n) (bytes_good 16 vid l b)
