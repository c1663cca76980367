-- The ends of the calls: for each way out of the code, the rule's answer. A decision goes by the changes of the remote and then of the local log; 17 is never met, since
-- changes end at a head that is past their base. A volume that was found and changed is stored in its own place, since its identifier stays.
use Rattle.std.specs.Prelude as std
use Rattle.std.proofs.Common.{◌≡◌, ℕ, ◌+◌, ◌-◌, ◌^◌, ◌<◌, Bool, true, false, not, ◌&&◌, eqb, ltb, List, ◌∷◌, length, sym, refl, ap, ◌∙◌, ap₂, arith, ltb-true, eq-eqb, ne_eqb, eqb-true, le-leb, Result, Ok, Err, Option as Maybe, Some, None}
use mathlib.Core.Option.{Option, none, some, map}
use borrow.Author.Tests.{eqb-false}
use Rattle.basics.specs.Answers.{Answer, refused, done, code, ask, need, ◌>>◌, ◌>>=◌}
use Rattle.basics.specs.Numbers.{counts, last_lsn}
use Rattle.basics.specs.Hashes.{is_zero}
use Rattle.basics.specs.Orders.{bytes}
use Rattle.octets.specs.Bytes.{AreBytes}
use Rattle.rules.specs.Lists.{is_none, given}
use Rattle.rules.specs.Records.{Id, Commit, Pending, Volume, volume_key}
use Rattle.rules.specs.Forms.{bytes_form, id_form, lsn_form, sync_form, pending_form, volume_form}
use Rattle.rules.specs.Tables.{Table, store, get_volume, latest_lsn}
use Rattle.rules.specs.Snapshots.{watermark_of, remote_of, below}
use Rattle.rules.specs.Sync.{changed, changes, moved_volume, not_older, sync_by, sync}
use Rattle.rules.specs.Push.{with_pending, is_before, prepare}
use Rattle.rules.proofs.TableLaws.{cases, missing, option_same, and_fst, and_snd, and_both}
use Rattle.rules.proofs.Kept.{mark_form, remote_form, moved_form, latest_form, sync_form_lem}
use Rattle.rules.proofs.AnswerLaws.{done_same, refused_done}
use Rattle.table.specs.Records.{spot}
use Rattle.table.specs.Table.{recs}
use Rattle.layout.specs.Lent.{lent, after}
use Rattle.layout.specs.Records.{volume_bytes}
use Rattle.layout.specs.Tables.{volumes_in, volumes_ok, commits_in, commits_ok}
use Rattle.layout.proofs.LentLaws.{lent_yes, changed as stores}
use Rattle.layout.proofs.PlaceLaws.{all_bytes}
use Rattle.rows.specs.Lookups.{nth, at_spot}
use Rattle.rows.proofs.Rows.{formed_forms, laid_same}
use Rattle.rows.proofs.Tables.{volumes, commits}
use Rattle.volume.specs.Volumes.{maybe_lsn_says, sync_says, pending_says, changes_says, volume_says}
use Rattle.volume.proofs.ChangeLaws.{past_zero}
use Rattle.volume.specs.declared.volume.LsnRange.{LsnRange}
use Rattle.volume.specs.declared.volume.PendingCommit.{PendingCommit}
use Rattle.basics.specs.declared.refusal.Refusal.{Refusal}
use Rattle.basics.specs.declared.refusal.Refusal.TheVariants as Refusal
use Rattle.volume.specs.declared.volume.Volume.{Volume as CodeVolume}
use Rattle.basics.specs.declared.lsn.Lsn.{Lsn}
use Rattle.volumebytes.specs.Laid.{volume_laid}
use Rattle.volumebytes.proofs.RoundLaws.{says_laid}
use Rattle.volumecalls.proofs.Ends.{made_of, here, found_form, found_vid}
use Rattle.viewcalls.proofs.Ends.{formed}
use Rattle.synccalls.specs.Pulls.{sync_found, pull_says, pull_form, Pulls}

-- ---- forms: no LSN of a record is 0

lsn_counts : (o : Option ℕ) → given lsn_form o ≡ true → given counts o ≡ true
unfolding lsn_form
lsn_counts none e = refl
lsn_counts (some n) e = and_fst _ _ e

-- ---- changes of a log since a base that is in form

changes_are : (r : Result (Maybe LsnRange) Refusal) (b : Option ℕ) (u : List ℕ) (log : Id) → given lsn_form b ≡ true → commits_ok u ≡ true
    → changes_says r ≡ changes b (latest_lsn (commits_in u) log) → changes_says r ≡ changed b (latest_lsn (commits_in u) log)
changes_are r b u log f ok e =
    e ∙ sym (past_zero b (latest_lsn (commits_in u) log) (changed b (latest_lsn (commits_in u) log)) b refl (lsn_counts b f) (lsn_counts (latest_lsn (commits_in u) log) (latest_form (commits_in u) log (formed_forms commits u ok))) refl)

module _ (u : List ℕ) (ok : commits_ok u ≡ true) (v : Volume) (form : volume_form v ≡ true) (r : Result (Maybe LsnRange) Refusal) (base head : Option ℕ) (e : changes_says r ≡ changes base head) where
  -- of the remote since sync.remote
  pub remote_changes : base ≡ remote_of v.sync → head ≡ latest_lsn (commits_in u) v.remote → changes_says r ≡ changed (remote_of v.sync) (latest_lsn (commits_in u) v.remote)
  remote_changes p q = changes_are r (remote_of v.sync) u v.remote (remote_form v.sync (sync_form_lem v form)) ok (e ∙ ap₂ (λ (a b : Option ℕ). changes a b) p q)

  -- of the local log since the watermark
  pub local_changes : base ≡ watermark_of v.sync → head ≡ latest_lsn (commits_in u) v.local → changes_says r ≡ changed (watermark_of v.sync) (latest_lsn (commits_in u) v.local)
  local_changes p q = changes_are r (watermark_of v.sync) u v.local (mark_form v.sync (sync_form_lem v form)) ok (e ∙ ap₂ (λ (a b : Option ℕ). changes a b) p q)

-- changes end at the head, which is not older than the base
up_to : (b h : Option ℕ) (r : ℕ × ℕ) → changed b h ≡ done (some r) → (h ≡ some r.1) × (not_older b r.1 ≡ true)
unfolding changed
up_to none none r e = absurd (missing refl (done_same e))
up_to none (some h) r e = (ap {B = Option ℕ} some (λ i. (option_same (done_same e) i).1), refl)
up_to (some b) none r e = refused_done e
up_to (some b) (some h) r e =
    cases (ltb b h)
    (λ q. let s : (b + 1, h) ≡ r = option_same (done_same (rw q at e)) in (ap {B = Option ℕ} some (λ i. (s i).1), rw (← s) (le-leb b h (omega (arith, ltb-true b h q)))))
    (λ q. absurd (missing refl (done_same (rw q at e))))

-- ---- what sync decides on a volume

module _ (cs : Table Commit) (v : Volume) (r : Result (Maybe LsnRange) Refusal) (e : changes_says r ≡ changed (remote_of v.sync) (latest_lsn cs v.remote)) where
  told : (a : Result (Maybe LsnRange) Refusal) → r ≡ a → (vs : Table Volume) → (changes_says a >>= sync_by vs cs v) ≡ sync_found vs cs v
  told a h vs = ap (λ (x : Answer (Option (ℕ × ℕ))). x >>= sync_by vs cs v) (ap changes_says (sym h) ∙ e)

  -- the remote's head is missing
  pub remote_refused : (n : Refusal) → r ≡ Err n → Pulls (λ vs. sync_found vs cs v) v (Err n)
  remote_refused n h = record { says = told (Err n) h; form = refl }

  -- the remote has no changes
  pub remote_same : r ≡ Ok None → Pulls (λ vs. sync_found vs cs v) v (Ok None)
  remote_same h = record { says = told (Ok None) h; form = refl }

  -- it has: then what the local log decides
  pub remote_moved : (x : LsnRange) → r ≡ Ok (Some x) → (p : Result (Maybe Lsn) Refusal) → Pulls (λ vs. sync_by vs cs v (some (1, x.end.0))) v p → Pulls (λ vs. sync_found vs cs v) v p
  remote_moved x h p q = record { says = λ vs. q.says vs ∙ told (Ok (Some x)) h vs; form = q.form }

-- the end of the remote's changes is an LSN to move to
pub remote_end : (u : List ℕ) → commits_ok u ≡ true → (v : Volume) (r : Result (Maybe LsnRange) Refusal) → changes_says r ≡ changed (remote_of v.sync) (latest_lsn (commits_in u) v.remote)
    → (x : LsnRange) → r ≡ Ok (Some x) → (lsn_form x.end.0 ≡ true) × (not_older (remote_of v.sync) x.end.0 ≡ true)
remote_end u ok v r e x h =
    let k = up_to (remote_of v.sync) (latest_lsn (commits_in u) v.remote) (x.start.0, x.end.0) (sym e ∙ ap changes_says h) in
    (ap (given lsn_form) (sym k.0) ∙ latest_form (commits_in u) v.remote (formed_forms commits u ok), k.1)

-- what is left of sync by the changes of the local log
abbrev local_rest : Table Volume → Volume → ℕ → Answer (Option (ℕ × ℕ)) → Answer (Table Volume)
local_rest vs v end a = a >>= (λ o. ask (is_none o) 8 >> (ask (not_older (remote_of v.sync) end) 17 >> done (store volume_key bytes (moved_volume v end) vs)))

module _ (cs : Table Commit) (v : Volume) (r : Result (Maybe LsnRange) Refusal) (e : changes_says r ≡ changed (watermark_of v.sync) (latest_lsn cs v.local)) (to : Lsn) where
  told_local : (a : Result (Maybe LsnRange) Refusal) → r ≡ a → (vs : Table Volume) → local_rest vs v to.0 (changes_says a) ≡ sync_by vs cs v (some (1, to.0))
  told_local a h vs = ap (local_rest vs v to.0) (ap changes_says (sym h) ∙ e)

  -- the local log's head is missing
  pub local_refused : (n : Refusal) → r ≡ Err n → Pulls (λ vs. sync_by vs cs v (some (1, to.0))) v (Err n)
  local_refused n h = record { says = told_local (Err n) h; form = refl }

  -- the local log has changes too
  pub local_moved : (x : LsnRange) → r ≡ Ok (Some x) → Pulls (λ vs. sync_by vs cs v (some (1, to.0))) v (Err Refusal.Diverged)
  local_moved x h = record { says = told_local (Ok (Some x)) h; form = refl }

  -- it has none
  pub local_same : r ≡ Ok None → lsn_form to.0 ≡ true → not_older (remote_of v.sync) to.0 ≡ true → Pulls (λ vs. sync_by vs cs v (some (1, to.0))) v (Ok (Some to))
  local_same h form newer = record {
    says = λ vs. ap (λ (b : Bool). ask b 17 >> done (store volume_key bytes (moved_volume v to.0) vs)) (sym newer) ∙ told_local (Ok None) h vs;
    form = form;
  }

-- ---- sync on lent tables

module _ (t u : List ℕ) (vid : Id) (ok : volumes_ok t ≡ true) (oku : commits_ok u ≡ true) where
  synced : Option Volume → Answer (Table Volume)
  synced o = need o 4 >>= (λ v. sync_found (volumes_in t) (commits_in u) v)

  sync_is : lent (volumes_ok t && commits_ok u) (sync (volumes_in t) (commits_in u) vid) ≡ synced (get_volume (volumes_in t) vid)
  unfolding sync synced
  sync_is =
      lent_yes (volumes_ok t && commits_ok u) (sync (volumes_in t) (commits_in u) vid) (and_both ok oku)
      ∙ ap (λ (b : Bool). ask b 20 >> synced (get_volume (volumes_in t) vid)) (formed t u vid ok oku)

  -- 4
  pub sync_nowhere : get_volume (volumes_in t) vid ≡ none → lent (volumes_ok t && commits_ok u) (sync (volumes_in t) (commits_in u) vid) ≡ refused 4
  unfolding synced
  sync_nowhere e = sync_is ∙ ap synced e

  -- what was decided on the volume that was found
  pub sync_decided : (x : CodeVolume) (p q : Result (Maybe Lsn) Refusal) → get_volume (volumes_in t) vid ≡ some (volume_says x) → Pulls (λ vs. sync_found vs (commits_in u) (volume_says x)) (volume_says x) p → p ≡ q
      → lent (volumes_ok t && commits_ok u) (sync (volumes_in t) (commits_in u) vid) ≡ pull_says (volumes_in t) (volume_says x) q
  unfolding synced
  sync_decided x p q e h same = sync_is ∙ ap synced e ∙ sym (h.says (volumes_in t)) ∙ ap (pull_says (volumes_in t) (volume_says x)) same

-- ---- the volume x that was found at place i, changed and stored there

module _ (t : List ℕ) (vid : Id) (ok : volumes_ok t ≡ true) (o : Result ℕ ℕ) (i : ℕ) (says : at_spot o (volumes_in t).rows ≡ get_volume (volumes_in t) vid) (hit : o ≡ Ok i)
    (x : CodeVolume) (read : map volume_laid (nth i (volumes_in t).rows) ≡ some x) where
  pub found_here : get_volume (volumes_in t) vid ≡ some (volume_says x)
  found_here =
      made_of volume_laid (nth i (volumes_in t).rows) x read (λ v e q.
      sym (here t vid ok o i says hit) ∙ e ∙ ap (λ (w : Volume). some w) (sym (says_laid v) ∙ ap volume_says q))

  pub form_here : volume_form (volume_says x) ≡ true
  form_here = found_form t vid ok (volume_says x) found_here

  -- a volume in form with the same identifier goes into its place
  pub store_ready : o ≡ spot 17 (0 ∷ vid) (recs 117 t) → (y : CodeVolume) → y.vid ≡ x.vid → volume_form (volume_says y) ≡ true
      → ((volumes_ok t ≡ true) × (volume_form (volume_says y) ≡ true)) × (spot 17 (0 ∷ y.vid) (recs 117 t) ≡ Ok i)
  store_ready place y same form = (
    (ok, form),
    ap (λ (z : List ℕ). spot 17 (0 ∷ z) (recs 117 t)) (same ∙ sym (found_vid t vid ok (volume_says x) found_here)) ∙ sym place ∙ hit,
  )

-- an answer that is the table as it was leaves the bytes
pub kept : (t : List ℕ) (a : Answer (Table Volume)) → AreBytes t → volumes_ok t ≡ true → a ≡ done (volumes_in t) → (0 ≡ code a) × (t ≡ after volume_bytes (λ w. w) t a)
kept t a bs ok e = stores volume_bytes t a (volumes_in t) t e (sym (laid_same volumes t bs ok))

-- what the code's volume says once its sync point was moved
pub moved_says : (x y : CodeVolume) (n : Lsn) (w : Maybe Lsn) → maybe_lsn_says w ≡ watermark_of (sync_says x.sync)
    → y ≡ record { vid = x.vid; local = x.local; remote = x.remote; sync = Some (record { remote = n; watermark = w }); pending = x.pending }
    → volume_says y ≡ moved_volume (volume_says x) n.0
moved_says x y n w mark made =
    ap volume_says made
    ∙ ap (λ (m : Option ℕ). record { vid = x.vid; local = x.local; remote = x.remote; sync = some (record { remote = n.0; watermark = m }); pending = pending_says x.pending }) mark

-- that volume is in form, where the LSN was decided on
pub moved_ready : (x y : CodeVolume) (n : Lsn) (p : Result (Maybe Lsn) Refusal) → volume_says y ≡ moved_volume (volume_says x) n.0 → volume_form (volume_says x) ≡ true → p ≡ Ok (Some n) → pull_form p ≡ true → volume_form (volume_says y) ≡ true
moved_ready x y n p says form same good = ap volume_form says ∙ moved_form (volume_says x) n.0 form (sym (ap pull_form same) ∙ good)

-- ---- prepare

-- the volume with the pending commit that was made
pub pushes : (x y : CodeVolume) (p q : PendingCommit) → y ≡ record { vid = x.vid; local = x.local; remote = x.remote; sync = x.sync; pending = Some p } → p ≡ q
    → y ≡ record { vid = x.vid; local = x.local; remote = x.remote; sync = x.sync; pending = Some q }
pushes x y p q e f = e ∙ ap (λ (z : PendingCommit). record { vid = x.vid; local = x.local; remote = x.remote; sync = x.sync; pending = Some z }) f

-- std's test of what is pending is the rule's
pub none_says : (q : Maybe PendingCommit) → std.is_none q ≡ is_none (pending_says q)
none_says None = refl
none_says (Some p) = refl

-- no LSN is before 0, and the one before n is n - 1
pub not_next : (m n : ℕ) → n ≡ 0 → eqb (m + 1) n ≡ false
not_next m n e = ne_eqb (m + 1) n (λ z. omega arith)

pub next_is : (m n : ℕ) → (n ≡ 0 → ⊥) → eqb m (n - 1) ≡ eqb (m + 1) n
next_is m n h =
    cases (eqb m (n - 1)) (λ q. q ∙ sym (eq-eqb (m + 1) n (omega (arith, eqb-true m (n - 1) q)))) (λ q. q ∙ sym (ne_eqb (m + 1) n (λ z. eqb-false m (n - 1) q (omega arith))))

-- prepare on the volume that was found
abbrev prepare_found : Table Volume → Table Commit → Pending → Volume → Answer (Table Volume)
prepare_found vs cs p v =
    ask (is_none v.pending) 9
    >> (ask (below (watermark_of v.sync) p.local) 11
    >> (ask (is_before (latest_lsn cs v.remote) p.commit) 12
    >> (ask (not (is_zero p.hash)) 13 >> done (store volume_key bytes (with_pending v (some p)) vs))))

-- prepare past 20
abbrev prepare_rest : Table Volume → Table Commit → Pending → Bool → Option Volume → Answer (Table Volume)
prepare_rest vs cs p lsns o = ask lsns 1 >> (need o 4 >>= (λ v. prepare_found vs cs p v))

module _ (t u : List ℕ) (vid : Id) (p : Pending) (ok : volumes_ok t ≡ true) (oku : commits_ok u ≡ true) where
  prepare_is : lent (volumes_ok t && commits_ok u) (prepare (volumes_in t) (commits_in u) vid p)
      ≡ prepare_rest (volumes_in t) (commits_in u) p (counts p.local && counts p.commit) (get_volume (volumes_in t) vid)
  unfolding prepare
  prepare_is =
      lent_yes (volumes_ok t && commits_ok u) (prepare (volumes_in t) (commits_in u) vid p) (and_both ok oku)
      ∙ ap (λ (b : Bool). ask b 20 >> prepare_rest (volumes_in t) (commits_in u) p (counts p.local && counts p.commit) (get_volume (volumes_in t) vid)) (formed t u vid ok oku)

  -- 1
  pub prepare_zero : (counts p.local && counts p.commit) ≡ false → lent (volumes_ok t && commits_ok u) (prepare (volumes_in t) (commits_in u) vid p) ≡ refused 1
  prepare_zero e = prepare_is ∙ ap (λ (b : Bool). prepare_rest (volumes_in t) (commits_in u) p b (get_volume (volumes_in t) vid)) e

  module _ (lsns : (counts p.local && counts p.commit) ≡ true) where
    -- 4
    pub prepare_nowhere : get_volume (volumes_in t) vid ≡ none → lent (volumes_ok t && commits_ok u) (prepare (volumes_in t) (commits_in u) vid p) ≡ refused 4
    prepare_nowhere e = prepare_is ∙ ap₂ (λ (b : Bool) (o : Option Volume). prepare_rest (volumes_in t) (commits_in u) p b o) lsns e

    module _ (v : Volume) (found : get_volume (volumes_in t) vid ≡ some v) where
      prepare_at : lent (volumes_ok t && commits_ok u) (prepare (volumes_in t) (commits_in u) vid p) ≡ prepare_found (volumes_in t) (commits_in u) p v
      prepare_at = prepare_is ∙ ap₂ (λ (b : Bool) (o : Option Volume). prepare_rest (volumes_in t) (commits_in u) p b o) lsns found

      -- 9
      pub prepare_pending : is_none v.pending ≡ false → lent (volumes_ok t && commits_ok u) (prepare (volumes_in t) (commits_in u) vid p) ≡ refused 9
      prepare_pending e = prepare_at ∙ rw e

      module _ (free : is_none v.pending ≡ true) where
        -- 11
        pub prepare_pushed : below (watermark_of v.sync) p.local ≡ false → lent (volumes_ok t && commits_ok u) (prepare (volumes_in t) (commits_in u) vid p) ≡ refused 11
        prepare_pushed e = prepare_at ∙ rw (free, e)

        module _ (new : below (watermark_of v.sync) p.local ≡ true) where
          -- 12
          pub prepare_apart : is_before (latest_lsn (commits_in u) v.remote) p.commit ≡ false → lent (volumes_ok t && commits_ok u) (prepare (volumes_in t) (commits_in u) vid p) ≡ refused 12
          prepare_apart e = prepare_at ∙ rw (free, new, e)

          module _ (next : is_before (latest_lsn (commits_in u) v.remote) p.commit ≡ true) where
            -- 13
            pub prepare_zero_hash : is_zero p.hash ≡ true → lent (volumes_ok t && commits_ok u) (prepare (volumes_in t) (commits_in u) vid p) ≡ refused 13
            prepare_zero_hash e = prepare_at ∙ rw (free, new, next, e)

            pub prepare_done : is_zero p.hash ≡ false
                → lent (volumes_ok t && commits_ok u) (prepare (volumes_in t) (commits_in u) vid p) ≡ done (store volume_key bytes (with_pending v (some p)) (volumes_in t))
            prepare_done e = prepare_at ∙ rw (free, new, next, e)

-- ---- the pending commit that is stored

lsn_good : (n : ℕ) → counts n ≡ true → n < 2 ^ 64 → lsn_form n ≡ true
unfolding lsn_form last_lsn
lsn_good n c h = and_both c (le-leb n (2 ^ 64 - 1) (omega arith))

pub pending_good : (local commit : ℕ) (hash : List ℕ) → (counts local && counts commit) ≡ true → local < 2 ^ 64 → commit < 2 ^ 64 → length hash ≡ 32 → AreBytes hash
    → pending_form (record { local = local; commit = commit; hash = hash }) ≡ true
unfolding pending_form bytes_form
pending_good local commit hash c a b l bs =
    and_both (and_both (lsn_good local (and_fst (counts local) (counts commit) c) a) (lsn_good commit (and_snd (counts local) (counts commit) c) b)) (and_both (eq-eqb (length hash) 32 l) (all_bytes hash bs))

-- with it the volume is in form still
pub prepared_form : (v : Volume) (p : Pending) → volume_form v ≡ true → pending_form p ≡ true → volume_form (with_pending v (some p)) ≡ true
unfolding volume_form
prepared_form v p f g =
    and_both (and_fst (id_form v.vid && id_form v.local && id_form v.remote && given sync_form v.sync) (given pending_form v.pending) f) g
