-- Sync: its 8 and its 16 as equivalences, 17 never, and the house rule. Changes of a side are there exactly if its head is past its base; 17 asks that
-- the head is not below the base, which changes already say; and where nothing local has moved, no local commit is above the watermark.
use Rattle.std.proofs.Common.{◌≡◌, ℕ, ◌+◌, ◌≤◌, true, false, ◌&&◌, ltb, ◌⊎◌, ◌↔◌, sym, refl, ap, ◌∙◌, inl, inr, ⊎_elim, arith, ltb-true, lt-ltb, le-leb}
use mathlib.Core.Option.{Option, none, some, map}
use Rattle.basics.proofs.OrderLaws.{log_lsn_lawful}
use Rattle.basics.specs.Answers.{Answer, refused, done, ask, ◌>>=◌, ◌>>◌}
use Rattle.rules.specs.Lists.{is_none}
use Rattle.basics.specs.Orders.{bytes, log_lsn}
use Rattle.rules.specs.Records.{Id, Commit, Volume, commit_key, volume_key}
use Rattle.rules.specs.Forms.{commit_form}
use Rattle.rules.specs.Tables.{Table, store, volumes_formed, commits_formed, get_volume, latest, latest_lsn}
use Rattle.rules.specs.Snapshots.{watermark_of, remote_of, below}
use Rattle.rules.specs.Sync.{changed, moved_volume, not_older, sync_by, sync}
use Rattle.rules.specs.Promises.{Moved, Volumed, BothMoved, Headless, NoHead, Unsent}
use Rattle.rules.proofs.TableLaws.{none_of, cases, options, clash, missing, option_same, and_fst, and_snd, formed_parts}
use Rattle.rules.proofs.AnswerLaws.{refused_same, done_same, refused_done, ask_past, need_past, asked, needed, gotten}
use Rattle.rules.proofs.Lookups.{latest_some, latest_none}

-- ---- changes

-- what each answer of changes says of its side
changed_some : (b h : Option ℕ) (r : ℕ × ℕ) → changed b h ≡ done (some r) → (h ≡ some r.1) × (below b r.1 ≡ true)
unfolding changed
changed_some none none r e = absurd (missing refl (done_same e))
changed_some none (some h) r e = (ap {B = Option ℕ} some (λ i. (option_same (done_same e) i).1), refl)
changed_some (some b) none r e = refused_done e
changed_some (some b) (some h) r e =
    cases (ltb b h) (λ q. let s : (b + 1, h) ≡ r = option_same (done_same (rw q at e)) in (ap {B = Option ℕ} some (λ i. (s i).1), rw (← s) q)) (λ q. absurd (missing refl (done_same (rw q at e))))

changed_none : (b h : Option ℕ) (n : ℕ) → changed b h ≡ done none → h ≡ some n → below b n ≡ false
unfolding changed
changed_none none none n e k = absurd (missing refl k)
changed_none none (some h) n e k = absurd (missing {o = some (1, h)} (done_same e) refl)
changed_none (some b) none n e k = refused_done e
changed_none (some b) (some h) n e k =
    cases (ltb b h) (λ q. absurd (missing {o = some (b + 1, h)} (done_same (rw q at e)) refl)) (λ q. rw (← option_same k) q)

changed_16 : (b h : Option ℕ) {n : ℕ} → changed b h ≡ refused n → (n ≡ 16) × Headless b h
unfolding changed
changed_16 none none e = refused_done (sym e)
changed_16 none (some h) e = refused_done (sym e)
changed_16 (some b) none e = (sym (refused_same e), record { bottom = b; is = refl; lost = refl })
changed_16 (some b) (some h) e = refused_done (sym e)

headless_16 : (b h : Option ℕ) → Headless b h → changed b h ≡ refused 16
unfolding changed
headless_16 b h k = rw (k.is, k.lost)

-- a side that has moved has changes, up to its head
moved_changed : (b h : Option ℕ) → Moved b h → (r : ℕ × ℕ) × (changed b h ≡ done (some r))
unfolding changed
moved_changed none h m = ((1, m.top), rw m.is)
moved_changed (some w) h m = ((w + 1, m.top), rw (m.is, m.past))

changed_moved : (b h : Option ℕ) (r : ℕ × ℕ) → changed b h ≡ done (some r) → Moved b h
changed_moved b h r e = let k = changed_some b h r e in record { top = r.1; is = k.0; past = k.1 }

-- a chain past changes: refused by 16 for want of a head, or on with what they are
past_changed : {A P : Type 0} (b h : Option ℕ) (k : Option (ℕ × ℕ) → Answer A) {n : ℕ} → changed b h >>= k ≡ refused n
    → (n ≡ 16 → Headless b h → P) → ((o : Option (ℕ × ℕ)) → changed b h ≡ done o → k o ≡ refused n → P) → P
past_changed {P} b h k {n} e f g = go (changed b h) refl e
  where
    go : (a : Answer (Option (ℕ × ℕ))) → changed b h ≡ a → a >>= k ≡ refused n → P
    go (refused m) q z = let s = changed_16 b h q in f (sym (refused_same z) ∙ s.0) s.1
    go (done o) q z = g o q z

-- ---- 17 never

not_older_lem : (b h : Option ℕ) (r : ℕ × ℕ) → changed b h ≡ done (some r) → not_older b r.1 ≡ true
not_older_lem none h r e = refl
not_older_lem (some b) h r e = le-leb b r.1 (omega (arith, ltb-true b r.1 (changed_some (some b) h r e).1))

module _ (vs : Table Volume) (cs : Table Commit) where
  -- what a refusal of the part after the remote's changes says
  sync_by_refused : (v : Volume) (o : Option (ℕ × ℕ)) {n : ℕ} → changed (remote_of v.sync) (latest_lsn cs v.remote) ≡ done o → sync_by vs cs v o ≡ refused n
      → Moved (remote_of v.sync) (latest_lsn cs v.remote)
      × (((n ≡ 16) × Headless (watermark_of v.sync) (latest_lsn cs v.local)) ⊎ ((n ≡ 8) × Moved (watermark_of v.sync) (latest_lsn cs v.local)))
  sync_by_refused v none q e = refused_done (sym e)
  sync_by_refused v (some r) {n} q e = (
    changed_moved (remote_of v.sync) (latest_lsn cs v.remote) r q,
    past_changed (watermark_of v.sync) (latest_lsn cs v.local) _ e (λ s h. inl (s, h)) (λ o k z. inr (local o k z)),
  )
    where
      local : (o : Option (ℕ × ℕ)) → changed (watermark_of v.sync) (latest_lsn cs v.local) ≡ done o
          → ask (is_none o) 8 >> (ask (not_older (remote_of v.sync) r.1) 17 >> done (store volume_key bytes (moved_volume v r.1) vs)) ≡ refused n
          → (n ≡ 8) × Moved (watermark_of v.sync) (latest_lsn cs v.local)
      local none k z = refused_done (sym (rw (not_older_lem (remote_of v.sync) (latest_lsn cs v.remote) r q) at z))
      local (some x) k z = (sym (refused_same z), changed_moved (watermark_of v.sync) (latest_lsn cs v.local) x k)

  -- a refusal of sync past 20 and 4
  pub sync_past : {P : Type 0} (vid : Id) {n : ℕ} → sync vs cs vid ≡ refused n → (20 ≡ n → ⊥) → (4 ≡ n → ⊥)
      → ((a : Volumed vs cs vid) → ((n ≡ 16) × NoHead vs cs vid) ⊎ ((n ≡ 8) × BothMoved vs cs vid) → P) → P
  unfolding sync
  sync_past vid {n} e not20 not4 k =
      let a = ask_past (volumes_formed vs && commits_formed cs) 20 _ not20 e in
      let (v, is, b) = need_past (get_volume vs vid) 4 _ not4 a.1 in
      let at : Volumed vs cs vid = record { volumes = and_fst (volumes_formed vs) (commits_formed cs) a.0; commits = and_snd (volumes_formed vs) (commits_formed cs) a.0; volume = v; is = is } in
      k at (past_changed (remote_of v.sync) (latest_lsn cs v.remote) _ b (λ s h. inl (s, record { at_volume = at; side = inl h }))
      (λ o q z. let h = sync_by_refused v o q z in
      ⊎_elim (λ x. inl (x.0, record { at_volume = at; side = inr (h.0, x.1) })) (λ x. inr (x.0, record { at_volume = at; remote = h.0; local = x.1 })) h.1))

  -- T4: no input gives 17
  pub sync_never_17 : (vid : Id) → sync vs cs vid ≡ refused 17 → ⊥
  sync_never_17 vid e =
      sync_past vid e (λ z. omega arith) (λ z. omega arith) (λ a s. ⊎_elim (λ x. let z = x.0 in omega arith) (λ x. let z = x.0 in omega arith) s)

  -- T4: 8 exactly if both sides have moved
  pub sync_8 : (vid : Id) → (sync vs cs vid ≡ refused 8) ↔ BothMoved vs cs vid
  unfolding sync
  sync_8 vid = (
    λ e. sync_past vid e (λ z. omega arith) (λ z. omega arith) (λ a s. ⊎_elim (λ x. let z = x.0 in absurd (omega arith)) (λ x. x.1) s),
    λ h. let a = h.at_volume in
        let there = moved_changed (remote_of a.volume.sync) (latest_lsn cs a.volume.remote) h.remote in
        let here = moved_changed (watermark_of a.volume.sync) (latest_lsn cs a.volume.local) h.local in
        rw (a.volumes, a.commits, a.is, there.1, here.1),
  )

  -- T4: 16 exactly if a base has no head
  pub sync_16 : (vid : Id) → (sync vs cs vid ≡ refused 16) ↔ NoHead vs cs vid
  unfolding sync
  sync_16 vid = (
    λ e. sync_past vid e (λ z. omega arith) (λ z. omega arith) (λ a s. ⊎_elim (λ x. x.1) (λ x. let z = x.0 in absurd (omega arith)) s),
    λ h. let a = h.at_volume in
        ⊎_elim (λ s. rw (a.volumes, a.commits, a.is, headless_16 (remote_of a.volume.sync) (latest_lsn cs a.volume.remote) s))
        (λ s. let there = moved_changed (remote_of a.volume.sync) (latest_lsn cs a.volume.remote) s.0 in
        rw (a.volumes, a.commits, a.is, there.1, headless_16 (watermark_of a.volume.sync) (latest_lsn cs a.volume.local) s.1)) h.side,
  )

  -- ---- the house rule

  -- a commit of the local log that was not sent: then the local side has moved
  unsent_moved : (v : Volume) (c : Commit) → commits_formed cs ≡ true → Unsent cs v c → Moved (watermark_of v.sync) (latest_lsn cs v.local)
  unsent_moved v c f u =
      options (latest cs v.local) (λ n. absurd (latest_none cs v.local n c u.stored u.local))
      (λ d n. let k = latest_some cs v.local d (formed_parts commit_key log_lsn log_lsn_lawful commit_form cs f).up n in
      record { top = d.lsn; is = ap (map (λ (x : Commit). x.lsn)) n; past = further (watermark_of v.sync) c.lsn d.lsn (k.highest c u.stored u.local) u.above })
    where
      further : (w : Option ℕ) (m n : ℕ) → m ≤ n → below w m ≡ true → below w n ≡ true
      further none m n h e = refl
      further (some w) m n h e = lt-ltb w n (omega (arith, ltb-true w m e))

  -- T6: sync moves the desk's list in only while the tester holds nothing unsent
  pub house_rule : (vs' : Table Volume) (vid : Id) (v : Volume) → sync vs cs vid ≡ done vs' → get_volume vs vid ≡ some v → (vs ≡ vs') ⊎ ((c : Commit) → Unsent cs v c → ⊥)
  unfolding sync
  house_rule vs' vid v e is =
      asked (volumes_formed vs && commits_formed cs) 20 _ e λ f e1.
      needed (get_volume vs vid) 4 _ e1 λ w this e2.
      gotten (changed (remote_of w.sync) (latest_lsn cs w.remote)) _ e2 λ o q e3.
      let same : w ≡ v = option_same (sym this ∙ is) in
      by o (and_snd (volumes_formed vs) (commits_formed cs) f) (rw same at e3)
    where
      by : (o : Option (ℕ × ℕ)) → commits_formed cs ≡ true → sync_by vs cs v o ≡ done vs' → (vs ≡ vs') ⊎ ((c : Commit) → Unsent cs v c → ⊥)
      by none f z = inl (done_same z)
      by (some r) f z =
          gotten (changed (watermark_of v.sync) (latest_lsn cs v.local)) _ z λ here k z1.
          asked (is_none here) 8 _ z1 λ even z2.
          inr (λ c u. let m = unsent_moved v c f u in clash m.past (changed_none (watermark_of v.sync) (latest_lsn cs v.local) m.top (k ∙ ap {B = Answer (Option (ℕ × ℕ))} done (none_of here even)) m.is))

  -- T6: when both have moved it is 8
  pub both_moved_8 : (vid : Id) (a : Volumed vs cs vid) (c : Commit) → Moved (remote_of a.volume.sync) (latest_lsn cs a.volume.remote) → Unsent cs a.volume c → sync vs cs vid ≡ refused 8
  both_moved_8 vid a c m u = (sync_8 vid).1 (record { at_volume = a; remote = m; local = unsent_moved a.volume c a.commits u })
