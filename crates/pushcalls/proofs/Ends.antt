-- The ends of the calls: for each way out of the code, the rule's answer. Checks go in the rule's order, so each that fails is the number; where none fails, the plan hands
-- on a volume that stands at a place, its pending commit, and a commit with room. A volume that is pushed or loses its pending commit keeps its identifier, so it goes into
-- its own place and needs no room.
use Rattle.std.proofs.Common.{◌≡◌, ℕ, ◌+◌, ◌*◌, ◌<◌, Bool, true, false, cond, ◌&&◌, eqb, List, ◌∷◌, length, sym, refl, ap, ◌∙◌, subst, ap₂, arith, eq-eqb, ne_eqb, eqb-true, Result, Ok, Some, None}
use mathlib.Core.Option.{Option, none, some, map}
use Rattle.octets.specs.Bytes.{part}
use Rattle.octets.proofs.Places.{part_whole, length_part}
use Rattle.basics.specs.Answers.{Answer, refused, done, code, ask, need, ◌>>◌, ◌>>=◌}
use Rattle.basics.proofs.AskLaws.{refuses, stops}
use Rattle.basics.specs.Hashes.{zero_hash}
use Rattle.basics.specs.Orders.{bytes}
use Rattle.basics.proofs.OrderLaws.{bytes_lawful}
use Rattle.rules.specs.Records.{Id, Commit, Pending, Volume, volume_key}
use Rattle.rules.specs.Forms.{commit_form, volume_form}
use Rattle.rules.specs.Tables.{Table, fits, store, get, get_volume, get_commit, volumes_formed}
use Rattle.rules.specs.Arguments.{commit_lsns, commit_lists}
use Rattle.rules.specs.Write.{Logs, write, logs_formed, logs_fit}
use Rattle.rules.specs.Push.{with_pending, is_hash, same_there, pushed_volume, push, success, leaves, recover_by, recover_pending, recover_volume, recover}
use Rattle.rules.proofs.TableLaws.{cases, options, option_same, and_fst, and_snd, and_both, formed_parts}
use Rattle.rules.proofs.Write.{form_lists}
use Rattle.rules.proofs.Rooms.{fits_replace}
use Rattle.table.specs.Records.{spot}
use Rattle.table.specs.Table.{count_of, recs}
use Rattle.table.proofs.Ends.{at_in}
use Rattle.layout.specs.Codecs.{in_form}
use Rattle.layout.specs.Records.{volume_bytes, commit_bytes}
use Rattle.layout.specs.Tables.{volumes_in, volumes_ok, commits_in, commits_ok, checkpoints_ok, index_ok, laid_over}
use Rattle.layout.proofs.HoldLaws.{held_form}
use Rattle.rows.specs.Lookups.{nth, at_spot}
use Rattle.rows.proofs.Rows.{formed_rules}
use Rattle.rows.proofs.Checks.{row_in, row_form_lem, row_spelled}
use Rattle.rows.proofs.Tables.{volumes, commits}
use Rattle.volume.specs.Volumes.{volume_says, pending_says}
use Rattle.basics.specs.declared.lsn.Lsn.{Lsn}
use Rattle.volume.specs.declared.volume.PendingCommit.{PendingCommit}
use Rattle.volume.specs.declared.volume.Volume.{Volume as CodeVolume}
use Rattle.volumebytes.specs.Laid.{volume_laid}
use Rattle.volumebytes.proofs.RoundLaws.{says_laid}
use Rattle.volumecalls.proofs.Ends.{here, found_vid}
use Rattle.synccalls.proofs.Ends.{found_here, form_here}
use Rattle.writecalls.specs.Written.{IsCommit, commit_in, logs_in, logs_ok}
use Rattle.writecalls.proofs.Formed.{each_ok, logs_formed_lem}
use Rattle.writecalls.proofs.Rows.{is_form, whole}
use Rattle.pushcalls.specs.Pushes.{push_ok, commit_asked, success_in, success_found, Stands, PushedAt, DroppedAt, Planned, Recovers, RecoversFound}
use Rattle.pushcalls.specs.declared.Plan.TheVariants as Plan
use Rattle.pushcalls.specs.declared.Recovery.{Recovery}
use Rattle.pushcalls.specs.declared.Recovery.TheVariants as Recovery

-- ---- 20: the four tables, one after the other

module _ (t cs ks es : List ℕ) where
  module _ (ok : push_ok t cs ks es ≡ true) where
    pub volumes_ok_lem : volumes_ok t ≡ true
    unfolding push_ok
    volumes_ok_lem = and_fst (volumes_ok t) (logs_ok cs ks es) ok

    all_logs : logs_ok cs ks es ≡ true
    unfolding push_ok
    all_logs = and_snd (volumes_ok t) (logs_ok cs ks es) ok

    pub logs_ok_lem : (commits_ok cs ≡ true) × (checkpoints_ok ks ≡ true) × (index_ok es ≡ true)
    logs_ok_lem = each_ok cs ks es all_logs

    formed : (volumes_formed (volumes_in t) && logs_formed (logs_in cs ks es)) ≡ true
    formed = and_both (formed_rules volumes t volumes_ok_lem) (logs_formed_lem cs ks es all_logs)

-- ---- a commit that is given as bytes

module _ (b : List ℕ) where
  abbrev asks : Bool → Bool → Bool → Answer (Unit {0})
  asks x y z = ask x 3 >> (ask y 1 >> ask z 3)

  -- 3, of another number of bytes
  pub wrong_size : (length b ≡ 722 → ⊥) → 3 ≡ code (commit_asked b)
  wrong_size h = ap (λ (x : Bool). code (asks x (commit_lsns (commit_in b)) (in_form commit_bytes commit_form b))) (sym (ne_eqb (length b) 722 h))

  module _ (n : length b ≡ 722) where
    all_of : part 0 722 b ≡ b
    all_of = part_whole 722 b n

    by_lsns : (x : Bool) → commit_lsns (commit_in (part 0 722 b)) ≡ x → commit_asked b ≡ asks true x (in_form commit_bytes commit_form b)
    by_lsns x e =
        ap₂ (λ (s l : Bool). asks s l (in_form commit_bytes commit_form b)) (eq-eqb (length b) 722 n) (ap (λ (z : List ℕ). commit_lsns (commit_in z)) (sym all_of) ∙ e)

    -- 1
    pub zero_lsn : commit_lsns (commit_in (part 0 722 b)) ≡ false → 1 ≡ code (commit_asked b)
    zero_lsn e = sym (ap code (by_lsns false e))

    -- 3, not in form
    pub by_form : commit_lsns (commit_in (part 0 722 b)) ≡ true → (x : Bool) → in_form commit_bytes commit_form (part 0 722 b) ≡ x → code (ask x 3) ≡ code (commit_asked b)
    by_form l x e = sym (ap code (by_lsns true l ∙ ap (λ (f : Bool). asks true true f) (ap (in_form commit_bytes commit_form) (sym all_of) ∙ e)))

  -- under 0 it is a commit in form
  pub commit_good : code (commit_asked b) ≡ 0 → IsCommit b × (commit_lsns (commit_in b) ≡ true)
  commit_good h =
      cases (eqb (length b) 722)
      (λ x. cases (commit_lsns (commit_in b))
      (λ y. cases (in_form commit_bytes commit_form b) (λ z. ((eqb-true (length b) 722 x, z), y)) (λ z. let q : ◌≡◌ {A = ℕ} 3 0 = rw (x, y, z) at h in absurd (omega arith)))
      (λ y. let q : ◌≡◌ {A = ℕ} 1 0 = rw (x, y) at h in absurd (omega arith)))
      (λ x. let q : ◌≡◌ {A = ℕ} 3 0 = rw x at h in absurd (omega arith))

-- ---- success up to its volume

module _ (t cs ks es : List ℕ) (ok : push_ok t cs ks es ≡ true) (vid : Id) (b : List ℕ) where
  abbrev answer : Answer (Table Volume × Logs)
  answer = success_in (volumes_in t) (logs_in cs ks es) vid b

  -- 1, 3
  pub bad_commit : (n : ℕ) → n ≡ code (commit_asked b) → (n ≡ 0 → ⊥) → answer ≡ refused n
  unfolding success_in
  bad_commit n e z = stops (commit_asked b) (success (volumes_in t) (logs_in cs ks es) vid (commit_in b)) n e z

  module _ (good : code (commit_asked b) ≡ 0) where
    abbrev rest : Bool → Bool → Bool → Option Volume → Answer (Table Volume × Logs)
    rest x y z o = ask x 20 >> (ask y 1 >> (ask z 3 >> (need o 4 >>= (λ v. success_found (volumes_in t) (logs_in cs ks es) v (commit_in b)))))

    rule_is : success (volumes_in t) (logs_in cs ks es) vid (commit_in b)
        ≡ rest (volumes_formed (volumes_in t) && logs_formed (logs_in cs ks es)) (commit_lsns (commit_in b)) (commit_lists (commit_in b)) (get_volume (volumes_in t) vid)
    unfolding success success_found
    rule_is = refl

    past : (o : Option Volume) → get_volume (volumes_in t) vid ≡ o → answer ≡ (need o 4 >>= (λ v. success_found (volumes_in t) (logs_in cs ks es) v (commit_in b)))
    unfolding success_in
    past o e =
        let q = commit_good b good in
        rw (eq-eqb (length b) 722 q.0.0, q.1, q.0.1)
        (rule_is
        ∙ ap (λ (x : Bool). rest x (commit_lsns (commit_in b)) (commit_lists (commit_in b)) (get_volume (volumes_in t) vid)) (formed t cs ks es ok)
        ∙ ap₂ (λ (y z : Bool). rest true y z (get_volume (volumes_in t) vid)) q.1 (form_lists (commit_in b) (is_form b q.0))
        ∙ ap (rest true true true) e)

    -- 4
    pub success_nowhere : get_volume (volumes_in t) vid ≡ none → answer ≡ refused 4
    success_nowhere e = past none e

    -- else what the volume decides
    success_at : (v : Volume) → get_volume (volumes_in t) vid ≡ some v → answer ≡ success_found (volumes_in t) (logs_in cs ks es) v (commit_in b)
    success_at v e = past (some v) e

-- ---- success on the volume that was found

module _ (vs : Table Volume) (g : Logs) (v : Volume) (c : Commit) where
  -- 10
  pub none_pending : v.pending ≡ none → 10 ≡ code (success_found vs g v c)
  unfolding success_found
  none_pending e = sym (rw e)

  module _ (p : Pending) (has : v.pending ≡ some p) where
    abbrev pushes : Bool → Bool → Bool → Answer (Table Volume × Logs)
    pushes x y z = ask x 14 >> (ask y 15 >> (ask z 19 >> done (store volume_key bytes (pushed_volume v p) vs, write g c)))

    pushes_are : success_found vs g v c
        ≡ pushes (eqb c.lsn p.commit && is_hash c.hash p.hash) (same_there (get_commit g.commits c.log c.lsn) p.hash) (fits (store volume_key bytes (pushed_volume v p) vs) && logs_fit (write g c))
    unfolding success_found
    pushes_are = rw has

    -- 14
    pub not_pending : (eqb c.lsn p.commit && is_hash c.hash p.hash) ≡ false → 14 ≡ code (success_found vs g v c)
    not_pending e = sym (ap code pushes_are ∙ rw e)

    module _ (is : (eqb c.lsn p.commit && is_hash c.hash p.hash) ≡ true) where
      -- 15
      pub other_there : same_there (get_commit g.commits c.log c.lsn) p.hash ≡ false → 15 ≡ code (success_found vs g v c)
      other_there e = sym (ap code pushes_are ∙ rw (is, e))

      module _ (same : same_there (get_commit g.commits c.log c.lsn) p.hash ≡ true) (fit : fits (store volume_key bytes (pushed_volume v p) vs) ≡ true) where
        by_room : (r : Bool) → logs_fit (write g c) ≡ r → success_found vs g v c ≡ (ask r 19 >> done (store volume_key bytes (pushed_volume v p) vs, write g c))
        by_room r e = pushes_are ∙ rw (is, same, fit, e)

        -- 19
        pub full : logs_fit (write g c) ≡ false → 19 ≡ code (success_found vs g v c)
        full e = sym (ap code (by_room false e))

        -- 0
        pub goes : logs_fit (write g c) ≡ true → 0 ≡ code (success_found vs g v c)
        goes e = sym (ap code (by_room true e))

  -- every check has passed
  pub record Passed : Type 0 where
    pub pending : Pending
    pub has : v.pending ≡ some pending
    pub room : logs_fit (write g c) ≡ true
    pub answers : success_found vs g v c ≡ done (store volume_key bytes (pushed_volume v pending) vs, write g c)

  pub passed : ((p : Pending) → fits (store volume_key bytes (pushed_volume v p) vs) ≡ true) → code (success_found vs g v c) ≡ 0 → Passed
  passed fit h =
      options v.pending
      (λ e. not_0 10 (none_pending e) (omega arith))
      (λ p e.
      cases (eqb c.lsn p.commit && is_hash c.hash p.hash) (λ x.
      cases (same_there (get_commit g.commits c.log c.lsn) p.hash) (λ y.
      cases (logs_fit (write g c)) (λ z. record { pending = p; has = e; room = z; answers = by_room p e x y (fit p) true z })
      (λ z. not_0 19 (full p e x y (fit p) z) (omega arith)))
      (λ y. not_0 15 (other_there p e x y) (omega arith)))
      (λ x. not_0 14 (not_pending p e x) (omega arith)))
    where
      not_0 : (k : ℕ) → k ≡ code (success_found vs g v c) → (k ≡ 0 → ⊥) → Passed
      not_0 k e z = absurd (z (e ∙ h))

-- ---- the volume that was found at a place

module _ (t : List ℕ) (vid : Id) (ok : volumes_ok t ≡ true) (o : Result ℕ ℕ) (i : ℕ) (place : o ≡ spot 17 (0 ∷ vid) (recs 117 t)) (says : at_spot o (volumes_in t).rows ≡ get_volume (volumes_in t) vid)
    (hit : o ≡ Ok i) (x : CodeVolume) (read : map volume_laid (nth i (volumes_in t).rows) ≡ some x) where
  pub is_found : get_volume (volumes_in t) vid ≡ some (volume_says x)
  is_found = found_here t vid ok o i says hit x read

  pub stands : Stands t i (volume_says x)
  stands = record {
    there = here t vid ok o i says hit ∙ is_found;
    found = ap (λ (a : Id). get_volume (volumes_in t) a) (sym (found_vid t vid ok (volume_says x) is_found)) ∙ is_found;
    place = ap (λ (z : List ℕ). spot 17 (0 ∷ z) (recs 117 t)) (sym (found_vid t vid ok (volume_says x) is_found)) ∙ sym place ∙ hit;
    form = form_here t vid ok o i says hit x read;
  }

module _ (t : List ℕ) (i : ℕ) where
  -- there is one volume at a place, with one pending commit
  pushed_at : (P : Table Volume → Type 0) (v : Volume) (p : Pending) → nth i (volumes_in t).rows ≡ some v → v.pending ≡ some p
      → P (store volume_key bytes (pushed_volume v p) (volumes_in t)) → PushedAt t i P
  pushed_at P v p e h q w r e' h' =
      let s : v ≡ w = option_same (sym e ∙ e') in
      let z : p ≡ r = option_same (sym h ∙ ap (λ (a : Volume). a.pending) s ∙ h') in
      subst (λ (a : Volume). P (store volume_key bytes a (volumes_in t))) (ap₂ pushed_volume s z) q

  dropped_at : (P : Table Volume → Type 0) (v : Volume) → nth i (volumes_in t).rows ≡ some v → P (store volume_key bytes (with_pending v none) (volumes_in t)) → DroppedAt t i P
  dropped_at P v e q w e' = subst (λ (a : Volume). P (store volume_key bytes (with_pending a none) (volumes_in t))) (option_same (sym e ∙ e')) q

  -- the bytes that u is, where w is the volume that was stored
  pub pushed_bytes : (u : List ℕ) (v w : Volume) (p : Pending) → nth i (volumes_in t).rows ≡ some v → v.pending ≡ some p → w ≡ pushed_volume v p
      → u ≡ laid_over volume_bytes (store volume_key bytes w (volumes_in t)) t → PushedAt t i (λ vs. u ≡ laid_over volume_bytes vs t)
  pushed_bytes u v w p e h q r = pushed_at (λ vs. u ≡ laid_over volume_bytes vs t) v p e h (r ∙ ap (λ (a : Volume). laid_over volume_bytes (store volume_key bytes a (volumes_in t)) t) q)

  pub dropped_bytes : (u : List ℕ) (v w : Volume) → nth i (volumes_in t).rows ≡ some v → w ≡ with_pending v none
      → u ≡ laid_over volume_bytes (store volume_key bytes w (volumes_in t)) t → DroppedAt t i (λ vs. u ≡ laid_over volume_bytes vs t)
  dropped_bytes u v w e q r = dropped_at (λ vs. u ≡ laid_over volume_bytes vs t) v e (r ∙ ap (λ (a : Volume). laid_over volume_bytes (store volume_key bytes a (volumes_in t)) t) q)

  module _ (v : Volume) (st : Stands t i v) where
    pub inside : i < count_of t
    inside = at_in 117 17 t (0 ∷ v.vid) i (Ok i) (sym st.place) refl

    -- with the same identifier a volume needs no room
    pub same_fits : volumes_ok t ≡ true → (w : Volume) → w.vid ≡ v.vid → fits (store volume_key bytes w (volumes_in t)) ≡ true
    same_fits ok w e =
        let k = formed_parts volume_key bytes bytes_lawful volume_form (volumes_in t) (formed_rules volumes t ok) in
        fits_replace volume_key bytes bytes_lawful w v (volumes_in t) k.up (ap (λ (a : Id). get volume_key bytes a (volumes_in t).rows) e ∙ st.found) k.fit

    -- the volume that is read there
    pub read_says : (x : CodeVolume) → map volume_laid (nth i (volumes_in t).rows) ≡ some x → volume_says x ≡ v
    read_says x e = ap volume_says (sym (option_same (sym (ap (map volume_laid) st.there) ∙ e))) ∙ says_laid v

    -- a volume in form with its identifier goes into its place
    pub ready_to_store : volumes_ok t ≡ true → (y : CodeVolume) (w : Volume) → volume_says y ≡ w → w.vid ≡ v.vid → volume_form w ≡ true
        → ((volumes_ok t ≡ true) × (volume_form (volume_says y) ≡ true)) × (spot 17 (0 ∷ y.vid) (recs 117 t) ≡ Ok i)
    ready_to_store ok y w e same form = (
      (ok, ap volume_form e ∙ form),
      ap (λ (z : List ℕ). spot 17 (0 ∷ z) (recs 117 t)) (ap (λ (a : Volume). a.vid) e ∙ same) ∙ st.place,
    )

-- ---- the plan of success

module _ (t cs ks es : List ℕ) (ok : push_ok t cs ks es ≡ true) (vid : Id) (b : List ℕ) (good : code (commit_asked b) ≡ 0) (i : ℕ) (v : Volume) (st : Stands t i v) (found : get_volume (volumes_in t) vid ≡ some v) where
  -- 10, 14, 15, 19
  pub plan_refuses : (n : ℕ) → n ≡ code (success_found (volumes_in t) (logs_in cs ks es) v (commit_in b)) → (n ≡ 0 → ⊥) → Planned t cs ks es b (success_in (volumes_in t) (logs_in cs ks es) vid b) (Plan.Left n)
  plan_refuses n e z = success_at t cs ks es ok vid b good v found ∙ refuses (success_found (volumes_in t) (logs_in cs ks es) v (commit_in b)) n e z

  -- the push
  pub plan_goes : code (success_found (volumes_in t) (logs_in cs ks es) v (commit_in b)) ≡ 0 → Planned t cs ks es b (success_in (volumes_in t) (logs_in cs ks es) vid b) (Plan.Push i)
  plan_goes h =
      let vok = volumes_ok_lem t cs ks es ok in
      let q = passed (volumes_in t) (logs_in cs ks es) v (commit_in b) (λ p. same_fits t i v st vok (pushed_volume v p) refl) h in (
        record { volumes = vok; logs = logs_ok_lem t cs ks es ok; commit = (commit_good b good).0; room = q.room; volume = v; stands = st; pending = q.pending; has = q.has },
        pushed_at t i (λ vs. success_in (volumes_in t) (logs_in cs ks es) vid b ≡ done (vs, write (logs_in cs ks es) (commit_in b))) v q.pending st.there q.has
            (success_at t cs ks es ok vid b good v found ∙ q.answers),
      )

-- ---- fields of the commit

module _ (b : List ℕ) (is : IsCommit b) where
  module _ (lsn : ℕ) (hash : List ℕ) (own : ℕ) (e : own ≡ (commit_in (part 0 722 b)).lsn) where
    own_lsn : own ≡ (commit_in b).lsn
    own_lsn = e ∙ ap (λ (z : List ℕ). (commit_in z).lsn) (whole b is)

    pub other_lsn : (own ≡ lsn → ⊥) → false ≡ (eqb (commit_in b).lsn lsn && is_hash (commit_in b).hash hash)
    other_lsn h = ap (λ (x : Bool). x && is_hash (commit_in b).hash hash) (sym (ne_eqb (commit_in b).lsn lsn (λ q. h (own_lsn ∙ q))))

    pub hash_decides : own ≡ lsn → (r : Bool) → r ≡ is_hash (commit_in (part 0 722 b)).hash hash → r ≡ (eqb (commit_in b).lsn lsn && is_hash (commit_in b).hash hash)
    hash_decides q r h =
        h ∙ ap (λ (z : List ℕ). is_hash (commit_in z).hash hash) (whole b is)
        ∙ ap (λ (x : Bool). x && is_hash (commit_in b).hash hash) (sym (eq-eqb (commit_in b).lsn lsn (sym own_lsn ∙ q)))

  module _ (cs hash log : List ℕ) (lsn : ℕ) (el : log ≡ (commit_in (part 0 722 b)).log) (en : lsn ≡ (commit_in (part 0 722 b)).lsn) where
    own_place : get_commit (commits_in cs) log lsn ≡ get_commit (commits_in cs) (commit_in b).log (commit_in b).lsn
    own_place = ap₂ (get_commit (commits_in cs)) (el ∙ ap (λ (z : List ℕ). (commit_in z).log) (whole b is)) (en ∙ ap (λ (z : List ℕ). (commit_in z).lsn) (whole b is))

    pub there_none : none ≡ get_commit (commits_in cs) log lsn → true ≡ same_there (get_commit (commits_in cs) (commit_in b).log (commit_in b).lsn) hash
    there_none e = ap (λ (o : Option Commit). same_there o hash) (e ∙ own_place)

    pub there_some : (c : Commit) → some c ≡ get_commit (commits_in cs) log lsn → (r : Bool) → r ≡ is_hash c.hash hash
        → r ≡ same_there (get_commit (commits_in cs) (commit_in b).log (commit_in b).lsn) hash
    there_some c e r h = h ∙ ap (λ (o : Option Commit). same_there o hash) (e ∙ own_place)

-- ---- what is stored

-- what the code's volume says after its push
pub pushed_says : (v moved r : CodeVolume) (own : PendingCommit) → v.pending ≡ Some own
    → moved ≡ record { vid = v.vid; local = v.local; remote = v.remote; sync = Some (record { remote = own.commit; watermark = Some own.local }); pending = v.pending }
    → r ≡ record { vid = moved.vid; local = moved.local; remote = moved.remote; sync = moved.sync; pending = None }
    → (p : Pending) → (volume_says v).pending ≡ some p → volume_says r ≡ pushed_volume (volume_says v) p
pushed_says v moved r own is m e p q =
    let s : record { local = own.local.0; commit = own.commit.0; hash = own.hash } ≡ p = option_same (ap pending_says (sym is) ∙ q) in
    ap volume_says e ∙ ap (λ (z : CodeVolume). with_pending (volume_says z) none) m ∙ ap (λ (z : Pending). pushed_volume (volume_says v) z) s

-- the bytes of a stored commit are those of a commit in form
pub is_stored : (cs : List ℕ) → commits_ok cs ≡ true → (j : ℕ) → j < count_of cs → IsCommit (part (2 + j * 722) 722 cs)
is_stored cs ok j l = (
  length_part (2 + j * 722) 722 cs (row_in commits cs ok j l),
  ap (in_form commit_bytes commit_form) (sym (row_spelled commits cs ok j l)) ∙ held_form commit_bytes commit_form (commits.holds _ (row_form_lem commits cs ok j l)) (row_form_lem commits cs ok j l),
)

-- ---- recover on a volume v that stands at place i

module _ (cs ks es : List ℕ) (oks : (commits_ok cs ≡ true) × (checkpoints_ok ks ≡ true) × (index_ok es ≡ true)) (i : ℕ) (v : Volume) where
  -- nothing pending
  pub idle : v.pending ≡ none → RecoversFound cs ks es i v (Recovery.Left 0)
  idle e t ok st = ap (recover_pending (volumes_in t) (logs_in cs ks es) v) e

  module _ (p : Pending) (has : v.pending ≡ some p) where
    by_commit : (t : List ℕ) (o : Option Commit) → o ≡ get_commit (commits_in cs) v.remote p.commit
        → recover_pending (volumes_in t) (logs_in cs ks es) v v.pending ≡ recover_by (volumes_in t) (logs_in cs ks es) v p o
    by_commit t o e = ap (recover_pending (volumes_in t) (logs_in cs ks es) v) has ∙ ap (recover_by (volumes_in t) (logs_in cs ks es) v p) (sym e)

    -- none stored
    pub not_stored : none ≡ get_commit (commits_in cs) v.remote p.commit → RecoversFound cs ks es i v (Recovery.Drop i 0)
    not_stored e t ok st = ((v, st), dropped_at t i (λ vs. recover_pending (volumes_in t) (logs_in cs ks es) v v.pending ≡ (0, vs, logs_in cs ks es)) v st.there (by_commit t none e))

    module _ (j : ℕ) (l : j < count_of cs) (e : some (commit_in (part (2 + j * 722) 722 cs)) ≡ get_commit (commits_in cs) v.remote p.commit) where
      abbrev stored : Commit
      stored = commit_in (part (2 + j * 722) 722 cs)

      by_hash : (t : List ℕ) (h : Bool) → is_hash stored.hash p.hash ≡ h
          → recover_pending (volumes_in t) (logs_in cs ks es) v v.pending
          ≡ cond h (leaves (volumes_in t) (logs_in cs ks es) (push (volumes_in t) (logs_in cs ks es) v p stored)) (8, store volume_key bytes (with_pending v none) (volumes_in t), logs_in cs ks es)
      by_hash t h q =
          by_commit t (some stored) e
          ∙ ap (λ (x : Bool). cond x (leaves (volumes_in t) (logs_in cs ks es) (push (volumes_in t) (logs_in cs ks es) v p stored)) (8, store volume_key bytes (with_pending v none) (volumes_in t), logs_in cs ks es)) q

      -- another hash or none
      pub other_hash : is_hash stored.hash p.hash ≡ false → RecoversFound cs ks es i v (Recovery.Drop i 8)
      other_hash q t ok st = ((v, st), dropped_at t i (λ vs. recover_pending (volumes_in t) (logs_in cs ks es) v v.pending ≡ (8, vs, logs_in cs ks es)) v st.there (by_hash t false q))

      module _ (q : is_hash stored.hash p.hash ≡ true) where
        by_fit : (t : List ℕ) → volumes_ok t ≡ true → Stands t i v → (r : Bool) → logs_fit (write (logs_in cs ks es) stored) ≡ r
            → recover_pending (volumes_in t) (logs_in cs ks es) v v.pending
            ≡ leaves (volumes_in t) (logs_in cs ks es) (ask r 19 >> done (store volume_key bytes (pushed_volume v p) (volumes_in t), write (logs_in cs ks es) stored))
        by_fit t ok st r h =
            by_hash t true q
            ∙ ap₂ (λ (x y : Bool). leaves (volumes_in t) (logs_in cs ks es) (ask (x && y) 19 >> done (store volume_key bytes (pushed_volume v p) (volumes_in t), write (logs_in cs ks es) stored)))
            (same_fits t i v st ok (pushed_volume v p) refl) h

        -- no room
        pub no_room : logs_fit (write (logs_in cs ks es) stored) ≡ false → RecoversFound cs ks es i v (Recovery.Left 19)
        no_room h t ok st = by_fit t ok st false h

        -- the push
        pub recover_goes : logs_fit (write (logs_in cs ks es) stored) ≡ true → RecoversFound cs ks es i v (Recovery.Push i j)
        recover_goes h t ok st = (
          record { volumes = ok; logs = oks; commit = is_stored cs oks.0 j l; room = h; volume = v; stands = st; pending = p; has = has },
          l,
          pushed_at t i (λ vs. recover_pending (volumes_in t) (logs_in cs ks es) v v.pending ≡ (0, vs, write (logs_in cs ks es) stored)) v p st.there has (by_fit t ok st true h),
        )

-- ---- recover up to its volume

module _ (t cs ks es : List ℕ) (ok : push_ok t cs ks es ≡ true) (vid : Id) where
  recover_is : (o : Option Volume) → get_volume (volumes_in t) vid ≡ o → recover (volumes_in t) (logs_in cs ks es) vid ≡ recover_volume (volumes_in t) (logs_in cs ks es) o
  unfolding recover
  recover_is o e =
      ap₂ (λ (x : Bool) (y : Option Volume). cond x (recover_volume (volumes_in t) (logs_in cs ks es) y) (20, volumes_in t, logs_in cs ks es)) (formed t cs ks es ok) e

  -- 4
  pub recover_nowhere : get_volume (volumes_in t) vid ≡ none → recover (volumes_in t) (logs_in cs ks es) vid ≡ (4, volumes_in t, logs_in cs ks es)
  recover_nowhere e = recover_is none e

  -- else what the volume decides
  pub recover_at : (i : ℕ) (v : Volume) → Stands t i v → get_volume (volumes_in t) vid ≡ some v → (r : Recovery) → RecoversFound cs ks es i v r
      → Recovers t cs ks es (recover (volumes_in t) (logs_in cs ks es) vid) r
  recover_at i v st e r h = subst (λ (a : ℕ × Table Volume × Logs). Recovers t cs ks es a r) (sym (recover_is (some v) e)) (h t (volumes_ok_lem t cs ks es ok) st)
