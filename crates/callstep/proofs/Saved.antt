-- The ends of op=save. The snapshot after a save is one of formed tables and a formed volume, so its bytes spell it; 24 and 22 change nothing.
use Rattle.std.proofs.Common.{◌≡◌, ℕ, ◌+◌, ◌-◌, ◌^◌, ◌<◌, ◌≤◌, Bool, true, false, cond, ◌&&◌, List, [], ◌∷◌, length, replicate, sym, refl, ap, ◌∙◌, arith, ltb-true, eq-eqb, le-leb}
use mathlib.Core.Option.{Option, none, some}
use Rattle.octets.specs.Bytes.{be, part}
use Rattle.table.specs.Table.{runs}
use Rattle.basics.specs.Answers.{Answer, refused, done, code, need, ◌>>=◌, ◌>>◌}
use Rattle.basics.specs.Numbers.{last_page}
use Rattle.basics.specs.Orders.{log_lsn}
use Rattle.basics.proofs.OrderLaws.{log_lsn_lawful}
use Rattle.rules.specs.Records.{Id, Pages, Commit, SyncPoint, Volume, Present, Snapshot, commit_key}
use Rattle.rules.specs.Lists.{given}
use Rattle.rules.specs.Forms.{id_form, lsn_form, count_form, sync_form, volume_form, commit_form}
use Rattle.rules.specs.Tables.{Table, get_commit, latest}
use Rattle.rules.specs.Write.{Logs, write, logs_formed}
use Rattle.rules.specs.Snapshots.{watermark_of, remote_of, below, after as start, remote_path, empty_snapshot, remote_to, remote_snapshot, local_snapshot, snapshot_by, snapshot_of}
use Rattle.rules.specs.Save.{saved_commit, save}
use Rattle.rules.proofs.TableLaws.{cases, options, and_fst, and_snd, and_both, all_at, Rows}
use Rattle.rules.proofs.AnswerLaws.{refused_done}
use Rattle.rules.proofs.Lookups.{latest_some}
use Rattle.rules.proofs.Write.{logs_rows}
use Rattle.rules.proofs.Kept.{volume_form_lem, commit_form_lem, save_done, save_kept}
use Rattle.layout.specs.Codecs.{Holds}
use Rattle.layout.specs.Values.{range_bytes, snapshot_bytes, set_bytes}
use Rattle.layout.specs.Records.{commit_bytes, checkpoint_bytes, entry_bytes, present_bytes}
use Rattle.layout.specs.Tables.{volumes_in, presence_in}
use Rattle.layout.specs.Lent.{lent, after}
use Rattle.layout.proofs.HoldLaws as H
use Rattle.layout.proofs.FormHolds.{lsn_bound, count_bound, range_held, snapshot_held}
use Rattle.layout.proofs.LentLaws.{lent_no, lent_yes}
use Rattle.volume.specs.Snapshots.{head_of}
use Rattle.arguments.specs.Snapshots.{snapshot_in}
use Rattle.arguments.proofs.SnapshotLaws.{snapshot_size}
use Rattle.writecalls.specs.Written.{logs_in}
use Rattle.savecalls.specs.Saving.{Saved, arguments_in, save_in, save_ok, save_on, out_after, Leaves}
use Rattle.savecalls.proofs.Ends.{leaves_same}
use Rattle.callvalues.specs.Slots.{is_set, held}
use Rattle.callvalues.specs.Values.{id_of, shortly}
use Rattle.callstep.specs.Testers.{Tester}
use Rattle.callstep.specs.Steps.{saved_on, saved_head, after_save}

-- ---- the form holds a snapshot of a volume in form, over commits in form

abbrev Good : Table Commit → Type 0
Good cs = Rows commit_key log_lsn log_lsn_lawful commit_form cs.rows

-- what a commit and a sync point in form have
count_of : (c : Commit) → commit_form c ≡ true → c.count < 256 ^ 4
unfolding commit_form
count_of c f = count_bound c.count (search (and_fst, and_snd))

lsn_of_lem : (c : Commit) → commit_form c ≡ true → c.lsn < 256 ^ 8
unfolding commit_form
lsn_of_lem c f = lsn_bound c.lsn (search (and_fst, and_snd))

remote_of_lem : (o : Option SyncPoint) → given sync_form o ≡ true → given lsn_form (remote_of o) ≡ true
unfolding sync_form
remote_of_lem none f = refl
remote_of_lem (some s) f = and_fst (lsn_form s.remote) (given lsn_form s.watermark) f

-- w+1 is not above an LSN that w is below
start_of : (w : Option ℕ) (n : ℕ) → below w n ≡ true → n < 256 ^ 8 → start w < 256 ^ 8
start_of none n b h = omega arith
start_of (some w) n b h = let l = ltb-true w n b in omega arith

module _ (cs : Table Commit) (v : Volume) (k : Good cs) (f : volume_form v ≡ true) where
  near : id_form v.local ≡ true
  unfolding volume_form
  near = search (and_fst, and_snd)

  far : id_form v.remote ≡ true
  unfolding volume_form
  far = search (and_fst, and_snd)

  synced : given sync_form v.sync ≡ true
  unfolding volume_form
  synced = search (and_fst, and_snd)

  empty_held : Holds snapshot_bytes empty_snapshot
  empty_held = snapshot_held empty_snapshot (omega arith) (omega arith) tt

  to_held : (o : Option Commit) → ((c : Commit) → o ≡ some c → commit_form c ≡ true) → Holds snapshot_bytes (remote_to v o)
  to_held none h = empty_held
  to_held (some c) h =
      snapshot_held (remote_to v (some c)) (count_of c (h c refl)) (omega arith)
      (range_held (record { log = v.remote; start = 1; end = c.lsn }) far (omega arith) (lsn_of_lem c (h c refl)), tt)

  remote_held : (o : Option ℕ) → Holds snapshot_bytes (remote_snapshot cs v o)
  remote_held none = empty_held
  remote_held (some n) = to_held (get_commit cs v.remote n) (λ c e. commit_form_lem cs v.remote n c k e)

  path_held : (o : Option ℕ) → given lsn_form o ≡ true → H.AllHeld range_bytes (remote_path v o)
  path_held none h = tt
  path_held (some n) h = (range_held (record { log = v.remote; start = 1; end = n }) far (omega arith) (lsn_bound n h), tt)

  path_few : (o : Option ℕ) → length (remote_path v o) ≤ 1
  path_few none = omega arith
  path_few (some n) = omega arith

  local_held : (c : Commit) → commit_form c ≡ true → below (watermark_of v.sync) c.lsn ≡ true → Holds snapshot_bytes (local_snapshot v c)
  local_held c h b =
      snapshot_held (local_snapshot v c) (count_of c h) (omega (arith, path_few (remote_of v.sync)))
      (range_held (record { log = v.local; start = start (watermark_of v.sync); end = c.lsn }) near (start_of (watermark_of v.sync) c.lsn b (lsn_of_lem c h)) (lsn_of_lem c h), path_held (remote_of v.sync) (remote_of_lem v.sync synced))

  by_latest : (o : Option Commit) → ((c : Commit) → o ≡ some c → commit_form c ≡ true) → Holds snapshot_bytes (snapshot_by cs v o)
  by_latest none h = remote_held (remote_of v.sync)
  by_latest (some c) h =
      cases (below (watermark_of v.sync) c.lsn) (λ b. rw b (local_held c (h c refl) b)) (λ b. rw b (remote_held (remote_of v.sync)))

  pub of_volume : Holds snapshot_bytes (snapshot_of cs v)
  unfolding snapshot_of
  of_volume = by_latest (latest cs v.local) (λ c e. all_at commit_form cs.rows k.forms (latest_some cs v.local c k.up e).stored)

-- ---- so it holds the snapshot after a save

then_done : {B : Type 0} (m : Answer (Unit {0})) (a : Answer B) {b : B} → (m >> a) ≡ done b → a ≡ done b
then_done (refused n) a e = refused_done e
then_done (done x) a e = e

after_save_lem : (vs : Table Volume) (g : Logs) (ps : Table Present) (vid : Id) (s : Snapshot) (count : ℕ) (sid : Id) (pages : Pages) (r : Saved) → count_form count && id_form sid ≡ true
    → save vs g ps vid s count sid pages ≡ done r → Holds snapshot_bytes r.0
after_save_lem vs g ps vid s count sid pages r t e =
    let x = save_done vs g ps vid s count sid pages r e in
    let c = saved_commit x.volume x.lsn count sid pages in
    let lf : logs_formed (write g c) ≡ true = ap (λ (z : Saved). logs_formed z.1) x.result ∙ (save_kept vs g ps vid s count sid pages r t e).0 in
    rw (← x.result) (of_volume (write g c).commits x.volume (logs_rows (write g c) lf).commits (volume_form_lem vs vid x.volume x.volumes x.is))

in_bytes : (vs : Table Volume) (g : Logs) (ps : Table Present) (vid : Id) (b : List ℕ) (count : ℕ) (sid : Id) (w : List ℕ) (place : ℕ) (r : Saved) → count_form count && id_form sid ≡ true
    → save_in vs g ps vid b count sid w place ≡ done r → Holds snapshot_bytes r.0
unfolding save_in
in_bytes vs g ps vid b count sid w place r t e =
    after_save_lem vs g ps vid (snapshot_in b) count sid (set_bytes.read w) r t (then_done (arguments_in b w place) (save vs g ps vid (snapshot_in b) count sid (set_bytes.read w)) e)

saved_held : (vs cs ks es ps : List ℕ) (vid : Id) (b : List ℕ) (count : ℕ) (sid : Id) (w out : List ℕ) (r : Saved) → count_form count && id_form sid ≡ true
    → save_on vs cs ks es ps vid b count sid w out ≡ done r → Holds snapshot_bytes r.0
unfolding save_on
saved_held vs cs ks es ps vid b count sid w out r t e =
    cases (save_ok vs cs ks es ps)
    (λ ok. in_bytes (volumes_in vs) (logs_in cs ks es) (presence_in ps) vid b count sid w (length out) r t (sym (lent_yes (save_ok vs cs ks es ps) _ ok) ∙ e))
    (λ no. refused_done (sym (lent_no (save_ok vs cs ks es ps) (save_in (volumes_in vs) (logs_in cs ks es) (presence_in ps) vid b count sid w (length out)) no) ∙ e))

-- ---- the head of the bytes of the answer

held_in : (s : Snapshot) → Holds snapshot_bytes s → snapshot_in (snapshot_bytes.spell s) ≡ s
unfolding snapshot_in
held_in s h = rw (eq-eqb (length (snapshot_bytes.spell s)) snapshot_bytes.size h.long) h.back

zero_head : head_of (snapshot_in (replicate 262 0)) ≡ none
unfolding snapshot_in snapshot_bytes range_bytes be part runs
zero_head = refl

head_of_lem : (q : Answer Saved) → ((r : Saved) → q ≡ done r → Holds snapshot_bytes r.0) → (out : List ℕ) → out ≡ out_after (replicate 262 0) q → shortly (head_of (snapshot_in out)) ≡ saved_head q
unfolding out_after
head_of_lem (refused n) h out e = ap (λ (x : List ℕ). shortly (head_of (snapshot_in x))) e ∙ ap shortly zero_head
head_of_lem (done r) h out e = ap (λ (x : List ℕ). shortly (head_of (snapshot_in x))) e ∙ ap (λ (s : Snapshot). shortly (head_of s)) (held_in r.0 (h r refl))

-- ---- the ends

abbrev Prints : Answer Saved → ℕ → Option (ℕ × ℕ) → Type 0
Prints q n h = ◌≡◌ {A = ℕ × Option (ℕ × ℕ)} (n, h) (code q, saved_head q)

module _ (vs cs ks es ps slots : List ℕ) where
  abbrev tester : Tester
  tester = record { volumes = vs; commits = cs; checkpoints = ks; index = es; presence = ps; slots = slots }

  -- 24 and 22
  pub stays : (q : Answer Saved) (n : ℕ) → q ≡ refused n → Prints q n none × (tester ≡ after_save tester q)
  unfolding after
  stays q n e = (rw e, rw e)

  -- the tables that a save leaves
  left : (q : Answer Saved) (n : ℕ) (cs' ks' es' ps' out out' : List ℕ) → Leaves cs ks es ps out q n cs' ks' es' ps' out'
      → ◌≡◌ {A = Tester} (record { volumes = vs; commits = cs'; checkpoints = ks'; index = es'; presence = ps'; slots = slots }) (after_save tester q)
  left q n cs' ks' es' ps' out out' l = λ i. record { volumes = vs; commits = l.of_commits i; checkpoints = l.of_checkpoints i; index = l.of_index i; presence = l.of_presence i; slots = slots }

  no_head : (q : Answer Saved) (n : ℕ) → n ≡ code q → (n ≡ 0 → ⊥) → Prints q n none
  no_head (refused m) n e z = ap (λ (x : ℕ). (x, none)) e
  no_head (done r) n e z = absurd (z e)

  module _ (vid slot count sid : ℕ) (pages : Answer Pages) where
    abbrev answer : Answer Saved
    answer = saved_on tester vid slot count sid pages

    pub unset : is_set slots slot ≡ false → answer ≡ refused 24
    unfolding saved_on
    unset e = rw e

    module _ (set : is_set slots slot ≡ true) where
      pub over : (n : ℕ) → pages ≡ refused n → answer ≡ refused n
      unfolding saved_on
      over n e = rw (set, e)

      module _ (ws : Pages) (named : pages ≡ done ws) (id sg b w : List ℕ) (is : id ≡ id_of vid) (sis : sg ≡ id_of sid) (bs : b ≡ held slots slot) (bytes : w ≡ set_bytes.spell ws) where
        abbrev given_by : Answer Saved
        given_by = save_on vs cs ks es ps id b count sg w (replicate 262 0)

        saved_is : given_by ≡ answer
        unfolding saved_on
        saved_is = rw (set, named, is, sis, bs, bytes)

        module _ (n : ℕ) (cs' ks' es' ps' out' : List ℕ) (l : Leaves cs ks es ps (replicate 262 0) given_by n cs' ks' es' ps' out') where
          same : Leaves cs ks es ps (replicate 262 0) answer n cs' ks' es' ps' out'
          same = leaves_same cs ks es ps (replicate 262 0) given_by answer saved_is n cs' ks' es' ps' out' l

          pub leaves : ◌≡◌ {A = Tester} (record { volumes = vs; commits = cs'; checkpoints = ks'; index = es'; presence = ps'; slots = slots }) (after_save tester answer)
          leaves = left answer n cs' ks' es' ps' (replicate 262 0) out' same

          pub refuses : (n ≡ 0 → ⊥) → Prints answer n none
          refuses z = no_head answer n same.number z

          pub saves : n ≡ 0 → count_form count && id_form sg ≡ true → (h : Option (ℕ × ℕ)) → h ≡ shortly (head_of (snapshot_in out')) → Prints answer 0 h
          saves z t h e =
              let o = head_of_lem given_by (λ r q. saved_held vs cs ks es ps id b count sg w (replicate 262 0) r t q) out' l.of_out in
              λ i. ((sym z ∙ same.number) i, (e ∙ o ∙ ap saved_head saved_is) i)

-- a count of 32 bits and an identifier are in form
pub typed : (count : ℕ) (sid : Id) → count < 2 ^ 32 → id_form sid ≡ true → count_form count && id_form sid ≡ true
unfolding count_form last_page
typed count sid c s = and_both (le-leb count (2 ^ 32 - 1) (omega arith)) s
