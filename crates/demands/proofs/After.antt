-- What lent bytes hold after a save that answers 0, by its contract: 0 is no refusal (`Proper`), so the rule answered; the tables that it answered are formed, and laid over the bytes they are what these hold then.
use Rattle.std.proofs.Common.{◌≡◌, ℕ, ◌+◌, ◌≤◌, Bool, true, false, not, ◌&&◌, eqb, ltb, List, length, sym, refl, ap, ◌∙◌, subst, arith, eqb-true, le-leb}
use mathlib.Core.Option.{Option, none, some}
use borrow.Author.Tests.{eqb-false}
use Rattle.octets.specs.Bytes.{AreBytes}
use Rattle.basics.specs.Answers.{Answer, refused, done, code, ask, need, ◌>>◌, ◌>>=◌}
use Rattle.basics.specs.Numbers.{last_lsn, last_page}
use Rattle.pageset.specs.Sets.{normal_form}
use Rattle.rules.specs.Records.{Id, Pages, Present, Volume, Snapshot}
use Rattle.rules.specs.Forms.{id_form, count_form}
use Rattle.rules.specs.Tables.{Table, fits, get_volume, latest_lsn, volumes_formed, commits_formed, checkpoints_formed, index_formed, presence_formed}
use Rattle.rules.specs.Arguments.{snapshot_lsns, snapshot_order, snapshot_form}
use Rattle.rules.specs.Write.{Logs, write, logs_formed, logs_fit}
use Rattle.rules.specs.Snapshots.{is_latest}
use Rattle.rules.specs.Save.{lsn_after, sid_in_use, saved_commit, now_present, save}
use Rattle.rules.proofs.TableLaws.{cases, and_fst, and_snd, and_both}
use Rattle.rules.proofs.Kept.{save_done, save_kept}
use Rattle.layout.specs.Codecs.{Codec}
use Rattle.layout.specs.Values.{set_bytes}
use Rattle.layout.specs.Records.{commit_bytes, checkpoint_bytes, entry_bytes, present_bytes}
use Rattle.layout.specs.Tables.{volumes_in, volumes_ok, commits_in, checkpoints_in, index_in, presence_in}
use Rattle.layout.specs.Lent.{after}
use Rattle.rows.proofs.Rows.{Laid, formed_two, laid_holds}
use Rattle.rows.proofs.Tables as Layouts
use Rattle.arguments.specs.Snapshots.{snapshot_in}
use Rattle.writecalls.specs.Written.{logs_in}
use Rattle.layout.proofs.PlaceLaws.{id_form_lem}
use Rattle.savecalls.specs.Saving.{Saved, save_ok, arguments_in, save_on, Leaves}
use Rattle.savecalls.proofs.Forms.{Formed, formed}
use Rattle.savecalls.proofs.Ends.{not_formed, bad_arguments, in_rule}

-- ---- 0 is no refusal

abbrev Proper : {A : Type 0} → Answer A → Type 0
Proper (refused n) = n ≡ 0 → ⊥
Proper (done a) = Unit {0}

ask_proper : {A : Type 0} (b : Bool) (n : ℕ) (k : Answer A) → (n ≡ 0 → ⊥) → Proper k → Proper (ask b n >> k)
ask_proper true n k z h = h
ask_proper false n k z h = z

need_proper : {A B : Type 0} (o : Option A) (n : ℕ) (k : A → Answer B) → (n ≡ 0 → ⊥) → ((a : A) → Proper (k a)) → Proper (need o n >>= k)
need_proper none n k z h = z
need_proper (some a) n k z h = h a

lsn_proper : {B : Type 0} (o : Option ℕ) (k : ℕ → Answer B) → ((n : ℕ) → Proper (k n)) → Proper (lsn_after o >>= k)
unfolding lsn_after
lsn_proper none k h = h 1
lsn_proper (some m) k h = go (ltb m last_lsn)
  where
    go : (b : Bool) → Proper ((ask b 18 >> done (m + 1)) >>= k)
    go true = h (m + 1)
    go false = λ e. omega arith

save_proper : (vs : Table Volume) (g : Logs) (ps : Table Present) (vid : Id) (s : Snapshot) (count : ℕ) (sid : Id) (pages : Pages) → Proper (save vs g ps vid s count sid pages)
unfolding save
save_proper vs g ps vid s count sid pages =
    ask_proper (volumes_formed vs && logs_formed g && presence_formed ps) 20 _ (omega arith)
    (ask_proper (snapshot_lsns s) 1 _ (omega arith)
    (ask_proper (snapshot_order s) 2 _ (omega arith)
    (ask_proper (snapshot_form s && normal_form pages) 3 _ (omega arith)
    (need_proper (get_volume vs vid) 4 _ (omega arith) (λ v.
    ask_proper (is_latest g.commits v s) 7 _ (omega arith)
    (lsn_proper (latest_lsn g.commits v.local) _ (λ n.
    ask_proper (not (sid_in_use g.commits ps sid)) 5 _ (omega arith)
    (ask_proper (logs_fit (write g (saved_commit v n count sid pages)) && fits (now_present sid pages ps)) 19 _ (omega arith) tt))))))))

-- the rule answered, where a call that lets it decide answers 0
answered : {A : Type 0} (a : Answer A) → Proper a → 0 ≡ code a → (x : A) × (a ≡ done x)
answered (refused n) h e = absurd (h (sym e))
answered (done x) h e = (x, refl)

-- what the types of a count and of an identifier ensure
pub typed_by : (count : ℕ) (sid : Id) → count ≤ 4294967295 → length sid ≡ 16 → AreBytes sid → count_form count && id_form sid ≡ true
unfolding count_form last_page
typed_by count sid c l b = and_both (le-leb count 4294967295 c) (id_form_lem sid l b)

-- ---- the tables that the bytes hold then

module _ (vs cs ks es ps : List ℕ) (vid : Id) (snap : List ℕ) (count : ℕ) (sid : Id) (pages out : List ℕ) where
  -- the rule on what the lent bytes hold
  abbrev pub rule : Answer Saved
  rule = save (volumes_in vs) (logs_in cs ks es) (presence_in ps) vid (snapshot_in snap) count sid (set_bytes.read pages)

  record Under0 : Type 0 where
    ok : save_ok vs cs ks es ps ≡ true
    result : Saved
    is : save_on vs cs ks es ps vid snap count sid pages out ≡ done result
    saved : rule ≡ done result

  under_0 : 0 ≡ code (save_on vs cs ks es ps vid snap count sid pages out) → Under0
  under_0 code_is =
      cases (save_ok vs cs ks es ps)
      (λ ok.
      cases (eqb (code (arguments_in snap pages (length out))) 0)
      (λ q.
      let h : 0 ≡ code (arguments_in snap pages (length out)) = sym (eqb-true (code (arguments_in snap pages (length out))) 0 q) in
      let e = in_rule vs cs ks es ps vid snap count sid pages out (sym ok) h in
      let a = answered rule (save_proper (volumes_in vs) (logs_in cs ks es) (presence_in ps) vid (snapshot_in snap) count sid (set_bytes.read pages)) (code_is ∙ ap code e) in
      record { ok = ok; result = a.0; is = e ∙ a.1; saved = a.1 })
      (λ q.
      let m = code (arguments_in snap pages (length out)) in
      absurd (eqb-false m 0 q (sym (code_is ∙ ap code (bad_arguments vs cs ks es ps vid snap count sid pages out (sym ok) m refl (eqb-false m 0 q)))))))
      (λ ok. absurd (let z = code_is ∙ ap code (not_formed vs cs ks es ps vid snap count sid pages out (sym ok)) in omega arith))

  -- r is what the rule answered, typed what the types of the arguments ensure
  module _ (r : Saved) (saved : rule ≡ done r) (typed : count_form count && id_form sid ≡ true) where
    kept : (logs_formed r.1 ≡ true) × (presence_formed r.2 ≡ true)
    kept = save_kept (volumes_in vs) (logs_in cs ks es) (presence_in ps) vid (snapshot_in snap) count sid (set_bytes.read pages) r typed saved

    logs_kept : (commits_formed r.1.commits ≡ true) × ((checkpoints_formed r.1.checkpoints ≡ true) × (index_formed r.1.index ≡ true))
    unfolding logs_formed
    logs_kept =
        let both = and_fst (commits_formed r.1.commits && checkpoints_formed r.1.checkpoints) (index_formed r.1.index) kept.0 in (
          and_fst (commits_formed r.1.commits) (checkpoints_formed r.1.checkpoints) both,
          (and_snd (commits_formed r.1.commits) (checkpoints_formed r.1.checkpoints) both, and_snd (commits_formed r.1.commits && checkpoints_formed r.1.checkpoints) (index_formed r.1.index) kept.0),
        )

    -- the rooms are those of before
    rooms : (r.1.commits.room ≡ (commits_in cs).room) × ((r.1.checkpoints.room ≡ (checkpoints_in ks).room) × ((r.1.index.room ≡ (index_in es).room) × (r.2.room ≡ (presence_in ps).room)))
    unfolding write
    rooms =
        let x = save_done (volumes_in vs) (logs_in cs ks es) (presence_in ps) vid (snapshot_in snap) count sid (set_bytes.read pages) r saved in (
          sym (ap (λ (y : Saved). y.1.commits.room) x.result),
          (sym (ap (λ (y : Saved). y.1.checkpoints.room) x.result), (sym (ap (λ (y : Saved). y.1.index.room) x.result), sym (ap (λ (y : Saved). y.2.room) x.result))),
        )

  -- n and the later bytes are what the contract says
  module _ (n : ℕ) (cs' ks' es' ps' out' : List ℕ) (left : Leaves cs ks es ps out (save_on vs cs ks es ps vid snap count sid pages out) n cs' ks' es' ps' out') where
    pub record Now : Type 0 where
      pub result : Saved
      pub is : save_on vs cs ks es ps vid snap count sid pages out ≡ done result
      pub saved : rule ≡ done result
      pub volumes : volumes_ok vs ≡ true
      pub commits : Laid Layouts.commits result.1.commits cs cs'
      pub checkpoints : Laid Layouts.checkpoints result.1.checkpoints ks ks'
      pub index : Laid Layouts.index result.1.index es es'
      pub presence : Laid Layouts.presence result.2 ps ps'

    pub now_held : n ≡ 0 → count_form count && id_form sid ≡ true → Now
    unfolding after
    now_held zero typed =
        let u = under_0 (sym zero ∙ left.number) in
        let f = formed vs cs ks es ps u.ok in
        let k = logs_kept u.result u.saved typed in
        let m = rooms u.result u.saved typed in
        record {
          result = u.result;
          is = u.is;
          saved = u.saved;
          volumes = f.volumes;
          commits =
              subst (λ (b : List ℕ). Laid Layouts.commits u.result.1.commits cs b) (sym (left.of_commits ∙ ap (after commit_bytes (λ (y : Saved). y.1.commits) cs) u.is))
              (laid_holds Layouts.commits u.result.1.commits cs k.0 m.0 (formed_two Layouts.commits cs f.commits));
          checkpoints =
              subst (λ (b : List ℕ). Laid Layouts.checkpoints u.result.1.checkpoints ks b) (sym (left.of_checkpoints ∙ ap (after checkpoint_bytes (λ (y : Saved). y.1.checkpoints) ks) u.is))
              (laid_holds Layouts.checkpoints u.result.1.checkpoints ks k.1.0 m.1.0 (formed_two Layouts.checkpoints ks f.checkpoints));
          index =
              subst (λ (b : List ℕ). Laid Layouts.index u.result.1.index es b) (sym (left.of_index ∙ ap (after entry_bytes (λ (y : Saved). y.1.index) es) u.is))
              (laid_holds Layouts.index u.result.1.index es k.1.1 m.1.1.0 (formed_two Layouts.index es f.index));
          presence =
              subst (λ (b : List ℕ). Laid Layouts.presence u.result.2 ps b) (sym (left.of_presence ∙ ap (after present_bytes (λ (y : Saved). y.2) ps) u.is))
              (laid_holds Layouts.presence u.result.2 ps (kept u.result u.saved typed).1 m.1.1.1 (formed_two Layouts.presence ps f.presence));
        }
