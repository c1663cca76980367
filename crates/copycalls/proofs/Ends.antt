-- The calls: 20, the arguments, then the rule of a path copied: 5, 19, or the new volume and the copies. What is refused is the answer and leaves every byte as found. Where the identifiers
-- are free the local log has no commit, so its ranges give nothing and the path without them is copied.
use Rattle.std.proofs.Common.{◌≡◌, ℕ, Bool, true, false, cond, ◌&&◌, eqb, List, [], ◌∷◌, map, length, take, sym, refl, ap, ◌∙◌, subst, ap₂, arith, le-ltb, lt-ltb, eq-eqb, ne_eqb, le-leb}
use mathlib.Core.Option.{Option, none, some}
use Rattle.octets.specs.Bytes.{AreBytes}
use Rattle.basics.specs.Answers.{Answer, refused, done, code, ask, ◌>>◌}
use Rattle.basics.proofs.AskLaws.{refuses, stops}
use Rattle.basics.specs.Numbers.{counts}
use Rattle.basics.specs.Orders.{bytes}
use Rattle.rules.specs.Lists.{all, those}
use Rattle.rules.specs.Records.{Id, Range, Volume, Commit, volume_key}
use Rattle.rules.specs.Tables.{Table, fits, store, volumes_formed, get_commit}
use Rattle.rules.specs.Arguments.{snapshot_form}
use Rattle.rules.specs.Write.{Logs, write_all, logs_formed, logs_fit}
use Rattle.rules.specs.Open.{Ids}
use Rattle.rules.specs.Walk.{path_commits}
use Rattle.rules.specs.Copies.{copy_free, renumbered, new_volume, copied, from_snapshot, from_commit, from_logref}
use Rattle.rules.proofs.TableLaws.{cases, and_both}
use Rattle.layout.specs.Records.{volume_bytes, commit_bytes, checkpoint_bytes, entry_bytes}
use Rattle.layout.specs.Tables.{volumes_in, volumes_ok, commits_in, commits_ok, checkpoints_ok, index_ok, laid_over}
use Rattle.layout.specs.Lent.{after}
use Rattle.layout.proofs.LentLaws.{lent_no, lent_yes}
use Rattle.rows.proofs.Rows.{formed_rules, laid_same}
use Rattle.rows.proofs.Tables as Layouts
use Rattle.volume.specs.Snapshots.{range_says, laid}
use Rattle.volume.specs.declared.snapshot.Snapshot.{Snapshot as CodeSnapshot}
use Rattle.arguments.specs.declared.Reply.{Reply}
use Rattle.arguments.specs.Replies.{none_under, given}
use Rattle.arguments.specs.Snapshots.{snapshot_in}
use Rattle.arguments.proofs.SnapshotLaws.{in_few, arg_says}
use Rattle.writecalls.specs.Written.{logs_in}
use Rattle.paths.specs.Left.{other_log}
use Rattle.paths.proofs.PathLaws.{path_without}
use Rattle.writecalls.proofs.Formed.{logs_formed_lem}
use Rattle.copycalls.specs.Making.{Made, up_to, made, copy_ok, arguments_in, snapshot_on, logref_in, logref_on, out_after, Leaves}
use Rattle.copycalls.proofs.Asks.{all_logs, formed, passes, local_free}

-- ---- what is left

module _ (vs cs ks es out : List ℕ) (a : Answer Made) where
  -- a refusal leaves the bytes as found
  pub left_alone : (n : ℕ) → a ≡ refused n → Leaves vs cs ks es out a (none_under n) vs cs ks es out
  unfolding after out_after
  left_alone n e = rw e (record { reply = refl; of_volumes = refl; of_commits = refl; of_checkpoints = refl; of_index = refl; of_out = refl })

  -- so does nothing
  pub left_nothing : a ≡ done (none, volumes_in vs, logs_in cs ks es) → (volumes_ok vs ≡ true) × (commits_ok cs ≡ true) × (checkpoints_ok ks ≡ true) × (index_ok es ≡ true)
      → AreBytes vs → AreBytes cs → AreBytes ks → AreBytes es → Leaves vs cs ks es out a (none_under 0) vs cs ks es out
  unfolding after out_after
  left_nothing e ok bv bc bk be =
      rw e (record {
        reply = refl;
        of_volumes = sym (laid_same Layouts.volumes vs bv ok.0);
        of_commits = sym (laid_same Layouts.commits cs bc ok.1);
        of_checkpoints = sym (laid_same Layouts.checkpoints ks bk ok.2);
        of_index = sym (laid_same Layouts.index es be ok.3);
        of_out = refl;
      })

  -- a volume made leaves the tables with it, and its bytes
  pub left_made : (v : Volume) (vt : Table Volume) (g : Logs) → a ≡ done (some v, vt, g) → (u w x y z : List ℕ) → u ≡ laid_over volume_bytes vt vs → w ≡ laid_over commit_bytes g.commits cs
      → x ≡ laid_over checkpoint_bytes g.checkpoints ks → y ≡ laid_over entry_bytes g.index es → z ≡ volume_bytes.spell v → Leaves vs cs ks es out a given u w x y z
  unfolding after out_after
  left_made v vt g e u w x y z eu ew ex ey ez = rw e (record { reply = refl; of_volumes = eu; of_commits = ew; of_checkpoints = ex; of_index = ey; of_out = ez })

  -- the same answer leaves the same
  pub leaves_same : (b : Answer Made) → a ≡ b → (r : Reply) (u w x y z : List ℕ) → Leaves vs cs ks es out a r u w x y z → Leaves vs cs ks es out b r u w x y z
  leaves_same b e r u w x y z h = subst (λ (q : Answer Made). Leaves vs cs ks es out q r u w x y z) e h

-- ---- a path copied

module _ (vt : Table Volume) (g : Logs) (path : List Range) (x : Ids) where
  abbrev volumes_then : Table Volume
  volumes_then = store volume_key bytes (new_volume x) vt

  abbrev logs_then : Logs
  logs_then = write_all g (renumbered x.local (path_commits g.commits path))

  steps : Bool → Bool → Bool → Answer (Volume × Table Volume × Logs)
  steps a b c = ask a 5 >> (ask (b && c) 19 >> done (new_volume x, volumes_then, logs_then))

  is_steps : copied vt g path x ≡ steps (copy_free vt g.commits x) (fits volumes_then) (logs_fit logs_then)
  unfolding steps
  is_steps = refl

  pub in_use : copy_free vt g.commits x ≡ false → 5 ≡ code (copied vt g path x)
  unfolding steps
  in_use e = sym (ap code (is_steps ∙ ap (λ (a : Bool). steps a (fits volumes_then) (logs_fit logs_then)) e))

  module _ (free : copy_free vt g.commits x ≡ true) where
    pub no_volume_room : fits volumes_then ≡ false → 19 ≡ code (copied vt g path x)
    unfolding steps
    no_volume_room e = sym (ap code (is_steps ∙ ap₂ (λ (a b : Bool). steps a b (logs_fit logs_then)) free e))

    module _ (room : fits volumes_then ≡ true) where
      past : copied vt g path x ≡ steps true true (logs_fit logs_then)
      past = is_steps ∙ ap₂ (λ (a b : Bool). steps a b (logs_fit logs_then)) free room

      pub no_copy_room : logs_fit logs_then ≡ false → 19 ≡ code (copied vt g path x)
      unfolding steps
      no_copy_room e = sym (ap code (past ∙ ap (steps true true) e))

      pub all_room : logs_fit logs_then ≡ true → 0 ≡ code (copied vt g path x)
      unfolding steps
      all_room e = sym (ap code (past ∙ ap (steps true true) e))

  -- a plan that goes
  pub record Goes : Type 0 where
    pub free : copy_free vt g.commits x ≡ true
    pub volume : fits volumes_then ≡ true
    pub logs : logs_fit logs_then ≡ true
    pub is_made : made (copied vt g path x) ≡ done (some (new_volume x), volumes_then, logs_then)

  pub goes : 0 ≡ code (copied vt g path x) → Goes
  unfolding steps made
  goes e = go (copy_free vt g.commits x) (fits volumes_then) (logs_fit logs_then) refl refl refl (e ∙ ap code is_steps)
    where
      go : (a b c : Bool) → copy_free vt g.commits x ≡ a → fits volumes_then ≡ b → logs_fit logs_then ≡ c → 0 ≡ code (steps a b c) → Goes
      go false b c ea eb ec h = absurd (omega (arith, h))
      go true false c ea eb ec h = absurd (omega (arith, h))
      go true true false ea eb ec h = absurd (omega (arith, h))
      go true true true ea eb ec h = record { free = ea; volume = eb; logs = ec; is_made = ap made (is_steps ∙ ap₂ (λ (a b : Bool). steps a b (logs_fit logs_then)) ea eb ∙ ap (steps true true) ec) }

  -- and one that does not
  pub plan_refuses : (n : ℕ) → n ≡ code (copied vt g path x) → (n ≡ 0 → ⊥) → made (copied vt g path x) ≡ refused n
  unfolding made
  plan_refuses n e z = ap made (refuses (copied vt g path x) n e z)

  -- without the ranges of the local log
  copied_without : copied vt g (those (other_log x.local) path) x ≡ copied vt g path x
  copied_without =
      cases (copy_free vt g.commits x)
      (λ q. ap (λ (l : List Commit). ask (copy_free vt g.commits x) 5 >> (ask (fits volumes_then && logs_fit (write_all g (renumbered x.local l))) 19 >> done (new_volume x, volumes_then, write_all g (renumbered x.local l)))) (path_without g.commits x.local (local_free vt g.commits x q) path))
      (λ q. rw q refl)

-- those that pass a test pass it
those_pass : {A : Type 0} (f : A → Bool) (l : List A) → all f (those f l) ≡ true
unfolding all those
those_pass f [] = refl
those_pass f (x ∷ xs) = cases (f x) (λ q. ap (λ (b : Bool). all f (cond b (x ∷ those f xs) (those f xs))) q ∙ and_both q (those_pass f xs)) (λ q. ap (λ (b : Bool). all f (cond b (x ∷ those f xs) (those f xs))) q ∙ those_pass f xs)

-- the ranges that do not name a log do not name it
pub others_only : (log : Id) (path : List Range) → all (other_log log) (those (other_log log) path) ≡ true
others_only log path = those_pass (other_log log) path

-- ---- the calls

module _ (vs cs ks es : List ℕ) (ok : true ≡ copy_ok vs cs ks es) where
  all_formed : (volumes_formed (volumes_in vs) && logs_formed (logs_in cs ks es)) ≡ true
  all_formed = and_both (formed_rules Layouts.volumes vs (formed vs cs ks es ok).0) (logs_formed_lem cs ks es (all_logs vs cs ks es ok))

module _ (vs cs ks es b : List ℕ) (x : Ids) (n : ℕ) where
  -- 20
  pub not_formed : false ≡ copy_ok vs cs ks es → snapshot_on vs cs ks es b x n ≡ refused 20
  unfolding snapshot_on
  not_formed e = lent_no _ _ (sym e)

  module _ (ok : true ≡ copy_ok vs cs ks es) where
    abbrev rule : Answer Made
    rule = made (from_snapshot (volumes_in vs) (logs_in cs ks es) (snapshot_in b) x)

    in_is : snapshot_on vs cs ks es b x n ≡ (arguments_in b n >> rule)
    unfolding snapshot_on
    in_is = lent_yes _ _ (sym ok)

    -- 1, 2, 3
    pub bad_arguments : (m : ℕ) → m ≡ code (arguments_in b n) → (m ≡ 0 → ⊥) → snapshot_on vs cs ks es b x n ≡ refused m
    bad_arguments m e z = in_is ∙ stops (arguments_in b n) rule m e z

    module _ (h : 0 ≡ code (arguments_in b n)) (s : CodeSnapshot) (says : s ≡ laid (snapshot_in b)) where
      form_passes : snapshot_form (snapshot_in b) ≡ true
      unfolding snapshot_form
      form_passes = le-leb (length (snapshot_in b).path) 8 (in_few b)

      by_path : snapshot_on vs cs ks es b x n ≡ made (copied (volumes_in vs) (logs_in cs ks es) (snapshot_in b).path x)
      unfolding from_snapshot
      by_path =
          in_is ∙ ap (λ (q : Answer (Unit {0})). q >> rule) (passes b n h).done_with
          ∙ rw (all_formed vs cs ks es ok, (passes b n h).lsns, (passes b n h).order, form_passes) refl

      -- the path without the local log's ranges
      pub path_goes : (l : List Range) → l ≡ those (other_log x.local) (map range_says (take s.len s.path)) → made (copied (volumes_in vs) (logs_in cs ks es) l x) ≡ snapshot_on vs cs ks es b x n
      path_goes l e =
          sym (by_path ∙ ap made (sym (copied_without (volumes_in vs) (logs_in cs ks es) (snapshot_in b).path x)
          ∙ ap (λ (p : List Range). copied (volumes_in vs) (logs_in cs ks es) (those (other_log x.local) p) x) (sym (ap (λ q. q.path) (arg_says b s says)))
          ∙ ap (λ (p : List Range). copied (volumes_in vs) (logs_in cs ks es) p x) (sym e)))

module _ (vs cs ks es : List ℕ) (log : Id) (lsn : ℕ) (x : Ids) (n : ℕ) where
  -- 20
  pub ref_not_formed : false ≡ copy_ok vs cs ks es → logref_on vs cs ks es log lsn x n ≡ refused 20
  unfolding logref_on
  ref_not_formed e = lent_no _ _ (sym e)

  module _ (ok : true ≡ copy_ok vs cs ks es) where
    abbrev ref_rule : Answer Made
    ref_rule = from_logref (volumes_in vs) (logs_in cs ks es) log lsn x

    ref_in : logref_on vs cs ks es log lsn x n ≡ (logref_in lsn n >> ref_rule)
    unfolding logref_on
    ref_in = lent_yes _ _ (sym ok)

    ref_asks : (a b : Bool) → counts lsn ≡ a → eqb n 117 ≡ b → logref_on vs cs ks es log lsn x n ≡ ((ask a 1 >> ask b 3) >> ref_rule)
    unfolding logref_in
    ref_asks a b ea eb = ref_in ∙ ap₂ (λ (p q : Bool). (ask p 1 >> ask q 3) >> ref_rule) ea eb

    -- 1
    pub zero_ref : lsn ≡ 0 → logref_on vs cs ks es log lsn x n ≡ refused 1
    zero_ref e = ref_asks false (eqb n 117) (le-ltb 0 lsn (omega (arith, e))) refl

    module _ (one : lsn ≡ 0 → ⊥) where
      -- 3
      pub ref_place : (n ≡ 117 → ⊥) → logref_on vs cs ks es log lsn x n ≡ refused 3
      ref_place h = ref_asks true false (lt-ltb 0 lsn (omega (arith, one))) (ne_eqb n 117 h)

      module _ (size : n ≡ 117) where
        by_commit : (o : Option Commit) → o ≡ get_commit (commits_in cs) log lsn → logref_on vs cs ks es log lsn x n ≡ from_commit (volumes_in vs) (logs_in cs ks es) log lsn x o
        unfolding from_logref
        by_commit o e =
            ref_asks true true (lt-ltb 0 lsn (omega (arith, one))) (eq-eqb n 117 size)
            ∙ rw (all_formed vs cs ks es ok, lt-ltb 0 lsn (omega (arith, one)), ← e) refl

        -- nothing where the commit is not stored
        pub not_stored : none ≡ get_commit (commits_in cs) log lsn → logref_on vs cs ks es log lsn x n ≡ done (none, volumes_in vs, logs_in cs ks es)
        not_stored e = by_commit none e

        -- its log up to it, without the local log's ranges
        pub ref_goes : (c : Commit) → some c ≡ get_commit (commits_in cs) log lsn → (l : List Range) → l ≡ those (other_log x.local) (up_to log lsn ∷ []) → made (copied (volumes_in vs) (logs_in cs ks es) l x) ≡ logref_on vs cs ks es log lsn x n
        unfolding made
        ref_goes c e l el =
            ap (λ (p : List Range). made (copied (volumes_in vs) (logs_in cs ks es) p x)) el
            ∙ ap made (copied_without (volumes_in vs) (logs_in cs ks es) (up_to log lsn ∷ []) x)
            ∙ sym (by_commit (some c) e)
