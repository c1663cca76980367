-- What a save goes by: each test that fails is the plan's number, in the order 4, 7, 18, 5; where none fails it is the volume and the LSN. And what a plan that goes through says of both.
use Rattle.std.proofs.Common.{◌≡◌, ℕ, ◌+◌, Bool, true, false, not, ◌||◌, eqb, ltb, List, sym, refl, ap, ◌∙◌, eq-eqb, ne_eqb}
use mathlib.Core.Option.{Option, none, some, map}
use borrow.Author.Tests.{not-true}
use Rattle.basics.specs.Answers.{Answer, refused, done, ask, need, ◌>>◌, ◌>>=◌}
use Rattle.basics.specs.Numbers.{last_lsn}
use Rattle.rules.specs.Lists.{any}
use Rattle.rules.specs.Records.{Id, Commit, Present, Volume, Snapshot}
use Rattle.rules.specs.Forms.{lsn_form, volume_form}
use Rattle.rules.specs.Tables.{Table, get_volume, latest_lsn, volumes_formed}
use Rattle.rules.specs.Snapshots.{is_latest}
use Rattle.rules.specs.Save.{lsn_after, has_sid, sid_in_use}
use Rattle.rules.proofs.AnswerLaws.{done_same, refused_done, asked, needed, gotten}
use Rattle.rules.proofs.TableLaws.{or_none}
use Rattle.rules.proofs.Kept.{volume_form_lem, next_above}
use Rattle.layout.specs.Tables.{volumes_in}
use Rattle.rows.specs.Lookups.{nth}
use Rattle.volume.specs.Volumes.{volume_says}
use Rattle.volume.specs.Snapshots.{snapshot_says, laid}
use Rattle.volume.specs.declared.snapshot.Snapshot.{Snapshot as CodeSnapshot}
use Rattle.arguments.specs.Snapshots.{snapshot_in}
use Rattle.arguments.proofs.SnapshotLaws.{arg_says}
use Rattle.volume.specs.declared.volume.Volume.{Volume as CodeVolume}
use Rattle.volumebytes.specs.Laid.{volume_laid}
use Rattle.volumebytes.proofs.RoundLaws.{says_laid}
use Rattle.volumecalls.proofs.Ends.{made_of}
use Rattle.presence.specs.Pages.{of_segment}
use Rattle.savecalls.specs.Saving.{planned, plan_says}
use Rattle.savecalls.specs.declared.Plan.{Plan}

-- the volume that was read at the place that was found
pub found_says_lem : (t : List ℕ) (vid : Id) (i : ℕ) (x : CodeVolume) → nth i (volumes_in t).rows ≡ get_volume (volumes_in t) vid → map volume_laid (nth i (volumes_in t).rows) ≡ some x
    → get_volume (volumes_in t) vid ≡ some (volume_says x)
found_says_lem t vid i x here read =
    made_of volume_laid (nth i (volumes_in t).rows) x read (λ v e q. sym here ∙ e ∙ ap some (sym (says_laid v) ∙ ap volume_says q))

-- ---- what a plan by value says

pub says_no : (p : Plan) (n : ℕ) → p.code ≡ n → (n ≡ 0 → ⊥) → plan_says p ≡ refused n
says_no p n e z = rw (ne_eqb p.code 0 (λ q. z (sym e ∙ q)), e)

pub says_yes : (p : Plan) → p.code ≡ 0 → plan_says p ≡ done (volume_says p.volume, p.lsn.0)
says_yes p e = rw (eq-eqb p.code 0 e)

-- the plan of the value that a snapshot in bytes became
pub planned_is : (vs : Table Volume) (cs : Table Commit) (ps : Table Present) (vid sid : Id) (b : List ℕ) (s : CodeSnapshot) → s ≡ laid (snapshot_in b) → (p : Plan)
    → plan_says p ≡ planned vs cs ps vid (snapshot_says s) sid → planned vs cs ps vid (snapshot_in b) sid ≡ plan_says p
planned_is vs cs ps vid sid b s e p h = sym (h ∙ ap (λ (x : Snapshot). planned vs cs ps vid x sid) (arg_says b s e))

-- ---- the tests

-- the only number of the LSN
no_lsn_left : (o : Option ℕ) (n : ℕ) → refused n ≡ lsn_after o → refused 18 ≡ lsn_after o
unfolding lsn_after
no_lsn_left none n e = refused_done e
no_lsn_left (some m) n e = go (ltb m last_lsn) e
  where
    go : (b : Bool) → refused n ≡ (ask b 18 >> done (m + 1)) → refused 18 ≡ (ask b 18 >> done (m + 1))
    go true e = refused_done e
    go false e = refl

module _ (vs : Table Volume) (cs : Table Commit) (ps : Table Present) (vid : Id) (s : Snapshot) (sid : Id) where
  -- 4
  pub no_volume : get_volume vs vid ≡ none → refused 4 ≡ planned vs cs ps vid s sid
  unfolding planned
  no_volume e = rw e

  module _ (v : Volume) (is : get_volume vs vid ≡ some v) where
    after_7 : Volume → Answer (Volume × ℕ)
    after_7 w = lsn_after (latest_lsn cs w.local) >>= (λ n. ask (not (sid_in_use cs ps sid)) 5 >> done (w, n))

    found : planned vs cs ps vid s sid ≡ (ask (is_latest cs v s) 7 >> after_7 v)
    unfolding planned after_7
    found = ap (λ (o : Option Volume). need o 4 >>= (λ w. ask (is_latest cs w s) 7 >> (lsn_after (latest_lsn cs w.local) >>= (λ n. ask (not (sid_in_use cs ps sid)) 5 >> done (w, n))))) is

    -- 7
    pub not_latest : false ≡ is_latest cs v s → refused 7 ≡ planned vs cs ps vid s sid
    not_latest e = ap (λ (b : Bool). ask b 7 >> after_7 v) e ∙ sym found

    module _ (current : true ≡ is_latest cs v s) where
      by_lsn : planned vs cs ps vid s sid ≡ after_7 v
      by_lsn = found ∙ ap (λ (b : Bool). ask b 7 >> after_7 v) (sym current)

      -- 18
      pub no_lsn : (n : ℕ) → refused n ≡ lsn_after (latest_lsn cs v.local) → refused 18 ≡ planned vs cs ps vid s sid
      unfolding after_7
      no_lsn n e = ap (λ (a : Answer ℕ). a >>= (λ m. ask (not (sid_in_use cs ps sid)) 5 >> done (v, m))) (no_lsn_left (latest_lsn cs v.local) n e) ∙ sym by_lsn

      module _ (lsn : ℕ) (next : done lsn ≡ lsn_after (latest_lsn cs v.local)) where
        by_use : planned vs cs ps vid s sid ≡ (ask (not (sid_in_use cs ps sid)) 5 >> done (v, lsn))
        unfolding after_7
        by_use = by_lsn ∙ ap (λ (a : Answer ℕ). a >>= (λ m. ask (not (sid_in_use cs ps sid)) 5 >> done (v, m))) (sym next)

        -- 5
        pub used : true ≡ sid_in_use cs ps sid → refused 5 ≡ planned vs cs ps vid s sid
        used e = ap (λ (b : Bool). ask (not b) 5 >> done (v, lsn)) e ∙ sym by_use

        pub unused : false ≡ sid_in_use cs ps sid → done (v, lsn) ≡ planned vs cs ps vid s sid
        unused e = ap (λ (b : Bool). ask (not b) 5 >> done (v, lsn)) e ∙ sym by_use

  -- ---- a plan that goes through

  pub record Goes (v : Volume) (lsn : ℕ) : Type 0 where
    pub form : volume_form v ≡ true
    pub above : lsn_form lsn ≡ true
    pub free : any (of_segment sid) ps.rows ≡ false

  pub goes : volumes_formed vs ≡ true → (v : Volume) (lsn : ℕ) → planned vs cs ps vid s sid ≡ done (v, lsn) → Goes v lsn
  unfolding planned sid_in_use
  goes f v lsn e =
      needed (get_volume vs vid) 4 _ e λ w is e1.
      asked (is_latest cs w s) 7 _ e1 λ a e2.
      gotten (lsn_after (latest_lsn cs w.local)) _ e2 λ m nx e3.
      asked (not (sid_in_use cs ps sid)) 5 _ e3 λ u e4.
      let same : (w, m) ≡ (v, lsn) = done_same e4 in
      record {
        form = ap volume_form (sym (ap (λ (x : Volume × ℕ). x.0) same)) ∙ volume_form_lem vs vid w f is;
        above = ap lsn_form (sym (ap (λ (x : Volume × ℕ). x.1) same)) ∙ (next_above (latest_lsn cs w.local) m nx).0;
        free = (or_none (any (λ c. has_sid sid c.segment) cs.rows) (any (of_segment sid) ps.rows) (not-true _ u)).1;
      }
