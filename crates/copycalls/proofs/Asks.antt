-- What the calls ask of lent bytes: of the tables, one after another; of the arguments, in the order 1, 2, 3; of the identifiers, one after another. Where all is well each test holds.
use Rattle.std.proofs.Common.{◌≡◌, ℕ, ◌<◌, Bool, true, false, not, ◌&&◌, eqb, List, length, sym, refl, ap, ◌∙◌, ap₂, arith, eq-eqb, ne_eqb, eqb-true, None}
use mathlib.Core.Option.{Option, none, some}
use Rattle.basics.specs.Answers.{Answer, refused, done, code, ask, ◌>>◌}
use Rattle.rules.specs.Lists.{is_none}
use Rattle.rules.specs.Records.{Id, Volume, Commit}
use Rattle.rules.specs.Forms.{id_form, volume_form}
use Rattle.rules.specs.Tables.{Table, same_id, get_volume, latest}
use Rattle.rules.specs.Arguments.{snapshot_lsns, snapshot_order}
use Rattle.rules.specs.Open.{Ids}
use Rattle.rules.specs.Copies.{copy_free, new_volume}
use Rattle.rules.proofs.TableLaws.{and_fst, and_snd, and_both, none_of}
use Rattle.layout.specs.Tables.{volumes_ok, commits_ok, checkpoints_ok, index_ok}
use Rattle.volume.specs.Snapshots.{snapshot_says, laid}
use Rattle.volume.specs.declared.snapshot.Snapshot.{Snapshot as CodeSnapshot}
use Rattle.volume.specs.Volumes.{volume_says}
use Rattle.volume.specs.declared.volume.Volume.{Volume as CodeVolume}
use Rattle.arguments.specs.Snapshots.{snapshot_in, snapshot_formed}
use Rattle.arguments.proofs.SnapshotLaws.{arg_says}
use Rattle.writecalls.specs.Written.{logs_ok}
use Rattle.writecalls.proofs.Formed.{each_ok}
use Rattle.copycalls.specs.Making.{ids, copy_ok, arguments_in}

-- ---- 20

module _ (vs cs ks es : List ℕ) where
  all_volumes : true ≡ copy_ok vs cs ks es → volumes_ok vs ≡ true
  unfolding copy_ok
  all_volumes e = and_fst (volumes_ok vs) (logs_ok cs ks es) (sym e)

  pub all_logs : true ≡ copy_ok vs cs ks es → logs_ok cs ks es ≡ true
  unfolding copy_ok
  all_logs e = and_snd (volumes_ok vs) (logs_ok cs ks es) (sym e)

  -- all four
  pub formed : true ≡ copy_ok vs cs ks es → (volumes_ok vs ≡ true) × (commits_ok cs ≡ true) × (checkpoints_ok ks ≡ true) × (index_ok es ≡ true)
  formed e =
      let l = each_ok cs ks es (all_logs e) in
      (all_volumes e, l.0, l.1, l.2)

-- ---- 1, 2, 3

chain : Bool → Bool → Bool → Bool → Answer (Unit {0})
chain a b c d = ask a 1 >> (ask b 2 >> (ask c 3 >> ask d 3))

-- all of them pass
pub record Passes (b : List ℕ) (n : ℕ) : Type 0 where
  pub lsns : snapshot_lsns (snapshot_in b) ≡ true
  pub order : snapshot_order (snapshot_in b) ≡ true
  pub place : n ≡ 117
  pub done_with : arguments_in b n ≡ done tt

module _ (b : List ℕ) (n : ℕ) where
  is_chain : arguments_in b n ≡ chain (snapshot_lsns (snapshot_in b)) (snapshot_order (snapshot_in b)) (snapshot_formed b) (eqb n 117)
  unfolding arguments_in chain
  is_chain = refl

  module _ (s : CodeSnapshot) (es : s ≡ laid (snapshot_in b)) where
    lsns_say : (t : Bool) → t ≡ snapshot_lsns (snapshot_says s) → snapshot_lsns (snapshot_in b) ≡ t
    lsns_say t e = ap snapshot_lsns (sym (arg_says b s es)) ∙ sym e

    order_says : (t : Bool) → t ≡ snapshot_order (snapshot_says s) → snapshot_order (snapshot_in b) ≡ t
    order_says t e = ap snapshot_order (sym (arg_says b s es)) ∙ sym e

    pub zero_lsn : false ≡ snapshot_lsns (snapshot_says s) → 1 ≡ code (arguments_in b n)
    unfolding chain
    zero_lsn e = sym (ap code (is_chain ∙ ap (λ (x : Bool). chain x (snapshot_order (snapshot_in b)) (snapshot_formed b) (eqb n 117)) (lsns_say false e)))

    module _ (one : true ≡ snapshot_lsns (snapshot_says s)) where
      pub start_above : false ≡ snapshot_order (snapshot_says s) → 2 ≡ code (arguments_in b n)
      unfolding chain
      start_above e = sym (ap code (is_chain ∙ ap₂ (λ (x y : Bool). chain x y (snapshot_formed b) (eqb n 117)) (lsns_say true one) (order_says false e)))

      module _ (two : true ≡ snapshot_order (snapshot_says s)) where
        past : arguments_in b n ≡ chain true true (snapshot_formed b) (eqb n 117)
        past = is_chain ∙ ap₂ (λ (x y : Bool). chain x y (snapshot_formed b) (eqb n 117)) (lsns_say true one) (order_says true two)

        pub no_snapshot : false ≡ snapshot_formed b → 3 ≡ code (arguments_in b n)
        unfolding chain
        no_snapshot e = sym (ap code (past ∙ ap (λ (x : Bool). chain true true x (eqb n 117)) (sym e)))

        pub no_place : true ≡ snapshot_formed b → (n ≡ 117 → ⊥) → 3 ≡ code (arguments_in b n)
        unfolding chain
        no_place e h = sym (ap code (past ∙ ap₂ (λ (x y : Bool). chain true true x y) (sym e) (ne_eqb n 117 h)))

        pub all_good : true ≡ snapshot_formed b → n ≡ 117 → 0 ≡ code (arguments_in b n)
        unfolding chain
        all_good e h = sym (ap code (past ∙ ap₂ (λ (x y : Bool). chain true true x y) (sym e) (eq-eqb n 117 h)))

  pub passes : 0 ≡ code (arguments_in b n) → Passes b n
  unfolding chain
  passes e = go (snapshot_lsns (snapshot_in b)) (snapshot_order (snapshot_in b)) (snapshot_formed b) (eqb n 117) refl refl refl refl (e ∙ ap code is_chain)
    where
      go : (x y z w : Bool) → snapshot_lsns (snapshot_in b) ≡ x → snapshot_order (snapshot_in b) ≡ y → snapshot_formed b ≡ z → eqb n 117 ≡ w → 0 ≡ code (chain x y z w) → Passes b n
      go false y z w ex ey ez ew h = absurd (omega (arith, h))
      go true false z w ex ey ez ew h = absurd (omega (arith, h))
      go true true false w ex ey ez ew h = absurd (omega (arith, h))
      go true true true false ex ey ez ew h = absurd (omega (arith, h))
      go true true true true ex ey ez ew h = record {
        lsns = ex;
        order = ey;
        place = eqb-true n 117 ew;
        done_with = is_chain ∙ ap₂ (λ (x y : Bool). chain x y (snapshot_formed b) (eqb n 117)) ex ey ∙ ap₂ (λ (x y : Bool). chain true true x y) ez ew;
      }

-- ---- 5

module _ (vs : Table Volume) (cs : Table Commit) (x : Ids) where
  pub vid_used : is_none (get_volume vs x.vid) ≡ false → false ≡ copy_free vs cs x
  unfolding copy_free
  vid_used e = sym (ap (λ (b : Bool). b && is_none (latest cs x.local) && is_none (latest cs x.remote) && not (same_id x.local x.remote)) e)

  module _ (v : is_none (get_volume vs x.vid) ≡ true) where
    pub local_used : is_none (latest cs x.local) ≡ false → false ≡ copy_free vs cs x
    unfolding copy_free
    local_used e = sym (ap₂ (λ (a b : Bool). a && b && is_none (latest cs x.remote) && not (same_id x.local x.remote)) v e)

    module _ (l : is_none (latest cs x.local) ≡ true) where
      pub remote_used : is_none (latest cs x.remote) ≡ false → false ≡ copy_free vs cs x
      unfolding copy_free
      remote_used e =
          sym (ap₂ (λ (a b : Bool). a && b && is_none (latest cs x.remote) && not (same_id x.local x.remote)) v l ∙ ap (λ (c : Bool). c && not (same_id x.local x.remote)) e)

      pub two_logs : is_none (latest cs x.remote) ≡ true → not (same_id x.local x.remote) ≡ copy_free vs cs x
      unfolding copy_free
      two_logs e =
          sym (ap₂ (λ (a b : Bool). a && b && is_none (latest cs x.remote) && not (same_id x.local x.remote)) v l ∙ ap (λ (c : Bool). c && not (same_id x.local x.remote)) e)

  -- where all are free the local log has no commit
  pub local_free : copy_free vs cs x ≡ true → latest cs x.local ≡ none
  unfolding copy_free
  local_free e = let h : is_none (latest cs x.local) ≡ true = search (and_fst, and_snd) in none_of (latest cs x.local) h

-- ---- the new volume

pub new_good : (vid local remote : Id) (r : CodeVolume) → r ≡ record { vid = vid; local = local; remote = remote; sync = None; pending = None }
    → id_form vid ≡ true → id_form local ≡ true → id_form remote ≡ true → (volume_says r ≡ new_volume (ids vid local remote)) × (volume_form (volume_says r) ≡ true)
unfolding volume_form
new_good vid local remote r e a b c = (ap volume_says e, ap (λ (v : CodeVolume). volume_form (volume_says v)) e ∙ and_both (and_both (and_both (and_both a b) c) refl) refl)
