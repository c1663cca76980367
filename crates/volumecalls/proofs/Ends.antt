-- The ends of the calls on volumes: for each way out of the code, the rule's answer. The tables are formed, so the rule's 20 passes; what is left is the volume that the
-- lookup found, or that there is none.
use Rattle.std.proofs.Common.{◌≡◌, ℕ, true, List, ◌∷◌, sym, refl, ap, ◌∙◌, Result, Ok, Err, None}
use mathlib.Core.Option.{Option, none, some, map}
use Rattle.basics.specs.Answers.{Answer, done, need, ◌>>=◌}
use Rattle.basics.specs.Orders.{bytes}
use Rattle.basics.proofs.OrderLaws.{bytes_lawful}
use Rattle.rules.specs.Lists.{is_some}
use Rattle.rules.specs.Records.{Id, Volume, volume_key}
use Rattle.rules.specs.Forms as Forms
use Rattle.rules.specs.Tables.{Table, store, remove, same_id, get_volume, volumes_formed}
use Rattle.rules.specs.Reads.{volume_read, volume_exists, volume_delete}
use Rattle.rules.specs.Push.{with_pending, drop_pending}
use Rattle.rules.proofs.TableLaws.{option_same, missing, get_some, all_at}
use Rattle.rules.proofs.Kept.{pending_form_lem}
use Rattle.table.specs.Records.{spot}
use Rattle.table.specs.Table.{recs}
use Rattle.layout.specs.Lent.{lent}
use Rattle.layout.specs.Tables.{volumes_in, volumes_ok}
use Rattle.layout.proofs.LentLaws.{past_20}
use Rattle.rows.specs.Lookups.{nth, at_spot}
use Rattle.rows.proofs.Rows.{formed_rules, formed_forms}
use Rattle.rows.proofs.Tables.{volumes}
use Rattle.volume.specs.Volumes.{volume_says}
use Rattle.volume.specs.declared.volume.Volume.{Volume as CodeVolume}
use Rattle.volumebytes.specs.Laid.{volume_laid}
use Rattle.volumebytes.proofs.RoundLaws.{says_laid}

-- a value that was made of what is there
pub made_of : {A B P : Type 0} (f : A → B) (o : Option A) (b : B) → map f o ≡ some b → ((a : A) → o ≡ some a → f a ≡ b → P) → P
made_of f none b e k = absurd (missing refl e)
made_of f (some a) b e k = k a refl (option_same e)

module _ (t : List ℕ) (vid : Id) (ok : volumes_ok t ≡ true) where
  -- the volume at the spot that was found
  pub here : (o : Result ℕ ℕ) (i : ℕ) → at_spot o (volumes_in t).rows ≡ get_volume (volumes_in t) vid → o ≡ Ok i → nth i (volumes_in t).rows ≡ get_volume (volumes_in t) vid
  here o i e a = ap (λ (p : Result ℕ ℕ). at_spot p (volumes_in t).rows) (sym a) ∙ e

  -- in a gap there is none
  pub nowhere : (o : Result ℕ ℕ) (i : ℕ) → at_spot o (volumes_in t).rows ≡ get_volume (volumes_in t) vid → o ≡ Err i → get_volume (volumes_in t) vid ≡ none
  nowhere o i e a = sym e ∙ ap (λ (p : Result ℕ ℕ). at_spot p (volumes_in t).rows) a

  formed : volumes_formed (volumes_in t) ≡ true
  formed = formed_rules volumes t ok

  pub read_is : lent (volumes_ok t) (volume_read (volumes_in t) vid) ≡ need (get_volume (volumes_in t) vid) 4
  unfolding volume_read
  read_is = past_20 (volumes_ok t) (volumes_formed (volumes_in t)) (need (get_volume (volumes_in t) vid) 4) ok formed

  pub exists_is : lent (volumes_ok t) (volume_exists (volumes_in t) vid) ≡ done (is_some (get_volume (volumes_in t) vid))
  unfolding volume_exists
  exists_is = past_20 (volumes_ok t) (volumes_formed (volumes_in t)) (done (is_some (get_volume (volumes_in t) vid))) ok formed

  pub delete_is : lent (volumes_ok t) (volume_delete (volumes_in t) vid) ≡ done (remove (λ v. same_id vid v.vid) (volumes_in t))
  unfolding volume_delete
  delete_is = past_20 (volumes_ok t) (volumes_formed (volumes_in t)) (done (remove (λ v. same_id vid v.vid) (volumes_in t))) ok formed

  dropped : Option Volume → Answer (Table Volume)
  dropped o = need o 4 >>= (λ v. done (store volume_key bytes (with_pending v none) (volumes_in t)))

  pub drop_is : lent (volumes_ok t) (drop_pending (volumes_in t) vid) ≡ (need (get_volume (volumes_in t) vid) 4 >>= (λ v. done (store volume_key bytes (with_pending v none) (volumes_in t))))
  unfolding drop_pending dropped
  drop_is = past_20 (volumes_ok t) (volumes_formed (volumes_in t)) (dropped (get_volume (volumes_in t) vid)) ok formed

  -- a volume that was found is in form, and has the identifier
  pub found_form : (v : Volume) → get_volume (volumes_in t) vid ≡ some v → Forms.volume_form v ≡ true
  found_form v e = all_at Forms.volume_form (volumes_in t).rows (formed_forms volumes t ok) (get_some volume_key bytes bytes_lawful vid (volumes_in t).rows e).0

  pub found_vid : (v : Volume) → get_volume (volumes_in t) vid ≡ some v → vid ≡ v.vid
  found_vid v e = (get_some volume_key bytes bytes_lawful vid (volumes_in t).rows e).1

-- ---- drop: the volume x by value that was read at place i, and y, x without its pending commit

module _ (t : List ℕ) (vid : Id) (ok : volumes_ok t ≡ true) (o : Result ℕ ℕ) (i : ℕ) (place : o ≡ spot 17 (0 ∷ vid) (recs 117 t))
    (says : at_spot o (volumes_in t).rows ≡ get_volume (volumes_in t) vid) (hit : o ≡ Ok i)
    (x y : CodeVolume) (read : map volume_laid (nth i (volumes_in t).rows) ≡ some x)
    (made : y ≡ record { vid = x.vid; local = x.local; remote = x.remote; sync = x.sync; pending = None }) where
  -- y says the volume that was found, without its pending commit
  record Drops : Type 0 where
    pub old : Volume
    pub found : get_volume (volumes_in t) vid ≡ some old
    pub tells : volume_says y ≡ with_pending old none
    pub same : vid ≡ y.vid

  drops : Drops
  drops =
      made_of volume_laid (nth i (volumes_in t).rows) x read (λ v e q.
      let there = sym (here t vid ok o i says hit) ∙ e in
      record {
        old = v;
        found = there;
        tells = ap volume_says made ∙ ap (λ (z : CodeVolume). with_pending (volume_says z) none) (sym q) ∙ ap (λ (w : Volume). with_pending w none) (says_laid v);
        same = found_vid t vid ok v there ∙ ap (λ (z : CodeVolume). z.vid) q ∙ sym (ap (λ (z : CodeVolume). z.vid) made);
      })

  pub drop_ready : ((volumes_ok t ≡ true) × (Forms.volume_form (volume_says y) ≡ true)) × (spot 17 (0 ∷ y.vid) (recs 117 t) ≡ Ok i)
  drop_ready = (
    (ok, ap Forms.volume_form drops.tells ∙ pending_form_lem drops.old none (found_form t vid ok drops.old drops.found) refl),
    ap (λ (z : List ℕ). spot 17 (0 ∷ z) (recs 117 t)) (sym drops.same) ∙ sym place ∙ hit,
  )

  pub drop_done : lent (volumes_ok t) (drop_pending (volumes_in t) vid) ≡ done (store volume_key bytes (volume_says y) (volumes_in t))
  drop_done =
      drop_is t vid ok
      ∙ ap (λ (w : Option Volume). need w 4 >>= (λ v. done (store volume_key bytes (with_pending v none) (volumes_in t)))) drops.found
      ∙ ap (λ (v : Volume). done (store volume_key bytes v (volumes_in t))) (sym drops.tells)
