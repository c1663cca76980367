-- The ends of open: for each way out of the code, the rule's answer. An asked volume that is stored goes first (6, or the answer), then what stands in for what was not asked
-- (5), then room (19). A log is named by a commit just where it has a latest one. A new volume is in form, since its identifiers are and a log's latest LSN is.
use Rattle.std.proofs.Common.{◌≡◌, ℕ, zero, suc, ◌+◌, ◌<◌, ◌≤◌, Bool, true, false, ◌&&◌, ◌||◌, eqb, List, [], ◌∷◌, length, drop, sym, refl, ap, ◌∙◌, subst, ap₂, add-one, arith, drop_of_length-le, eq-eqb, ne_eqb, Result, Ok, Err, Option as Maybe, None}
use mathlib.Core.Option.{Option, none, some, map}
use Rattle.volume.specs.declared.volume.SyncPoint.{SyncPoint as CodePoint}
use Rattle.octets.specs.Bytes.{AreBytes}
use Rattle.basics.specs.Answers.{Answer, refused, done, code, ask, ◌>>◌}
use Rattle.basics.specs.Orders.{bytes}
use Rattle.rules.specs.Lists.{any, is_some}
use Rattle.rules.specs.Records.{Id, Commit, SyncPoint, Volume, volume_key}
use Rattle.rules.specs.Forms.{id_form, volume_form}
use Rattle.rules.specs.Tables.{Table, fits, store, same_id, latest, latest_lsn}
use Rattle.rules.specs.Open.{Ids, Asked, agrees_on, or_spare, log_named, sync_at, asked_volume, opened_new, opened, open_volume}
use Rattle.rules.proofs.TableLaws.{option_same, missing, and_both, first_any}
use Rattle.rules.proofs.Kept.{latest_form, sync_at_form}
use Rattle.table.specs.Table.{count_of}
use Rattle.layout.specs.Lent.{lent, after}
use Rattle.layout.specs.Records.{volume_bytes}
use Rattle.layout.specs.Tables.{volumes_in, volumes_ok, commits_in, commits_ok, laid_over}
use Rattle.layout.proofs.LentLaws.{lent_yes}
use Rattle.rows.specs.Lookups.{nth, at_spot}
use Rattle.rows.proofs.Rows.{formed_rules, formed_forms, length_rows, laid_same}
use Rattle.rows.proofs.Tables.{volumes, commits}
use Rattle.volume.specs.Volumes.{sync_says, volume_says}
use Rattle.volume.specs.declared.volume.Volume.{Volume as CodeVolume}
use Rattle.volumebytes.specs.Laid.{volume_laid}
use Rattle.volumebytes.proofs.RoundLaws.{says_laid}
use Rattle.volumecalls.proofs.Ends.{made_of}
use Rattle.opencalls.specs.Opens.{open_in, out_after, new_volume, all_free, AskedAt, Planned}
use Rattle.opencalls.specs.declared.Opening.{Opening}
use Rattle.opencalls.specs.declared.Opening.TheVariants as Opening

-- ---- the new volume

-- what the code makes is the new volume, in form
pub new_good : (u : List ℕ) → commits_ok u ≡ true → (a : Asked) (x : Ids) (id here there : Id) (s : Maybe CodePoint) (r : CodeVolume)
    → id ≡ or_spare a.vid x.vid → here ≡ or_spare a.local x.local → there ≡ or_spare a.remote x.remote → sync_says s ≡ sync_at (latest_lsn (commits_in u) there)
    → r ≡ record { vid = id; local = here; remote = there; sync = s; pending = None }
    → id_form id ≡ true → id_form here ≡ true → id_form there ≡ true
    → (volume_says r ≡ new_volume (commits_in u) a x) × (volume_form (volume_says r) ≡ true)
unfolding volume_form
new_good u ok a x id here there s r ei el er es e fi fl fr =
    let says : volume_says r ≡ record { vid = id; local = here; remote = there; sync = sync_at (latest_lsn (commits_in u) there); pending = none }
    = ap volume_says e ∙ ap (λ (o : Option SyncPoint). record { vid = id; local = here; remote = there; sync = o; pending = none }) es in (
      says
          ∙ ap₂ (λ (i l : Id). record { vid = i; local = l; remote = there; sync = sync_at (latest_lsn (commits_in u) there); pending = none }) ei el
          ∙ ap (λ (z : Id). record { vid = or_spare a.vid x.vid; local = or_spare a.local x.local; remote = z; sync = sync_at (latest_lsn (commits_in u) z); pending = none }) er,
      ap volume_form says ∙ and_both (and_both (and_both (and_both fi fl) fr) (sync_at_form (latest_lsn (commits_in u) there) (latest_form (commits_in u) there (formed_forms commits u ok)))) refl,
    )

-- ---- a stored volume names the log

nth_drop : {A : Type 0} (l : List A) (i : ℕ) (x : A) → nth i l ≡ some x → drop i l ≡ x ∷ drop (suc i) l
nth_drop [] i x e = absurd (missing refl e)
nth_drop (y ∷ l) zero x e = ap (λ z. z ∷ l) (option_same e)
nth_drop (y ∷ l) (suc i) x e = nth_drop l i x e

module _ (t : List ℕ) (f : Volume → Bool) (i : ℕ) where
  module _ (x : CodeVolume) (read : map volume_laid (nth i (volumes_in t).rows) ≡ some x) where
    names_step : any f (drop i (volumes_in t).rows) ≡ (f (volume_says x) || any f (drop (suc i) (volumes_in t).rows))
    unfolding any
    names_step =
        made_of volume_laid (nth i (volumes_in t).rows) x read (λ v e q.
        ap (any f) (nth_drop (volumes_in t).rows i v e) ∙ ap (λ (w : Volume). f w || any f (drop (suc i) (volumes_in t).rows)) (sym (says_laid v) ∙ ap volume_says q))

    -- the volume at place i does
    pub names_here : f (volume_says x) ≡ true → true ≡ any f (drop i (volumes_in t).rows)
    names_here e = sym (names_step ∙ ap (λ (b : Bool). b || any f (drop (suc i) (volumes_in t).rows)) e)

    -- it does not: the ones behind it decide
    pub names_later : f (volume_says x) ≡ false → any f (drop i (volumes_in t).rows) ≡ any f (drop (i + 1) (volumes_in t).rows)
    names_later e = names_step ∙ ap (λ (b : Bool). b || any f (drop (suc i) (volumes_in t).rows)) e ∙ ap (λ (n : ℕ). any f (drop n (volumes_in t).rows)) (sym (add-one i))

  -- none is left
  pub names_none : count_of t ≤ i → false ≡ any f (drop i (volumes_in t).rows)
  unfolding any
  names_none h = let k : length (volumes_in t).rows ≤ i = omega (arith, length_rows volumes t) in sym (ap (any f) (drop_of_length-le (volumes_in t).rows k))

-- ---- 5

-- by the volumes first
pub named_volume : (vs : Table Volume) (cs : Table Commit) (log : Id) → any (λ v. same_id log v.local || same_id log v.remote) vs.rows ≡ true → true ≡ log_named vs cs log
unfolding log_named
named_volume vs cs log e = ap (λ (b : Bool). b || any (λ c. same_id log c.log) cs.rows) (sym e)

-- then by the log's latest commit
pub named_commit : (vs : Table Volume) (cs : Table Commit) (log : Id) → any (λ v. same_id log v.local || same_id log v.remote) vs.rows ≡ false → (o : Option Commit) → o ≡ latest cs log
    → is_some o ≡ log_named vs cs log
unfolding log_named
named_commit vs cs log e o h =
    ap is_some h ∙ sym (first_any (λ c. same_id log c.log) cs.rows) ∙ ap (λ (b : Bool). b || any (λ c. same_id log c.log) cs.rows) (sym e)

-- the three, one after the other
module _ (a b c : Bool) where
  pub first_no : a ≡ false → false ≡ (a && b && c)
  first_no e = ap (λ (x : Bool). x && b && c) (sym e)

  pub second_no : a ≡ true → b ≡ false → false ≡ (a && b && c)
  second_no e h = ap (λ (x : Bool). x && c) (sym h) ∙ ap (λ (x : Bool). x && b && c) (sym e)

  pub third_is : a ≡ true → b ≡ true → (r : Bool) → r ≡ c → r ≡ (a && b && c)
  third_is e h r q = q ∙ ap (λ (x : Bool). x && c) (sym h) ∙ ap (λ (x : Bool). x && b && c) (sym e)

-- ---- the plan

module _ (t : List ℕ) (cs : Table Commit) (a : Asked) (x : Ids) where
  abbrev news : Bool → Bool → Answer (Volume × Table Volume)
  news free room = ask free 5 >> (ask room 19 >> done (new_volume cs a x, store volume_key bytes (new_volume cs a x) (volumes_in t)))

  -- 5
  pub in_use : all_free (volumes_in t) cs a x ≡ false → Planned t cs a x (opened_new (volumes_in t) cs a x) (Opening.Refused 5)
  in_use e = ap (λ (b : Bool). news b (fits (store volume_key bytes (new_volume cs a x) (volumes_in t)))) e

  module _ (free : all_free (volumes_in t) cs a x ≡ true) (v : Volume) (says : v ≡ new_volume cs a x) where
    by_room : (r : Bool) → fits (store volume_key bytes v (volumes_in t)) ≡ r → opened_new (volumes_in t) cs a x ≡ news true r
    by_room r e = ap₂ news free (ap (λ (w : Volume). fits (store volume_key bytes w (volumes_in t))) (sym says) ∙ e)

    -- 19
    pub no_room : fits (store volume_key bytes v (volumes_in t)) ≡ false → Planned t cs a x (opened_new (volumes_in t) cs a x) (Opening.Refused 19)
    no_room e = by_room false e

    -- the new volume
    pub new_goes : fits (store volume_key bytes v (volumes_in t)) ≡ true → Planned t cs a x (opened_new (volumes_in t) cs a x) Opening.New
    new_goes e = (ap (λ (w : Volume). fits (store volume_key bytes w (volumes_in t))) (sym says) ∙ e, by_room true e)

  module _ (o : Option Volume) (p : Result ℕ ℕ) (spot : AskedAt t o p) where
    -- no stored volume was asked
    pub not_stored : (i : ℕ) → p ≡ Err i → (r : Opening) → Planned t cs a x (opened_new (volumes_in t) cs a x) r → Planned t cs a x (opened (volumes_in t) cs a x o) r
    not_stored i e r h =
        subst (λ (w : Option Volume). Planned t cs a x (opened (volumes_in t) cs a x w) r) (ap (λ (q : Result ℕ ℕ). at_spot q (volumes_in t).rows) (sym e) ∙ spot.says) h

    module _ (i : ℕ) (e : p ≡ Ok i) (v : CodeVolume) (read : map volume_laid (nth i (volumes_in t).rows) ≡ some v) where
      stored_there : nth i (volumes_in t).rows ≡ some (volume_says v)
      stored_there = made_of volume_laid (nth i (volumes_in t).rows) v read (λ w h q. h ∙ ap (λ (z : Volume). some z) (sym (says_laid w) ∙ ap volume_says q))

      by_remote : (b : Bool) → agrees_on a.remote (volume_says v) ≡ b → opened (volumes_in t) cs a x o ≡ (ask b 6 >> done (volume_says v, volumes_in t))
      by_remote b h =
          ap (opened (volumes_in t) cs a x) (sym spot.says ∙ ap (λ (q : Result ℕ ℕ). at_spot q (volumes_in t).rows) e ∙ stored_there)
          ∙ ap (λ (y : Bool). ask y 6 >> done (volume_says v, volumes_in t)) h

      -- 6
      pub other_remote : agrees_on a.remote (volume_says v) ≡ false → Planned t cs a x (opened (volumes_in t) cs a x o) (Opening.Refused 6)
      other_remote h = by_remote false h

      -- the stored volume
      pub stored_goes : agrees_on a.remote (volume_says v) ≡ true → Planned t cs a x (opened (volumes_in t) cs a x o) (Opening.Stored i)
      stored_goes h = (spot.inside i e, λ w q. by_remote true h ∙ ap (λ (z : Volume). done (z, volumes_in t)) (option_same (sym stored_there ∙ q)))

-- ---- open on lent bytes: u and w are the bytes of volumes and of the answer afterwards

abbrev Left : (t out u w : List ℕ) (n : ℕ) → Answer (Volume × Table Volume) → Type 0
Left t out u w n r =
    (n ≡ code r) × ((u ≡ after volume_bytes (λ (q : Volume × Table Volume). q.1) t r) × (w ≡ out_after volume_bytes (λ (q : Volume × Table Volume). q.0) out r))

module _ (t out : List ℕ) (r : Answer (Volume × Table Volume)) where
  -- a refusal leaves the bytes as found
  pub unchanged : (n : ℕ) → r ≡ refused n → Left t out t out n r
  unfolding after out_after
  unchanged n e = (
    ap code (sym e),
    (ap (after volume_bytes (λ (q : Volume × Table Volume). q.1) t) (sym e), ap (out_after volume_bytes (λ (q : Volume × Table Volume). q.0) out) (sym e)),
  )

  -- else the table is laid over them, and the volume is the answer
  changed : (v : Volume) (vs : Table Volume) → r ≡ done (v, vs) → (u w : List ℕ) → u ≡ laid_over volume_bytes vs t → w ≡ volume_bytes.spell v → Left t out u w 0 r
  unfolding after out_after
  changed v vs e u w p q = (
    ap code (sym e),
    (p ∙ ap (after volume_bytes (λ (q : Volume × Table Volume). q.1) t) (sym e), q ∙ ap (out_after volume_bytes (λ (q : Volume × Table Volume). q.0) out) (sym e)),
  )

module _ (t cs out : List ℕ) (a : Asked) (x : Ids) (ok : volumes_ok t ≡ true) (okc : commits_ok cs ≡ true) where
  abbrev answer : Answer (Volume × Table Volume)
  answer = lent (volumes_ok t && commits_ok cs) (open_in (volumes_in t) (commits_in cs) a x out)

  abbrev rest : Answer (Volume × Table Volume)
  rest = opened (volumes_in t) (commits_in cs) a x (asked_volume (volumes_in t) a.vid)

  by_size : (b : Bool) → eqb (length out) 117 ≡ b → answer ≡ (ask b 3 >> rest)
  unfolding open_in open_volume
  by_size b e =
      lent_yes (volumes_ok t && commits_ok cs) (open_in (volumes_in t) (commits_in cs) a x out) (and_both ok okc)
      ∙ ap₂ (λ (y z : Bool). ask y 3 >> (ask z 20 >> rest)) e (and_both (formed_rules volumes t ok) (formed_rules commits cs okc))

  -- 3
  pub wrong_size : (length out ≡ 117 → ⊥) → Left t out t out 3 answer
  wrong_size h = unchanged t out answer 3 (by_size false (ne_eqb (length out) 117 h))

  module _ (size : length out ≡ 117) (r : Opening) (plan : Planned t (commits_in cs) a x rest r) where
    past : answer ≡ rest
    past = by_size true (eq-eqb (length out) 117 size)

    -- a number
    pub open_refused : (n : ℕ) → r ≡ Opening.Refused n → Left t out t out n answer
    open_refused n e = unchanged t out answer n (past ∙ subst (Planned t (commits_in cs) a x rest) e plan)

    module _ (i : ℕ) (e : r ≡ Opening.Stored i) where
      stored : Planned t (commits_in cs) a x rest (Opening.Stored i)
      stored = subst (Planned t (commits_in cs) a x rest) e plan

      pub stored_inside : i < count_of t
      stored_inside = stored.0

      -- the stored volume
      pub open_stored : AreBytes t → (v : CodeVolume) → map volume_laid (nth i (volumes_in t).rows) ≡ some v → (w : List ℕ) → w ≡ volume_bytes.spell (volume_says v) → Left t out t w 0 answer
      open_stored bs v read w h =
          made_of volume_laid (nth i (volumes_in t).rows) v read (λ z q m.
          changed t out answer z (volumes_in t) (past ∙ stored.1 z q) t w (sym (laid_same volumes t bs ok)) (h ∙ ap (λ (y : Volume). volume_bytes.spell y) (ap volume_says (sym m) ∙ says_laid z)))

    module _ (e : r ≡ Opening.New) (v : CodeVolume) (says : volume_says v ≡ new_volume (commits_in cs) a x) where
      made : Planned t (commits_in cs) a x rest Opening.New
      made = subst (Planned t (commits_in cs) a x rest) e plan

      pub new_fits : fits (store volume_key bytes (volume_says v) (volumes_in t)) ≡ true
      new_fits = ap (λ (y : Volume). fits (store volume_key bytes y (volumes_in t))) says ∙ made.0

      -- the new one
      pub open_new : (u w : List ℕ) → u ≡ laid_over volume_bytes (store volume_key bytes (volume_says v) (volumes_in t)) t → w ≡ volume_bytes.spell (volume_says v) → Left t out u w 0 answer
      open_new u w p q =
          changed t out answer (volume_says v) (store volume_key bytes (volume_says v) (volumes_in t))
          (past ∙ made.1 ∙ ap (λ (y : Volume). done (y, store volume_key bytes y (volumes_in t))) (sym says)) u w p q
