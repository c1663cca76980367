-- What is left of an answer to a rule, by the cases of the rule's answer. A volume's rule does not answer 20 where its table is formed, so its own numbers come behind the lent place's 3. Assumes nothing.
use Rattle.std.proofs.Common.{◌≡◌, ℕ, Bool, true, false, List, length, sym, refl, ap, ◌∙◌, ap₂, eq-eqb, ne_eqb}
use Rattle.std.specs.Prelude.{Option as Maybe, Some, None, Result, Ok, Err}
use mathlib.Core.Option.{Option, none, some}
use Rattle.basics.specs.Answers.{Answer, refused, done, ask, need, ◌>>◌, ◌>>=◌}
use Rattle.basics.specs.Refusals.{number_of}
use Rattle.basics.specs.declared.page_count.PageCount.{PageCount}
use Rattle.basics.specs.declared.refusal.Refusal.{Refusal}
use Rattle.rules.specs.Lists.{is_some}
use Rattle.rules.specs.Records.{Id, Volume}
use Rattle.rules.specs.Tables.{get_volume}
use Rattle.rules.specs.Reads.{volume_read}
use Rattle.volume.specs.Volumes.{volume_says}
use Rattle.volume.specs.declared.volume.Volume as declared
use Rattle.layout.specs.Codecs.{Codec}
use Rattle.layout.specs.Records.{volume_bytes}
use Rattle.layout.specs.Tables.{volumes_in, volumes_ok}
use Rattle.layout.specs.Lent.{lent}
use Rattle.layout.proofs.LentLaws.{lent_yes, lent_no}
use Rattle.volumecalls.proofs.Ends.{read_is}
use Rattle.volumecalls.specs.Says.{read_says}
use Rattle.tagcalls.specs.Says.{named_says, tagged_says}
use Rattle.commitcalls.specs.Says.{Answered, out_after, found_says, maybe_count_says}
use Rattle.arguments.specs.declared.Reply.{Reply}
use Rattle.arguments.specs.Replies.{none_under, value, value_or, yes_or_no, placed}
use Rattle.tablereplies.specs.Records.{says_by, counted, volume_left, volume_put}

-- ---- what an answer says whose refusal is document 01's

pub read_at : (a : Result declared.Volume Refusal) → says_by number_of volume_says a ≡ read_says a
read_at (Err r) = refl
read_at (Ok v) = refl

pub tagged_at : (a : Result (Maybe Id) Refusal) → says_by number_of named_says a ≡ tagged_says a
tagged_at (Err r) = refl
tagged_at (Ok v) = refl

pub found_at : (a : Result Bool Refusal) → says_by number_of (λ b. b) a ≡ found_says a
found_at (Err r) = refl
found_at (Ok b) = refl

pub count_at : (a : Result (Maybe PageCount) Refusal) → says_by number_of counted a ≡ maybe_count_says a
count_at (Err r) = refl
count_at (Ok (Some n)) = refl
count_at (Ok None) = refl

-- ---- a record that the call wrote itself

module _ {R : Type 0} (c : Codec R) (was : List ℕ) where
  left_by : (q : Answer (Option R)) → (yes_or_no (q >>= (λ o. done (is_some o))), out_after c q was) ≡ value_or c.spell was q
  left_by (refused n) = refl
  left_by (done none) = refl
  left_by (done (some x)) = refl

  pub left_found : (q : Answer (Option R)) (found : Answer Bool) (after : List ℕ) (r : Reply) → r ≡ yes_or_no found → Answered c q found was after → (r, after) ≡ value_or c.spell was q
  left_found q found after r e a = ap₂ (λ (x : Reply) (b : List ℕ). (x, b)) (e ∙ ap yes_or_no a.says) a.bytes ∙ left_by q

-- ---- a volume

module _ (was : List ℕ) where
  -- past 20: the lent place, then the volume or 4
  put_need : (o : Option Volume) → volume_put was (need o 4) ≡ value volume_bytes.spell was (placed 117 was (need o 4))
  unfolding volume_put
  put_need none = refl
  put_need (some v) = refl

  -- the lent place is asked: 3 for another length
  pub unplaced : (a : Answer Volume) → (length was ≡ 117 → ⊥) → (none_under 3, was) ≡ value volume_bytes.spell was (placed 117 was a)
  unfolding placed
  unplaced a n = ap (λ (b : Bool). value volume_bytes.spell was (ask b 3 >> a)) (sym (ne_eqb (length was) 117 n))

  pub in_place : (a : Answer Volume) → length was ≡ 117 → value volume_bytes.spell was a ≡ value volume_bytes.spell was (placed 117 was a)
  unfolding placed
  in_place a n = ap (λ (b : Bool). value volume_bytes.spell was (ask b 3 >> a)) (sym (eq-eqb (length was) 117 n))

  put_20 : volume_put was (refused 20) ≡ (none_under 20, was)
  unfolding volume_put
  put_20 = refl

  module _ (t : List ℕ) (vid : Id) where
    abbrev rule : Answer Volume
    rule = volume_read (volumes_in t) vid

    formed : volumes_ok t ≡ true → volume_put was (lent (volumes_ok t) rule) ≡ volume_left was (volumes_ok t) rule
    formed ok =
        let o = get_volume (volumes_in t) vid in
        let is : rule ≡ need o 4 = sym (lent_yes (volumes_ok t) rule ok) ∙ read_is t vid ok in
        ap (volume_put was) (read_is t vid ok)
        ∙ put_need o
        ∙ ap (λ (q : Answer Volume). value volume_bytes.spell was (placed 117 was q)) (sym is)
        ∙ ap (value volume_bytes.spell was) (sym (lent_yes (volumes_ok t) (placed 117 was rule) ok))

    unformed : volumes_ok t ≡ false → volume_put was (lent (volumes_ok t) rule) ≡ volume_left was (volumes_ok t) rule
    unformed bad =
        ap (volume_put was) (lent_no (volumes_ok t) rule bad)
        ∙ put_20
        ∙ ap (value volume_bytes.spell was) (sym (lent_no (volumes_ok t) (placed 117 was rule) bad))

    either : (b : Bool) → volumes_ok t ≡ b → volume_put was (lent (volumes_ok t) rule) ≡ volume_left was (volumes_ok t) rule
    either true e = formed e
    either false e = unformed e

    pub left_volume : volume_put was (lent (volumes_ok t) rule) ≡ volume_left was (volumes_ok t) rule
    left_volume = either (volumes_ok t) refl
