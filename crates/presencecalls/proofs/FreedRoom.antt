-- Room freed by a removal is used again: a page that is present is removed, and then any page can be marked. The removal of one page is the removal of a record by its key,
-- so the law of every table (crate rows, `freed_room`) says it of the bytes; the calls' rules then say it of the calls.
use Rattle.std.proofs.Common.{◌≡◌, ℕ, ◌^◌, ◌<◌, Bool, true, ◌&&◌, leb, List, length, sym, ap, ◌∙◌, subst, arith, ltb-true}
use mathlib.Core.Option.{some}
use Rattle.basics.specs.Answers.{done}
use Rattle.basics.specs.Numbers.{counts, last_page}
use Rattle.basics.specs.Orders.{sid_page}
use Rattle.rules.specs.Lists.{is_some}
use Rattle.rules.specs.Records.{Id, Present, present_key}
use Rattle.rules.specs.Forms.{id_form, page_form, present_form}
use Rattle.rules.specs.Tables.{fits, store, remove, get_present}
use Rattle.rules.specs.Reads.{present_in, page_present, page_mark, page_remove}
use Rattle.rules.proofs.TableLaws.{cases, options, clash, and_fst, and_snd}
use Rattle.rules.proofs.AnswerLaws.{done_same, refused_done}
use Rattle.layout.specs.Records.{sid_page_bytes, present_bytes}
use Rattle.layout.specs.Lent.{lent, after}
use Rattle.layout.specs.Tables.{presence_in, presence_ok, laid_over}
use Rattle.layout.proofs.LentLaws.{lent_no}
use Rattle.rows.proofs.Spots.{freed_room}
use Rattle.rows.proofs.Seeks.{page_is}
use Rattle.rows.proofs.Tables.{presence, present_key_lem}
use Rattle.presence.specs.Pages.{page_of}
use Rattle.presencecalls.proofs.Ends.{marked, present_zero, present_is, remove_is, mark_is}

module _ (t : List ℕ) (ok : presence_ok t ≡ true) (sid : Id) (page : ℕ) (l : length sid ≡ 16) (h : page < 256 ^ 4) (p : Present) (there : get_present (presence_in t) sid page ≡ some p) where
  -- of the bytes: the record of a present page goes, and then any one record can be stored
  pub room_used_again : (w : Present) → present_form w ≡ true
      → let u = laid_over present_bytes (remove (present_in sid page page) (presence_in t)) t in (presence_ok u ≡ true) × (fits (store present_key sid_page w (presence_in u)) ≡ true)
  room_used_again w f =
      subst
      (λ (g : Present → Bool). let u = laid_over present_bytes (remove g (presence_in t)) t in (presence_ok u ≡ true) × (fits (store present_key sid_page w (presence_in u)) ≡ true))
      (page_is sid page)
      (freed_room presence t ok (sid_page_bytes.spell (sid, page)) (sid, page) (present_key_lem (sid, page) (l, h)) p there w f)

-- of the calls: a page was said to be present and is removed; on the bytes that this leaves, marking any page is done
module _ (t : List ℕ) (sid : Id) (page : ℕ) (l : length sid ≡ 16) (h : page < 256 ^ 4) (yes : lent (presence_ok t) (page_present (presence_in t) sid page) ≡ done true)
    (other : Id) (new : ℕ) (f : present_form (page_of other new) ≡ true) where
  -- the bytes that the removal leaves
  abbrev left : List ℕ
  left = after present_bytes (λ w. w) t (lent (presence_ok t) (page_remove (presence_in t) sid page))

  formed : presence_ok t ≡ true
  formed = cases (presence_ok t) (λ e. e) (λ e. refused_done (sym (lent_no (presence_ok t) (page_present (presence_in t) sid page) e) ∙ yes))

  not_zero : page ≡ 0 → ⊥
  not_zero z = refused_done (sym (present_zero t formed sid page z) ∙ yes)

  new_page : new ≡ 0 → ⊥
  unfolding present_form page_form
  new_page z =
      let k = ltb-true 0 new (and_fst (counts new) (leb new last_page) (and_snd (id_form other) (counts new && leb new last_page) f)) in
      omega arith

  left_is : left ≡ laid_over present_bytes (remove (present_in sid page page) (presence_in t)) t
  unfolding after
  left_is = ap (after present_bytes (λ w. w) t) (remove_is t formed sid page not_zero)

  room : (presence_ok left ≡ true) × (fits (marked left other new) ≡ true)
  room =
      options (get_present (presence_in t) sid page)
      (λ e. absurd (clash (done_same (sym (present_is t formed sid page not_zero) ∙ yes)) (ap is_some e)))
      (λ p e. subst (λ (u : List ℕ). (presence_ok u ≡ true) × (fits (marked u other new) ≡ true)) (sym left_is) (room_used_again t formed sid page l h p e (page_of other new) f))

  pub mark_after_remove : lent (presence_ok left) (page_mark (presence_in left) other new) ≡ done (marked left other new)
  mark_after_remove = mark_is left room.0 other new new_page room.1
