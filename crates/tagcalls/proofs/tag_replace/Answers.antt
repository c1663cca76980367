-- 20 where the table is not formed, 1 where the name has no name's length, 19 where the tag does not fit; else it is stored, and what the name named before is the answer.
use Rattle.std.proofs.Common.{◌≡◌, true, get_or, sym, refl, ap, ◌∙◌, w8, Fits, rules}
use mathlib.Core.Option.{Option}
use Rattle.basics.specs.Answers.{done}
use Rattle.rules.specs.Records.{Id}
use Rattle.layout.specs.Records.{tag_bytes}
use Rattle.layout.proofs.PlaceLaws.{id_form_lem}
use Rattle.layout.proofs.LentLaws.{lent_no, told_unchanged, told_changed}
use Rattle.rules.specs.Forms.{id_form}
use Rattle.tagcalls.specs.Says.{earlier}
use Rattle.tagcalls.proofs.Ends.{replace_no_name, replace_full, replace_is}
use Rattle.tagcalls.proofs.tag_replace.Goals as goal

pub returns-then-not-tags_formed : goal.returns-then-not-tags_formed
returns-then-not-tags_formed c = let whole = told_unchanged tag_bytes earlier (λ p. p.1) c.args.tags.now _ 20 _ (lent_no _ _ (sym c.tags_formed.ensures ∙ c.if-not-tags_formed.true)) refl in
    record { value = whole.0; tags_after = whole.1 }

pub returns-then-not-is_name : goal.returns-then-not-is_name
returns-then-not-is_name c = let whole = told_unchanged tag_bytes earlier (λ p. p.1) c.args.tags.now _ 1 _ (replace_no_name c.args.tags.now c.args.name.now c.args.vid (sym c.tags_formed.ensures ∙ c.if-not-tags_formed.false) (sym c.is_name.ensures ∙ c.if-not-is_name.true)) refl in
    record { value = whole.0; tags_after = whole.1 }

pub room_for_tag-requires : goal.room_for_tag-requires
room_for_tag-requires c = ((sym c.tags_formed.ensures ∙ c.if-not-tags_formed.false), (sym c.is_name.ensures ∙ c.if-not-is_name.false))

pub returns-then-not-room_for_tag : goal.returns-then-not-room_for_tag
returns-then-not-room_for_tag c =
    -- the volume's identifier is in form
    let vid_form : id_form c.args.vid ≡ true = id_form_lem c.args.vid (search rules) (λ j. let f : Fits w8 (get_or c.args.vid j 0) = search rules in f.fits) in
    let whole = told_unchanged tag_bytes earlier (λ p. p.1) c.args.tags.now _ 19 _ (replace_full c.args.tags.now c.args.name.now c.args.vid (sym c.tags_formed.ensures ∙ c.if-not-tags_formed.false) (sym c.is_name.ensures ∙ c.if-not-is_name.false) (sym (c.room_for_tag.ensures c.args.vid (vid_form)) ∙ c.if-not-room_for_tag.true)) refl in
    record { value = whole.0; tags_after = whole.1 }

pub named_volume-before-requires : goal.named_volume-before-requires
named_volume-before-requires c = ((sym c.tags_formed.ensures ∙ c.if-not-tags_formed.false), (sym c.is_name.ensures ∙ c.if-not-is_name.false))

pub put_tag-requires : goal.put_tag-requires
put_tag-requires c =
    let vid_form : id_form c.args.vid ≡ true = id_form_lem c.args.vid (search rules) (λ j. let f : Fits w8 (get_or c.args.vid j 0) = search rules in f.fits) in
    record { t_value = ((sym c.tags_formed.ensures ∙ c.if-not-tags_formed.false), (sym c.is_name.ensures ∙ c.if-not-is_name.false)); t_value_2 = (sym (c.room_for_tag.ensures c.args.vid (vid_form)) ∙ c.if-not-room_for_tag.false) }

pub returns : goal.returns
returns c =
    let vid_form : id_form c.args.vid ≡ true = id_form_lem c.args.vid (search rules) (λ j. let f : Fits w8 (get_or c.args.vid j 0) = search rules in f.fits) in
    let whole = told_changed tag_bytes earlier (λ p. p.1) c.args.tags.now _ _ _ _ (replace_is c.args.tags.now c.args.name.now c.args.vid (sym c.tags_formed.ensures ∙ c.if-not-tags_formed.false) (sym c.is_name.ensures ∙ c.if-not-is_name.false) (sym (c.room_for_tag.ensures c.args.vid (vid_form)) ∙ c.if-not-room_for_tag.false)) (ap (λ (v : Option Id). done v) c.named_volume-before.ensures) c.put_tag.ensures in
    record { value = whole.0; tags_after = whole.1 }
