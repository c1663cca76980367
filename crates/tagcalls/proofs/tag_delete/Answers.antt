-- 20 where the table is not formed, 1 where the name has no name's length; else the removal of that tag.
use Rattle.std.proofs.Common.{sym, refl, ◌∙◌}
use Rattle.basics.specs.Answers.{code}
use Rattle.layout.specs.Records.{tag_bytes}
use Rattle.layout.proofs.LentLaws.{lent_no, told_unchanged, told_changed}
use Rattle.tagcalls.proofs.Ends.{delete_no_name, delete_is}
use Rattle.tagcalls.proofs.tag_delete.Goals as goal

pub returns-then-not-tags_formed : goal.returns-then-not-tags_formed
returns-then-not-tags_formed c = let whole = told_unchanged tag_bytes code (λ w. w) c.args.tags.now _ 20 _ (lent_no _ _ (sym c.tags_formed.ensures ∙ c.if-not-tags_formed.true)) refl in
    record { value = whole.0; tags_after = whole.1 }

pub returns-then-not-is_name : goal.returns-then-not-is_name
returns-then-not-is_name c = let whole = told_unchanged tag_bytes code (λ w. w) c.args.tags.now _ 1 _ (delete_no_name c.args.tags.now c.args.name.now (sym c.tags_formed.ensures ∙ c.if-not-tags_formed.false) (sym c.is_name.ensures ∙ c.if-not-is_name.true)) refl in
    record { value = whole.0; tags_after = whole.1 }

pub remove_tag-requires : goal.remove_tag-requires
remove_tag-requires c = ((sym c.tags_formed.ensures ∙ c.if-not-tags_formed.false), (sym c.is_name.ensures ∙ c.if-not-is_name.false))

pub returns : goal.returns
returns c = let whole = told_changed tag_bytes code (λ w. w) c.args.tags.now _ _ _ _ (delete_is c.args.tags.now c.args.name.now (sym c.tags_formed.ensures ∙ c.if-not-tags_formed.false) (sym c.is_name.ensures ∙ c.if-not-is_name.false)) refl c.remove_tag.ensures in
    record { value = whole.0; tags_after = whole.1 }
