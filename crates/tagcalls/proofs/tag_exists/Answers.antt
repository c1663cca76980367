-- 20 where the table is not formed, 1 where the name has no name's length; else whether the lookup found the name.
use Rattle.std.proofs.Common.{sym, ap, ◌∙◌}
use Rattle.layout.proofs.LentLaws.{lent_no}
use mathlib.Core.Option.{Option}
use Rattle.basics.specs.Answers.{done}
use Rattle.rules.specs.Lists.{is_some}
use Rattle.rules.specs.Records.{Tag}
use Rattle.table.proofs.Ends.{at_in}
use Rattle.rows.proofs.Finds.{row_nth}
use Rattle.rows.proofs.Tables.{tags}
use Rattle.tagcalls.proofs.Ends.{here, nowhere, exists_no_name, exists_is}
use Rattle.tagcalls.proofs.tag_exists.Goals as goal

pub returns-then-not-tags_formed : goal.returns-then-not-tags_formed
returns-then-not-tags_formed c = sym (lent_no _ _ (sym c.tags_formed.ensures ∙ c.if-not-tags_formed.true))

pub returns-then-not-is_name : goal.returns-then-not-is_name
returns-then-not-is_name c =
    sym (exists_no_name c.args.tags.now c.args.name.now (sym c.tags_formed.ensures ∙ c.if-not-tags_formed.false) (sym c.is_name.ensures ∙ c.if-not-is_name.true))

pub find_tag-requires : goal.find_tag-requires
find_tag-requires c = ((sym c.tags_formed.ensures ∙ c.if-not-tags_formed.false), (sym c.is_name.ensures ∙ c.if-not-is_name.false))

pub returns-in-Ok : goal.returns-in-Ok
returns-in-Ok c =
    let there = sym (here c.args.tags.now c.args.name.now _ _ c.find_tag.ensures.says c.in-Ok.is) ∙ row_nth tags c.args.tags.now _ (at_in 50 34 c.args.tags.now _ _ _ c.find_tag.ensures.place c.in-Ok.is) in
    sym (exists_is c.args.tags.now c.args.name.now (sym c.tags_formed.ensures ∙ c.if-not-tags_formed.false) (sym c.is_name.ensures ∙ c.if-not-is_name.false) ∙ ap (λ (o : Option Tag). done (is_some o)) there)

pub returns-in-Err : goal.returns-in-Err
returns-in-Err c =
    sym (exists_is c.args.tags.now c.args.name.now (sym c.tags_formed.ensures ∙ c.if-not-tags_formed.false) (sym c.is_name.ensures ∙ c.if-not-is_name.false) ∙ ap (λ (o : Option Tag). done (is_some o)) (nowhere c.args.tags.now c.args.name.now _ _ c.find_tag.ensures.says c.in-Err.is))
