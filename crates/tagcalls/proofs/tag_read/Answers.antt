-- 20 where the table is not formed, 1 where the name has no name's length; else the volume that the name names, or nothing.
use Rattle.std.proofs.Common.{sym, ap, ◌∙◌}
use mathlib.Core.Option.{Option}
use Rattle.basics.specs.Answers.{done}
use Rattle.rules.specs.Records.{Id}
use Rattle.layout.proofs.LentLaws.{lent_no}
use Rattle.tagcalls.proofs.Ends.{read_no_name, read_is}
use Rattle.tagcalls.proofs.tag_read.Goals as goal

pub returns-then-not-tags_formed : goal.returns-then-not-tags_formed
returns-then-not-tags_formed c = sym (lent_no _ _ (sym c.tags_formed.ensures ∙ c.if-not-tags_formed.true))

pub returns-then-not-is_name : goal.returns-then-not-is_name
returns-then-not-is_name c =
    sym (read_no_name c.args.tags.now c.args.name.now (sym c.tags_formed.ensures ∙ c.if-not-tags_formed.false) (sym c.is_name.ensures ∙ c.if-not-is_name.true))

pub named_volume-requires : goal.named_volume-requires
named_volume-requires c = ((sym c.tags_formed.ensures ∙ c.if-not-tags_formed.false), (sym c.is_name.ensures ∙ c.if-not-is_name.false))

pub returns : goal.returns
returns c =
    ap (λ (v : Option Id). done v) c.named_volume.ensures ∙ sym (read_is c.args.tags.now c.args.name.now (sym c.tags_formed.ensures ∙ c.if-not-tags_formed.false) (sym c.is_name.ensures ∙ c.if-not-is_name.false))
