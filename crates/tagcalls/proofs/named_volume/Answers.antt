-- The volume of the tag at the spot of the name, or nothing in a gap: the laws `names` and `names_none`.
use Rattle.table.proofs.Ends.{at_in}
use Rattle.tagcalls.proofs.Ends.{names, names_none}
use Rattle.tagcalls.proofs.named_volume.Goals as goal

pub returns-in_default : goal.returns-in_default
returns-in_default c =
    names_none c.args.tags.now c.args.name.now _ _ c.find_tag.ensures.says c.in_default.is

pub tagged_at-requires : goal.tagged_at-requires
tagged_at-requires c =
    (c.requires.0, at_in 50 34 c.args.tags.now _ _ _ c.find_tag.ensures.place c.in-Ok.is)

pub returns : goal.returns
returns c =
    names c.args.tags.now c.args.name.now _ _ c.find_tag.ensures.says c.in-Ok.is _ c.tagged_at.ensures
