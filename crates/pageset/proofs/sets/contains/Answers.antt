-- A set in normal form has at most 32 windows. Assumes nothing.
use Rattle.pageset.proofs.FormLaws.{normal_fact}
use Rattle.pageset.proofs.sets.contains.Goals as goal

pub has_page-requires : goal.has_page-requires
has_page-requires c = (normal_fact c.args.s c.requires).tidy.short
