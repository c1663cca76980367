-- A set in normal form has no window exactly if it has no page. Assumes nothing.
use Rattle.std.proofs.Common.{◌≡◌, ◌^◌, Bool, true, false, not, eqb, refl, eqb-true}
use borrow.Author.Tests.{eqb-false}
use Rattle.pageset.specs.declared.PageSet.{PageSet}
use Rattle.pageset.specs.Sets.{member}
use Rattle.pageset.specs.Counts.{any_of}
use Rattle.pageset.proofs.FormLaws.{Normal, normal_fact}
use Rattle.pageset.proofs.EdgeLaws.{no_page, some_page}
use Rattle.pageset.proofs.sets.is_empty.Goals as goal

by_test : (s : PageSet) → Normal s → (b : Bool) → eqb s.len 0 ≡ b → b ≡ not (any_of (member s) (2 ^ 32))
by_test s t true e = no_page s t (eqb-true s.len 0 e)
by_test s t false e = some_page s t (eqb-false s.len 0 e)

pub returns : goal.returns
returns c = by_test c.args.s (normal_fact c.args.s c.requires) _ refl
