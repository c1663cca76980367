-- By where the search ended: the row of the place is the commit's bytes, or nothing is written.
use Rattle.std.proofs.Common.{◌≡◌, ℕ, subst, ap, ◌∙◌, Option, Some, None, Ok}
use Rattle.searchcalls.specs.Searches.{Within}
use Rattle.searchcalls.proofs.PathLaws.{put_at, put_nothing, put_refused}
use Rattle.searchcalls.proofs.put_hit.Goals as goal

pub returns-in-Err : goal.returns-in-Err
returns-in-Err c = rw c.refused.ensures (put_refused c.args.commits.now c.args.out.now c.args.hit c.in-Err.refusal c.in-Err.is)

pub row-requires : goal.row-requires
row-requires c =
    let place : c.in-Ok-Some.field-0 ≡ Some c.in-Ok-Some.i = rw c.in-Ok-Some.is at c.in-Ok-Some.field-0-is in
    (c.requires.0, subst (Within c.args.commits.now) (c.in-Ok-Some.is ∙ ap (λ (o : Option ℕ). Ok o) place) c.requires.1)

pub returns-in-Ok-Some : goal.returns-in-Ok-Some
returns-in-Ok-Some c =
    let place : c.in-Ok-Some.field-0 ≡ Some c.in-Ok-Some.i = rw c.in-Ok-Some.is at c.in-Ok-Some.field-0-is in
    let at = c.in-Ok-Some.is ∙ ap (λ (o : Option ℕ). Ok o) place in
    put_at c.args.commits.now c.args.out.now c.args.hit c.requires.0 c.in-Ok-Some.i c.row.result _ at (subst (Within c.args.commits.now) at c.requires.1) c.row.ensures.0 c.requires.2 c.load_all.ensures

pub returns-in-Ok-None : goal.returns-in-Ok-None
returns-in-Ok-None c =
    let place : c.in-Ok-None.field-0 ≡ None = rw c.in-Ok-None.is at c.in-Ok-None.field-0-is in
    put_nothing c.args.commits.now c.args.out.now c.args.hit (c.in-Ok-None.is ∙ ap (λ (o : Option ℕ). Ok o) place)
