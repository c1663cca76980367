-- Some page of the set lies from a to b exactly if the set cut to that range has a page. Assumes nothing.
use Rattle.std.proofs.Common.{◌≡◌, ◌^◌, Bool, true, false, not, ◌&&◌, refl, ap, ◌∙◌}
use Rattle.pageset.specs.Sets.{member}
use Rattle.pageset.specs.Rules.{within}
use Rattle.pageset.proofs.CountLaws.{any_same}
use Rattle.pageset.proofs.sets.contains_any.Goals as goal

not_not : (b : Bool) → not (not b) ≡ b
not_not true = refl
not_not false = refl

and_turn : (x y : Bool) → (x && y) ≡ (y && x)
and_turn true true = refl
and_turn true false = refl
and_turn false true = refl
and_turn false false = refl

pub is_empty-requires : goal.is_empty-requires
is_empty-requires c = c.span.ensures.normal

pub returns : goal.returns
returns c =
    let a = c.args in
    ap not c.is_empty.ensures
    ∙ not_not _
    ∙ any_same (member c.span.result) (λ p. within a.a.0 a.b.0 p && member a.s p) (2 ^ 32)
    (λ p. c.span.ensures.pages p ∙ and_turn (member a.s p) (within a.a.0 a.b.0 p))
