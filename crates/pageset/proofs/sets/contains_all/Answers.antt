-- The set cut to the range has as many pages as the range exactly if it has them all. Assumes nothing.
use Rattle.std.proofs.Common.{ℕ, ◌+◌, ◌-◌, ◌^◌, ◌&&◌, eqb, ap, ◌∙◌, arith}
use Rattle.pageset.specs.Sets.{member}
use Rattle.pageset.specs.Rules.{within}
use Rattle.pageset.proofs.CountLaws.{count_same, counted_all}
use Rattle.pageset.proofs.sets.contains_all.Goals as goal

pub cardinality-requires : goal.cardinality-requires
cardinality-requires c = c.span.ensures.normal

pub returns : goal.returns
returns c =
    let a = c.args in
    ap (λ (n : ℕ). eqb n (a.b.0 - a.a.0 + 1))
    (c.cardinality.ensures ∙ count_same (member c.span.result) (λ p. member a.s p && within a.a.0 a.b.0 p) (2 ^ 32) (λ p h. c.span.ensures.pages p))
    ∙ counted_all (member a.s) a.a.0 a.b.0 (2 ^ 32) (omega arith) (omega arith)
