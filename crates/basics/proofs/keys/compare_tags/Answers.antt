-- The bytes that both names have decide, and then the lengths. Assumes nothing.
use borrow.Author.Rules.{rules}
use Rattle.std.specs.Prelude.{◌≡◌, length}
use mathlib.Core.Path.{ap, ap₂, ◌∙◌}
use native.Mathlib.Omega.{arith}
use Rattle.octets.specs.Order.{ordering}
use Rattle.basics.specs.Orders.{next}
use Rattle.basics.proofs.OrderLaws.{ordering_lex, ordering_nat_cmp, ordering_of_then, fronts}
use Rattle.basics.proofs.keys.compare_tags.Goals as goal

pub compare-by_front-requires : goal.compare-by_front-requires
compare-by_front-requires c =
    let a : length c.args.a.bytes ≡ 32 = search rules in
    let b : length c.args.b.bytes ≡ 32 = search rules in
    (omega arith, omega arith)

pub returns : goal.returns
returns c =
    ap ordering c.then.ensures
    ∙ ordering_of_then _ _
    ∙ ap₂ next (ap ordering c.compare-by_front.ensures ∙ ordering_lex _ _) (ap ordering c.cmp.ensures ∙ ordering_nat_cmp _ _)
    ∙ fronts
    c.args.a.bytes
    c.args.b.bytes
    32
    _
    _
    _
    _
    _
    (search rules)
    (search rules)
    c.min-len_a.ensures
    c.min-len_b.ensures
    c.min.ensures
