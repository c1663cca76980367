-- The arguments are read, the call by value answers the rule on them, and the set of its answer is put in bytes. Assumes nothing.
use Rattle.std.proofs.Common.{ap, ◌∙◌}
use Rattle.pageset.specs.declared.PageSet.{PageSet}
use Rattle.pageset.specs.Rules.{insert_rule}
use Rattle.pagecalls.specs.Says.{inserted}
use Rattle.arguments.proofs.EarlyLaws.{insert_early}
use Rattle.arguments.proofs.SetLaws.{left_set_or_22, given_or_22_normal, same_found, new_found}
use Rattle.boundary.proofs.sets.sigatuda_set_insert.Goals as goal

pub put_set-requires : goal.put_set-requires
put_set-requires c =
    given_or_22_normal (inserted c.insert-a.result) (insert_rule c.set_arg.result c.args.page) c.insert-a.ensures.gives_or22

pub returns : goal.returns
returns c =
    left_set_or_22 _ _ (inserted c.insert-a.result) (insert_rule c.set_arg.result c.args.page) _ _ (ap (λ (s : PageSet). insert_rule s c.args.page) c.set_arg.ensures) (insert_early _ c.args.page) c.insert-a.ensures.gives_or22
    (c.put_set.ensures ∙ same_found _ _ _ (inserted c.insert-a.result) (new_found c.set_arg.result _ c.args.page c.insert-a.result.code _ c.insert-a.result.new c.bit.ensures c.insert-a.ensures.result_after c.set_arg.ensures))
