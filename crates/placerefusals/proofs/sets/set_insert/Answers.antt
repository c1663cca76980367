-- Where the answer is a refusal, or 22, the contract has the place as it was.
use Rattle.std.proofs.Common.{not}
use Rattle.pageset.specs.Rules.{insert_rule}
use Rattle.arguments.specs.Args.{set_arg}
use Rattle.pageset.specs.Sets.{member}
use Rattle.arguments.specs.Replies.{bit}
use Rattle.refusals.proofs.Laws.{leaves_set_22}
use Rattle.placerefusals.proofs.sets.set_insert.Goals as goal

pub returns : goal.returns
returns c =
    let g = c.args in
    leaves_set_22 (bit (not (member (set_arg g.set.now) g.page))) _ _ (insert_rule (set_arg g.set.now) g.page) _ c.sigatuda_set_insert.ensures
