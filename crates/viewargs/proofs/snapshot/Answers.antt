-- Where the place has another length, 20 stays and all else is 3; else the answer of the call by value is put there.
use Rattle.std.proofs.Common.{◌∙◌, ap}
use Rattle.arguments.specs.declared.Reply.{Reply}
use Rattle.viewargs.proofs.ViewLaws.{not_placed, answer_shaped, answer_put}
use Rattle.viewargs.proofs.snapshot.Goals as goal

pub returns-then-out-ne-SNAPSHOT : goal.returns-then-out-ne-SNAPSHOT
returns-then-out-ne-SNAPSHOT c = ap (λ (r : Reply). (r, c.args.out.now)) c.misplaced.ensures ∙ not_placed c.args.volumes.now c.args.commits.now c.args.vid c.args.out.now c.snapshot-a.result c.snapshot-a.ensures c.if-out-ne-SNAPSHOT.true

pub put_snapshot-requires : goal.put_snapshot-requires
put_snapshot-requires c = answer_shaped c.args.volumes.now c.args.commits.now c.args.vid c.args.out.now c.snapshot-a.result c.snapshot-a.ensures

pub returns : goal.returns
returns c = c.put_snapshot.ensures ∙ answer_put c.args.volumes.now c.args.commits.now c.args.vid c.args.out.now c.snapshot-a.result c.snapshot-a.ensures c.if-out-ne-SNAPSHOT.false
