-- 20, or what the plan says: a number with all as found, or the push, which is stored.
use Rattle.std.proofs.Common.{sym, ◌∙◌}
use Rattle.pushcalls.proofs.Bytes.{success_20, success_left, success_ready, success_stored}
use Rattle.pushcalls.proofs.success.Goals as goal

pub returns-then-not-push_formed : goal.returns-then-not-push_formed
returns-then-not-push_formed c = let whole = success_20 c.args.volumes.now c.args.commits.now c.args.checkpoints.now c.args.index.now c.args.vid c.args.c.now (sym c.push_formed.ensures ∙ c.if-not-push_formed.true) in
    record { value = whole.0; volumes_after = whole.1.0; commits_after = whole.1.1.0; checkpoints_after = whole.1.1.1.0; index_after = whole.1.1.1.1 }

pub success_plan-requires : goal.success_plan-requires
success_plan-requires c = (sym c.push_formed.ensures ∙ c.if-not-push_formed.false)

pub push_stored-requires : goal.push_stored-requires
push_stored-requires c = success_ready c.args.volumes.now c.args.commits.now c.args.checkpoints.now c.args.index.now c.args.vid c.args.c.now c.success_plan.result c.success_plan.ensures _ c.in-Push.is

pub returns-in-Left : goal.returns-in-Left
returns-in-Left c = let whole = success_left c.args.volumes.now c.args.commits.now c.args.checkpoints.now c.args.index.now c.args.vid c.args.c.now c.success_plan.result c.success_plan.ensures (sym c.push_formed.ensures ∙ c.if-not-push_formed.false) _ c.in-Left.is in
    record { value = whole.0; volumes_after = whole.1.0; commits_after = whole.1.1.0; checkpoints_after = whole.1.1.1.0; index_after = whole.1.1.1.1 }

pub returns-in-Push : goal.returns-in-Push
returns-in-Push c = let whole = success_stored c.args.volumes.now c.args.commits.now c.args.checkpoints.now c.args.index.now c.args.vid c.args.c.now c.success_plan.result c.success_plan.ensures _ c.in-Push.is (sym c.push_formed.ensures ∙ c.if-not-push_formed.false) _ _ _ _ c.push_stored.ensures.pushed_at (c.push_stored.ensures.commits_after, (c.push_stored.ensures.checkpoints_after, c.push_stored.ensures.index_after)) in
    record { value = whole.0; volumes_after = whole.1.0; commits_after = whole.1.1.0; checkpoints_after = whole.1.1.1.0; index_after = whole.1.1.1.1 }
