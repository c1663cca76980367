-- 20, or what the plan says: a number with all as found, the pending commit dropped, or the push with a copy of the stored commit.
use Rattle.std.proofs.Common.{sym, ◌∙◌}
use Rattle.pushcalls.proofs.Bytes.{recover_20, recover_left, recover_dropped, drop_ready, commit_inside, recover_ready, recover_stored}
use Rattle.pushcalls.proofs.Ends.{logs_ok_lem}
use Rattle.pushcalls.proofs.recover.Goals as goal

pub returns-then-not-push_formed : goal.returns-then-not-push_formed
returns-then-not-push_formed c = let whole = recover_20 c.args.volumes.now c.args.commits.now c.args.checkpoints.now c.args.index.now c.args.vid (sym c.push_formed.ensures ∙ c.if-not-push_formed.true) in
    record { value = whole.0; volumes_after = whole.1.0; commits_after = whole.1.1.0; checkpoints_after = whole.1.1.1.0; index_after = whole.1.1.1.1 }

pub recover_plan-requires : goal.recover_plan-requires
recover_plan-requires c = (sym c.push_formed.ensures ∙ c.if-not-push_formed.false)

pub drop_stored-requires : goal.drop_stored-requires
drop_stored-requires c = drop_ready c.args.volumes.now c.args.commits.now c.args.checkpoints.now c.args.index.now c.args.vid (sym c.push_formed.ensures ∙ c.if-not-push_formed.false) c.recover_plan.result c.recover_plan.ensures _ _ c.in-Drop.is

pub commit_copy-row-requires : goal.commit_copy-row-requires
commit_copy-row-requires c = ((logs_ok_lem c.args.volumes.now c.args.commits.now c.args.checkpoints.now c.args.index.now (sym c.push_formed.ensures ∙ c.if-not-push_formed.false)).0, commit_inside c.args.volumes.now c.args.commits.now c.args.checkpoints.now c.args.index.now c.args.vid (sym c.push_formed.ensures ∙ c.if-not-push_formed.false) c.recover_plan.result c.recover_plan.ensures _ _ c.in-Push.is)

pub push_stored-requires : goal.push_stored-requires
push_stored-requires c = recover_ready c.args.volumes.now c.args.commits.now c.args.checkpoints.now c.args.index.now c.args.vid (sym c.push_formed.ensures ∙ c.if-not-push_formed.false) c.recover_plan.result c.recover_plan.ensures _ _ c.in-Push.is _ c.commit_copy-row.ensures

pub returns-in-Left : goal.returns-in-Left
returns-in-Left c = let whole = recover_left c.args.volumes.now c.args.commits.now c.args.checkpoints.now c.args.index.now c.args.vid (sym c.push_formed.ensures ∙ c.if-not-push_formed.false) c.recover_plan.result c.recover_plan.ensures (λ j. (c.slice_known-2-1.given j).fits) (λ j. (c.slice_known-3-1.given j).fits) (λ j. (c.slice_known-4-1.given j).fits) (λ j. (c.slice_known-1.given j).fits) _ c.in-Left.is in
    record { value = whole.0; volumes_after = whole.1.0; commits_after = whole.1.1.0; checkpoints_after = whole.1.1.1.0; index_after = whole.1.1.1.1 }

pub returns-in-Drop : goal.returns-in-Drop
returns-in-Drop c = let whole = recover_dropped c.args.volumes.now c.args.commits.now c.args.checkpoints.now c.args.index.now c.args.vid (sym c.push_formed.ensures ∙ c.if-not-push_formed.false) c.recover_plan.result c.recover_plan.ensures (λ j. (c.slice_known-2-1.given j).fits) (λ j. (c.slice_known-3-1.given j).fits) (λ j. (c.slice_known-4-1.given j).fits) _ _ c.in-Drop.is _ c.drop_stored.ensures in
    record { value = whole.0; volumes_after = whole.1.0; commits_after = whole.1.1.0; checkpoints_after = whole.1.1.1.0; index_after = whole.1.1.1.1 }

pub returns-in-Push : goal.returns-in-Push
returns-in-Push c = let whole = recover_stored c.args.volumes.now c.args.commits.now c.args.checkpoints.now c.args.index.now c.args.vid (sym c.push_formed.ensures ∙ c.if-not-push_formed.false) c.recover_plan.result c.recover_plan.ensures _ _ c.in-Push.is _ c.commit_copy-row.ensures _ _ _ _ c.push_stored.ensures.pushed_at (c.push_stored.ensures.commits_after, (c.push_stored.ensures.checkpoints_after, c.push_stored.ensures.index_after)) in
    record { value = whole.0; volumes_after = whole.1.0; commits_after = whole.1.1.0; checkpoints_after = whole.1.1.1.0; index_after = whole.1.1.1.1 }
