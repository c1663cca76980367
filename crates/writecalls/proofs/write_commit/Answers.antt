-- A refusal leaves the bytes as found; else all checks have passed, and the write is stored.
use Rattle.std.proofs.Common.{sym, ap, ◌∙◌}
use Rattle.basics.specs.Refusals.{code_of}
use Rattle.basics.proofs.RefusalLaws.{refusal_counts}
use Rattle.writecalls.proofs.Ends.{number_is, plan_passed, fresh_passed, unchanged, changed}
use Rattle.writecalls.proofs.write_commit.Goals as goal

pub returns-in-Err : goal.returns-in-Err
returns-in-Err c =
    let a = c.args in
    let whole = unchanged a.commits.now a.checkpoints.now a.index.now _ _ (sym (ap code_of c.in-Err.is) ∙ number_is a.commits.now a.checkpoints.now a.index.now a.c.now c.write_plan.result c.write_plan.ensures) (refusal_counts _) in
    record { value = whole.0; commits_after = whole.1.0; checkpoints_after = whole.1.1.0; index_after = whole.1.1.1 }

pub write_fresh-requires : goal.write_fresh-requires
write_fresh-requires c =
    let a = c.args in
    let q = plan_passed a.commits.now a.checkpoints.now a.index.now a.c.now c.write_plan.result c.write_plan.ensures _ c.in-Ok.is in
    record { commits_value = q.forms; commit = q.commit; c_value = q.room; fresh_value = fresh_passed a.commits.now a.checkpoints.now a.index.now a.c.now c.write_plan.result c.write_plan.ensures _ c.in-Ok.is }

pub returns-in-Ok : goal.returns-in-Ok
returns-in-Ok c =
    let a = c.args in
    let q = plan_passed a.commits.now a.checkpoints.now a.index.now a.c.now c.write_plan.result c.write_plan.ensures _ c.in-Ok.is in
    let w = c.write_fresh in
    let whole = changed a.commits.now a.checkpoints.now a.index.now _ _ q.answers _ _ _ w.ensures.commits_after w.ensures.checkpoints_after w.ensures.index_after in
    record { value = whole.0; commits_after = whole.1.0; checkpoints_after = whole.1.1.0; index_after = whole.1.1.1 }
