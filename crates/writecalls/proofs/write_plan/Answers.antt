-- Each way out is the first check that fails, in the order of the rule; the last is room.
use Rattle.std.proofs.Common.{sym, ◌∙◌, arith}
use Rattle.writecalls.proofs.Formed.{each_ok}
use Rattle.writecalls.proofs.Plans.{bad, wrong_size, zero_lsn, not_formed, is_commit, room_plans, refused_by}
use Rattle.writecalls.proofs.write_plan.Goals as goal

pub returns-then-not-logs_formed : goal.returns-then-not-logs_formed
returns-then-not-logs_formed c =
    let a = c.args in
    refused_by a.commits.now a.checkpoints.now a.index.now a.c.now 20 (bad a.commits.now a.checkpoints.now a.index.now a.c.now (sym c.logs_formed.ensures ∙ c.if-not-logs_formed.true)) (λ z. omega arith)

pub returns-then-c-ne-COMMIT : goal.returns-then-c-ne-COMMIT
returns-then-c-ne-COMMIT c =
    let a = c.args in
    refused_by a.commits.now a.checkpoints.now a.index.now a.c.now 3 (wrong_size a.commits.now a.checkpoints.now a.index.now a.c.now (sym c.logs_formed.ensures ∙ c.if-not-logs_formed.false) c.if-c-ne-COMMIT.true) (λ z. omega arith)

pub returns-then-not-commit_lsns_ok : goal.returns-then-not-commit_lsns_ok
returns-then-not-commit_lsns_ok c =
    let a = c.args in
    refused_by a.commits.now a.checkpoints.now a.index.now a.c.now 1 (zero_lsn a.commits.now a.checkpoints.now a.index.now a.c.now (sym c.logs_formed.ensures ∙ c.if-not-logs_formed.false) c.if-c-ne-COMMIT.false (sym c.commit_lsns_ok.ensures ∙ c.if-not-commit_lsns_ok.true)) (λ z. omega arith)

pub returns-then-not-commit_form : goal.returns-then-not-commit_form
returns-then-not-commit_form c =
    let a = c.args in
    refused_by a.commits.now a.checkpoints.now a.index.now a.c.now 3 (not_formed a.commits.now a.checkpoints.now a.index.now a.c.now (sym c.logs_formed.ensures ∙ c.if-not-logs_formed.false) c.if-c-ne-COMMIT.false (sym c.commit_lsns_ok.ensures ∙ c.if-not-commit_lsns_ok.false) (sym c.commit_form.ensures ∙ c.if-not-commit_form.true)) (λ z. omega arith)

pub room_plan-requires : goal.room_plan-requires
room_plan-requires c = let a = c.args in
    let o = (sym c.logs_formed.ensures ∙ c.if-not-logs_formed.false) in record { commits_value = each_ok a.commits.now a.checkpoints.now a.index.now o; commit = is_commit a.commits.now a.checkpoints.now a.index.now a.c.now o c.if-c-ne-COMMIT.false (sym c.commit_lsns_ok.ensures ∙ c.if-not-commit_lsns_ok.false) (sym c.commit_form.ensures ∙ c.if-not-commit_form.false) }

pub returns : goal.returns
returns c =
    let a = c.args in
    c.room_plan.ensures ∙ room_plans a.commits.now a.checkpoints.now a.index.now a.c.now (sym c.logs_formed.ensures ∙ c.if-not-logs_formed.false) c.if-c-ne-COMMIT.false (sym c.commit_lsns_ok.ensures ∙ c.if-not-commit_lsns_ok.false) (sym c.commit_form.ensures ∙ c.if-not-commit_form.false)
