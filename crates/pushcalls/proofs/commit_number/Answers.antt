-- Each check that fails is the number; all of the slice is the commit, since it has its size.
use Rattle.std.proofs.Common.{sym, ◌∙◌}
use Rattle.pushcalls.proofs.Ends.{wrong_size, zero_lsn, by_form}
use Rattle.pushcalls.proofs.commit_number.Goals as goal

pub returns-then-c-ne-COMMIT : goal.returns-then-c-ne-COMMIT
returns-then-c-ne-COMMIT c = wrong_size c.args.c.now c.if-c-ne-COMMIT.true

pub returns-then-not-commit_lsns_ok : goal.returns-then-not-commit_lsns_ok
returns-then-not-commit_lsns_ok c = zero_lsn c.args.c.now c.if-c-ne-COMMIT.false (sym c.commit_lsns_ok.ensures ∙ c.if-not-commit_lsns_ok.true)

pub returns-then-not-commit_form : goal.returns-then-not-commit_form
returns-then-not-commit_form c = by_form c.args.c.now c.if-c-ne-COMMIT.false (sym c.commit_lsns_ok.ensures ∙ c.if-not-commit_lsns_ok.false) _ (sym c.commit_form.ensures ∙ c.if-not-commit_form.true)

pub returns : goal.returns
returns c = by_form c.args.c.now c.if-c-ne-COMMIT.false (sym c.commit_lsns_ok.ensures ∙ c.if-not-commit_lsns_ok.false) _ (sym c.commit_form.ensures ∙ c.if-not-commit_form.false)
