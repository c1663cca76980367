-- `commitcalls::commit_read` meets its contract: 20, 1, 3, then the record that `find_commit` finds.
use Rattle.std.proofs.Common.{sym, ◌∙◌}
use Rattle.layout.specs.Records.{commit_bytes}
use Rattle.layout.proofs.LentLaws.{lent_no}
use Rattle.commitcalls.proofs.CallLaws.{commit_read_zero, commit_read_done, refused_before, refused_3, answered}
use Rattle.commitcalls.proofs.commit_read.Goals as goal

pub returns-then-not-commits_formed : goal.returns-then-not-commits_formed
returns-then-not-commits_formed c = refused_before commit_bytes c.args.out.now 722 _ 20 (lent_no _ _ (sym c.commits_formed.ensures ∙ c.if-not-commits_formed.true))

pub returns-then-n-eq0 : goal.returns-then-n-eq0
returns-then-n-eq0 c = refused_before commit_bytes c.args.out.now 722 _ 1 (commit_read_zero c.args.commits.now (sym c.commits_formed.ensures ∙ c.if-not-commits_formed.false) c.args.log c.args.lsn.0 c.if-n-eq0.true)

pub returns-then-out-ne-COMMIT : goal.returns-then-out-ne-COMMIT
returns-then-out-ne-COMMIT c = refused_3 commit_bytes c.args.out.now 722 _ _ (commit_read_done c.args.commits.now (sym c.commits_formed.ensures ∙ c.if-not-commits_formed.false) c.args.log c.args.lsn.0 c.if-n-eq0.false) c.if-out-ne-COMMIT.true

pub find_commit-requires : goal.find_commit-requires
find_commit-requires c = sym c.commits_formed.ensures ∙ c.if-not-commits_formed.false

pub write_found-requires : goal.write_found-requires
write_found-requires c = (sym c.commits_formed.ensures ∙ c.if-not-commits_formed.false, c.find_commit.ensures.inside, c.if-out-ne-COMMIT.false)

pub returns : goal.returns
returns c =
    answered commit_bytes c.args.out.now 722 _ _ _ _ _ (commit_read_done c.args.commits.now (sym c.commits_formed.ensures ∙ c.if-not-commits_formed.false) c.args.log c.args.lsn.0 c.if-n-eq0.false) c.if-out-ne-COMMIT.false c.find_commit.ensures.says c.write_found.ensures
