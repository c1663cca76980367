-- `commitcalls::latest_commit` meets its contract: 20, 3, then the record that `latest` finds.
use Rattle.std.proofs.Common.{sym, ◌∙◌}
use Rattle.layout.specs.Records.{commit_bytes}
use Rattle.layout.proofs.LentLaws.{lent_no}
use Rattle.commitcalls.proofs.CallLaws.{latest_commit_done, refused_before, refused_3, answered}
use Rattle.commitcalls.proofs.latest_commit.Goals as goal

pub returns-then-not-commits_formed : goal.returns-then-not-commits_formed
returns-then-not-commits_formed c = refused_before commit_bytes c.args.out.now 722 _ 20 (lent_no _ _ (sym c.commits_formed.ensures ∙ c.if-not-commits_formed.true))

pub returns-then-out-ne-COMMIT : goal.returns-then-out-ne-COMMIT
returns-then-out-ne-COMMIT c = refused_3 commit_bytes c.args.out.now 722 _ _ (latest_commit_done c.args.commits.now (sym c.commits_formed.ensures ∙ c.if-not-commits_formed.false) c.args.log) c.if-out-ne-COMMIT.true

pub latest-requires : goal.latest-requires
latest-requires c = sym c.commits_formed.ensures ∙ c.if-not-commits_formed.false

pub write_found-requires : goal.write_found-requires
write_found-requires c = (sym c.commits_formed.ensures ∙ c.if-not-commits_formed.false, c.latest.ensures.inside, c.if-out-ne-COMMIT.false)

pub returns : goal.returns
returns c =
    answered commit_bytes c.args.out.now 722 _ _ _ _ _ (latest_commit_done c.args.commits.now (sym c.commits_formed.ensures ∙ c.if-not-commits_formed.false) c.args.log) c.if-out-ne-COMMIT.false c.latest.ensures.says c.write_found.ensures
