-- `commitcalls::page_count` meets its contract: 20, 1, then the page count of the record that `find_commit` finds.
use Rattle.std.proofs.Common.{sym, ◌∙◌}
use Rattle.rules.specs.Records.{Commit}
use Rattle.commits.specs.Places.{commit_at}
use Rattle.commits.proofs.LookLaws.{place_at_lem, place_missing}
use Rattle.layout.proofs.LentLaws.{lent_no}
use Rattle.commitcalls.proofs.CallLaws.{page_count_zero, page_count_done, field_found, field_missing}
use Rattle.commitcalls.proofs.page_count.Goals as goal

pub returns-then-not-commits_formed : goal.returns-then-not-commits_formed
returns-then-not-commits_formed c = sym (lent_no _ _ (sym c.commits_formed.ensures ∙ c.if-not-commits_formed.true))

pub returns-then-n-eq0 : goal.returns-then-n-eq0
returns-then-n-eq0 c = sym (page_count_zero c.args.commits.now (sym c.commits_formed.ensures ∙ c.if-not-commits_formed.false) c.args.log c.args.lsn.0 c.if-n-eq0.true)

pub find_commit-requires : goal.find_commit-requires
find_commit-requires c = sym c.commits_formed.ensures ∙ c.if-not-commits_formed.false

pub count_at-requires : goal.count_at-requires
count_at-requires c = (sym c.commits_formed.ensures ∙ c.if-not-commits_formed.false, (place_at_lem c.args.commits.now _ _ c.find_commit.ensures c.in-Some.i c.in-Some.is).1)

pub returns-in-Some : goal.returns-in-Some
returns-in-Some c =
    field_found (λ (x : Commit). x.count) _ (page_count_done c.args.commits.now (sym c.commits_formed.ensures ∙ c.if-not-commits_formed.false) c.args.log c.args.lsn.0 c.if-n-eq0.false) (commit_at c.args.commits.now c.in-Some.i) c.count_at.result (place_at_lem c.args.commits.now _ _ c.find_commit.ensures c.in-Some.i c.in-Some.is).0 c.count_at.ensures

pub returns-in-None : goal.returns-in-None
returns-in-None c =
    field_missing (λ (x : Commit). x.count) _ (page_count_done c.args.commits.now (sym c.commits_formed.ensures ∙ c.if-not-commits_formed.false) c.args.log c.args.lsn.0 c.if-n-eq0.false) (place_missing c.args.commits.now _ _ c.find_commit.ensures c.in-None.is)
