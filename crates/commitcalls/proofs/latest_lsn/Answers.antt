-- `commitcalls::latest_lsn` meets its contract: 20, then the LSN of the record that `latest` finds.
use Rattle.std.proofs.Common.{sym, ◌∙◌}
use Rattle.rules.specs.Records.{Commit}
use Rattle.commits.specs.Places.{commit_at}
use Rattle.commits.proofs.LookLaws.{place_at_lem, place_missing}
use Rattle.layout.proofs.LentLaws.{lent_no}
use Rattle.commitcalls.proofs.CallLaws.{latest_lsn_done, field_found, field_missing}
use Rattle.commitcalls.proofs.latest_lsn.Goals as goal

pub returns-then-not-commits_formed : goal.returns-then-not-commits_formed
returns-then-not-commits_formed c = sym (lent_no _ _ (sym c.commits_formed.ensures ∙ c.if-not-commits_formed.true))

pub latest-requires : goal.latest-requires
latest-requires c = sym c.commits_formed.ensures ∙ c.if-not-commits_formed.false

pub lsn_at-requires : goal.lsn_at-requires
lsn_at-requires c = (sym c.commits_formed.ensures ∙ c.if-not-commits_formed.false, (place_at_lem c.args.commits.now _ _ c.latest.ensures c.in-Some.i c.in-Some.is).1)

pub returns-in-Some : goal.returns-in-Some
returns-in-Some c =
    field_found (λ (x : Commit). x.lsn) _ (latest_lsn_done c.args.commits.now (sym c.commits_formed.ensures ∙ c.if-not-commits_formed.false) c.args.log) (commit_at c.args.commits.now c.in-Some.i) c.lsn_at.result (place_at_lem c.args.commits.now _ _ c.latest.ensures c.in-Some.i c.in-Some.is).0 c.lsn_at.ensures

pub returns-in-None : goal.returns-in-None
returns-in-None c =
    field_missing (λ (x : Commit). x.lsn) _ (latest_lsn_done c.args.commits.now (sym c.commits_formed.ensures ∙ c.if-not-commits_formed.false) c.args.log) (place_missing c.args.commits.now _ _ c.latest.ensures c.in-None.is)
