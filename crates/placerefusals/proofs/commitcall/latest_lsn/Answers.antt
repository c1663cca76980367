-- Where the answer is a refusal, the contract has the place as it was.
use Rattle.std.proofs.Common.{ℕ}
use Rattle.layout.specs.Tables.{commits_in, commits_ok}
use Rattle.rules.specs.Reads.{latest_lsn_read}
use Rattle.layout.specs.Lent.{lent}
use Rattle.refusals.proofs.Laws.{maybe_left}
use Rattle.placerefusals.proofs.commitcall.latest_lsn.Goals as goal

pub returns : goal.returns
returns c =
    let g = c.args in
    maybe_left (λ (m : ℕ). m) _ (lent (commits_ok g.commits.now) (latest_lsn_read (commits_in g.commits.now) g.log.now)) _ _ c.sigatuda_latest_lsn.ensures
