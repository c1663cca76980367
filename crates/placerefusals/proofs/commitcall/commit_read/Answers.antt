-- Where the answer is a refusal, the contract has the place as it was.
use Rattle.layout.specs.Records.{commit_bytes}
use Rattle.rules.specs.Reads.{commit_read}
use Rattle.layout.specs.Tables.{commits_in, commits_ok}
use Rattle.layout.specs.Lent.{lent}
use Rattle.layout.specs.Lent.{sized}
use Rattle.refusals.proofs.Laws.{maybe_left}
use Rattle.placerefusals.proofs.commitcall.commit_read.Goals as goal

pub returns : goal.returns
returns c =
    let g = c.args in
    maybe_left commit_bytes.spell _ (sized 722 g.out.now (lent (commits_ok g.commits.now) (commit_read (commits_in g.commits.now) g.log.now g.lsn))) _ _ c.sigatuda_commit_read.ensures
