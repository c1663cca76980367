-- Where the answer is a refusal, the contract has the place as it was.
use Rattle.std.proofs.Common.{◌&&◌}
use Rattle.layout.specs.Records.{commit_bytes}
use Rattle.layout.specs.Tables.{commits_in, commits_ok, index_in, index_ok}
use Rattle.layout.specs.Lent.{lent}
use Rattle.searchcalls.specs.Searches.{search_in}
use Rattle.refusals.proofs.Laws.{maybe_left}
use Rattle.placerefusals.proofs.searchcall.search.Goals as goal

pub returns : goal.returns
returns c =
    let g = c.args in
    maybe_left commit_bytes.spell _ (lent (commits_ok g.commits.now && index_ok g.index.now) (search_in (commits_in g.commits.now) (index_in g.index.now) g.snapshot.now g.page g.out.now)) _ _ c.sigatuda_search.ensures
