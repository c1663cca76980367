-- Where the answer is a refusal, the contract has the list and the number of its items as they were.
use Rattle.layout.specs.Codecs.{number}
use Rattle.layout.specs.Tables.{commits_in, commits_ok}
use Rattle.layout.specs.Lent.{lent}
use Rattle.resultlists.specs.Lists.{slots_in}
use Rattle.rules.specs.Reads.{stored_lsns}
use Rattle.refusals.proofs.Laws.{list_left_lem}
use Rattle.placerefusals.proofs.listcall.stored_lsns.Goals as goal

pub returns : goal.returns
returns c = let g = c.args in
    let whole = list_left_lem (number 8) _ _ _ _ (lent (commits_ok g.commits.now) (stored_lsns (commits_in g.commits.now) (slots_in (number 8) g.list.now) (record { log = g.log.now; start = g.start; end = g.end }))) _ c.sigatuda_stored_lsns.ensures in
    record { as_found = whole.0; as_found_2 = whole.1 }
