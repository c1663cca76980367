-- Where the answer is a refusal, the contract has the list and the number of its items as they were.
use Rattle.layout.specs.Records.{tag_bytes}
use Rattle.layout.specs.Lent.{lent}
use Rattle.resultlists.specs.Lists.{slots_in}
use Rattle.rules.specs.Reads.{tag_list}
use Rattle.layout.specs.Tables.{tags_in, tags_ok}
use Rattle.refusals.proofs.Laws.{list_left_lem}
use Rattle.placerefusals.proofs.listcall.tag_list.Goals as goal

pub returns : goal.returns
returns c = let g = c.args in
    let whole = list_left_lem tag_bytes _ _ _ _ (lent (tags_ok g.tags.now) (tag_list (tags_in g.tags.now) (slots_in tag_bytes g.list.now))) _ c.sigatuda_tag_list.ensures in
    record { as_found = whole.0; as_found_2 = whole.1 }
