-- Where the answer is a refusal, the contract has the place as it was.
use Rattle.rules.specs.Records.{Id}
use Rattle.layout.specs.Lent.{lent}
use Rattle.rules.specs.Reads.{tag_read}
use Rattle.layout.specs.Tables.{tags_in, tags_ok}
use Rattle.refusals.proofs.Laws.{maybe_left}
use Rattle.placerefusals.proofs.tagcall.tag_read.Goals as goal

pub returns : goal.returns
returns c =
    let g = c.args in
    maybe_left (λ (v : Id). v) _ (lent (tags_ok g.tags.now) (tag_read (tags_in g.tags.now) g.name.now)) _ _ c.sigatuda_tag_read.ensures
