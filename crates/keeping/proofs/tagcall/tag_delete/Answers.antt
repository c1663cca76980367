-- The call's promise of its table.
use Rattle.keeping.proofs.Calls.{delete_tag_keeps}
use Rattle.keeping.proofs.tagcall.tag_delete.Goals as goal

pub returns : goal.returns
returns c = let g = c.args in
    let whole = delete_tag_keeps g.tags.now _ g.name.now c.sigatuda_tag_delete.ensures.tags_after in
    record { keeps = whole.0; stays_formed = whole.1 }
