-- The call's promise of its table.
use Rattle.keeping.proofs.Calls.{unmark_keeps}
use Rattle.keeping.proofs.pagecall.page_remove.Goals as goal

pub returns : goal.returns
returns c = let g = c.args in
    let whole = unmark_keeps g.presence.now _ g.sid.now g.page c.sigatuda_page_remove.ensures.presence_after in
    record { keeps = whole.0; stays_formed = whole.1 }
