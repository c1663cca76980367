-- The call's promise of its table.
use Rattle.keeping.proofs.Calls.{unmark_all_keeps}
use Rattle.keeping.proofs.pagecall.pages_remove.Goals as goal

pub returns : goal.returns
returns c = let g = c.args in
    let whole = unmark_all_keeps g.presence.now _ g.sid.now g.first g.last c.sigatuda_pages_remove.ensures.presence_after in
    record { keeps = whole.0; stays_formed = whole.1 }
