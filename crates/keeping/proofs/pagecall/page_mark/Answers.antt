-- The call's promise of its table, with the types of its arguments.
use Rattle.std.proofs.Common.{◌≡◌, true, get_or, arith, w8, Fits, rules}
use Rattle.rules.specs.Calls.{marking, typed}
use Rattle.keeping.proofs.Rules.{mark_typed}
use Rattle.keeping.proofs.Calls.{mark_keeps}
use Rattle.keeping.proofs.pagecall.page_mark.Goals as goal

pub returns : goal.returns
returns c =
    let types : typed (marking c.args.sid c.args.page) ≡ true = mark_typed c.args.sid c.args.page (search rules) (λ j. let f : Fits w8 (get_or c.args.sid j 0) = search rules in f.fits) (omega (arith, c.ranges.page)) in
    let g = c.args in
    let whole = mark_keeps g.presence.now _ g.sid g.page (types) c.sigatuda_page_mark.ensures.presence_after in
    record { keeps = whole.0; stays_formed = whole.1 }
