-- The call's promise of its table, with the types of its arguments.
use Rattle.std.proofs.Common.{◌≡◌, true, get_or, arith, w8, Fits, rules}
use Rattle.rules.specs.Records.{Pending}
use Rattle.rules.specs.Calls.{preparing, typed}
use Rattle.keeping.proofs.Rules.{prepare_typed}
use Rattle.keeping.proofs.Calls.{prepare_keeps}
use Rattle.keeping.proofs.synccall.prepare.Goals as goal

pub returns : goal.returns
returns c =
    -- the pending commit that is asked for
    let asked : Pending = record { local = c.args.local; commit = c.args.commit; hash = c.args.hash } in
    let types : typed (preparing c.args.vid.now (asked)) ≡ true = prepare_typed c.args.vid.now (asked) (omega (arith, c.ranges.local)) (omega (arith, c.ranges.commit)) (search rules) (λ j. let f : Fits w8 (get_or c.args.hash j 0) = search rules in f.fits) in
    let g = c.args in
    let whole = prepare_keeps g.volumes.now _ g.vid.now g.commits.now (asked) (types) c.sigatuda_prepare.ensures.volumes_after in
    record { keeps = whole.0; stays_formed = whole.1 }
