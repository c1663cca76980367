-- The call's promise, with the types of its arguments.
use Rattle.std.proofs.Common.{◌≡◌, true, ◌&&◌, get_or, arith, w8, Fits, rules}
use Rattle.rules.specs.Forms.{count_form, id_form}
use Rattle.demands.proofs.After.{typed_by}
use Rattle.demands.proofs.Frame.{save_keeps}
use Rattle.demands.proofs.saving.save.Goals as goal

pub returns : goal.returns
returns c =
    -- what the types of the count and of the segment's identifier ensure
    let typed : count_form c.args.count && id_form c.args.sid ≡ true = typed_by c.args.count c.args.sid (omega (arith, c.ranges.count)) (search rules) (λ j. let f : Fits w8 (get_or c.args.sid j 0) = search rules in f.fits) in
    let g = c.args in
    let whole = save_keeps g.volumes.now g.commits.now g.checkpoints.now g.index.now g.presence.now g.vid.now g.snapshot.now g.count g.sid g.pages.now g.out.now
    (typed) _ _ _ _ _ _ c.sigatuda_save.ensures.value c.sigatuda_save.ensures.leaves in
    record { keeps = whole.0; logs_stay_formed = whole.1.0; stays_formed = whole.1.1.0; stays_exact = whole.1.1.1 }
