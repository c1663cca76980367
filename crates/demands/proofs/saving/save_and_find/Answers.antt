-- The three calls' promises, one after another, with the types of their arguments.
use Rattle.std.proofs.Common.{◌≡◌, true, ◌&&◌, get_or, arith, w8, Fits, rules}
use Rattle.rules.specs.Forms.{count_form, id_form}
use Rattle.demands.proofs.After.{typed_by}
use Rattle.demands.proofs.Saved.{saved_found}
use Rattle.demands.proofs.saving.save_and_find.Goals as goal

pub returns : goal.returns
returns c =
    -- what the types of the count and of the segment's identifier ensure
    let typed : count_form c.args.count && id_form c.args.sid ≡ true = typed_by c.args.count c.args.sid (omega (arith, c.ranges.count)) (search rules) (λ j. let f : Fits w8 (get_or c.args.sid j 0) = search rules in f.fits) in
    let g = c.args in
    saved_found g.volumes.now g.commits.now g.checkpoints.now g.index.now g.presence.now g.vid.now g.snapshot.now g.count g.sid g.pages.now g.page g.seen.now g.out.now
    (typed) c.sigatuda_save-saved.result _ _ _ _ _ c.sigatuda_save-saved.ensures.leaves _ _ c.sigatuda_snapshot-taken.ensures _ _ c.sigatuda_search-found.ensures
