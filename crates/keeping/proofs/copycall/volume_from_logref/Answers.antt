-- The call's promise of its four tables, with the types of the new volume's identifiers.
use Rattle.std.proofs.Common.{◌≡◌, true, get_or, w8, Fits, rules}
use Rattle.rules.specs.Forms.{id_form}
use Rattle.layout.proofs.PlaceLaws.{id_form_lem}
use Rattle.rules.proofs.TableLaws.{and_both}
use Rattle.copycalls.specs.Making.{ids}
use Rattle.keeping.proofs.Copies.{logref_keeps}
use Rattle.keeping.proofs.copycall.volume_from_logref.Goals as goal

pub returns : goal.returns
returns c =
    -- what the types of the identifiers ensure
    let vid_typed : id_form c.args.vid ≡ true = id_form_lem c.args.vid (search rules) (λ j. let f : Fits w8 (get_or c.args.vid j 0) = search rules in f.fits) in
    let local_typed : id_form c.args.local ≡ true = id_form_lem c.args.local (search rules) (λ j. let f : Fits w8 (get_or c.args.local j 0) = search rules in f.fits) in
    let remote_typed : id_form c.args.remote ≡ true = id_form_lem c.args.remote (search rules) (λ j. let f : Fits w8 (get_or c.args.remote j 0) = search rules in f.fits) in
    let g = c.args in
    let whole = logref_keeps g.volumes.now g.commits.now g.checkpoints.now g.index.now g.out.now _ _ _ _ _ (ids g.vid g.local g.remote) (and_both (and_both (vid_typed) (local_typed)) (remote_typed)) _ g.log.now g.lsn _ c.sigatuda_volume_from_logref.ensures in
    record { keeps = whole.0; stays_formed = whole.1.0; logs_stay_formed = whole.1.1.0; stays_exact = whole.1.1.1 }
