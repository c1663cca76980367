-- The call's promise of the volumes, with the types of the identifiers.
use Rattle.std.proofs.Common.{◌≡◌, true, get_or, w8, Fits, rules}
use Rattle.rules.specs.Forms.{id_form}
use Rattle.layout.proofs.PlaceLaws.{id_form_lem}
use Rattle.opencalls.specs.Opens.{wanted_by, asked, spares}
use Rattle.keeping.proofs.Opening.{open_typed, open_keeps}
use Rattle.keeping.proofs.pushcall.open.Goals as goal

pub returns : goal.returns
returns c =
    -- what the types of the identifiers ensure
    let vid_typed : id_form c.args.vid ≡ true = id_form_lem c.args.vid (search rules) (λ j. let f : Fits w8 (get_or c.args.vid j 0) = search rules in f.fits) in
    let local_typed : id_form c.args.local ≡ true = id_form_lem c.args.local (search rules) (λ j. let f : Fits w8 (get_or c.args.local j 0) = search rules in f.fits) in
    let remote_typed : id_form c.args.remote ≡ true = id_form_lem c.args.remote (search rules) (λ j. let f : Fits w8 (get_or c.args.remote j 0) = search rules in f.fits) in
    let spare_vid_typed : id_form c.args.spare_vid ≡ true = id_form_lem c.args.spare_vid (search rules) (λ j. let f : Fits w8 (get_or c.args.spare_vid j 0) = search rules in f.fits) in
    let spare_local_typed : id_form c.args.spare_local ≡ true = id_form_lem c.args.spare_local (search rules) (λ j. let f : Fits w8 (get_or c.args.spare_local j 0) = search rules in f.fits) in
    let spare_remote_typed : id_form c.args.spare_remote ≡ true = id_form_lem c.args.spare_remote (search rules) (λ j. let f : Fits w8 (get_or c.args.spare_remote j 0) = search rules in f.fits) in
    let g = c.args in
    let v = wanted_by g.has_vid g.vid g.spare_vid in
    let l = wanted_by g.has_local g.local g.spare_local in
    let r = wanted_by g.has_remote g.remote g.spare_remote in
    let whole = open_keeps g.volumes.now _ g.commits.now (asked v l r) (spares v l r) g.out.now
    (open_typed v.asked l.asked r.asked g.vid g.local g.remote g.spare_vid g.spare_local g.spare_remote (vid_typed) (local_typed) (remote_typed) (spare_vid_typed) (spare_local_typed) (spare_remote_typed)) c.sigatuda_open.ensures.volumes_after in
    record { keeps = whole.0; stays_formed = whole.1 }
