-- Where the identifier was found its record goes (`remove_laid`); else the bytes stay (`gap_kept`).
use Rattle.std.proofs.Common.{◌≡◌, ◌∷◌, length, sym, ◌∙◌, arith, rules}
use Rattle.table.proofs.Ends.{at_in}
use Rattle.table.proofs.Checks.{well_count}
use Rattle.rows.proofs.Rows.{formed_well}
use Rattle.rows.proofs.Removals.{remove_laid}
use Rattle.rows.proofs.Spots.{gap_kept}
use Rattle.rows.proofs.Tables.{volumes, volume_key_lem}
use Rattle.volumes.proofs.remove_volume.Goals as goal

pub returns-in_default : goal.returns-in_default
returns-in_default c =
    -- an identifier is 16 bytes
    let long : length c.args.vid ≡ 16 = search rules in
    gap_kept volumes c.args.t.now c.requires (0 ∷ c.args.vid) c.args.vid (volume_key_lem c.args.vid (long)) (λ j. (c.slice_known-1.given j).fits) _ (sym c.find_volume.ensures.place ∙ c.in_default.is)

pub remove-requires : goal.remove-requires
remove-requires c =
    let t = c.args.t.now in
    (omega arith, at_in 117 17 t (0 ∷ c.args.vid) _ _ c.find_volume.ensures.place c.in-Ok.is, well_count 117 17 t (formed_well volumes t c.requires))

pub returns : goal.returns
returns c =
    let long : length c.args.vid ≡ 16 = search rules in
    c.remove.ensures
    ∙ remove_laid volumes c.args.t.now c.requires (0 ∷ c.args.vid) c.args.vid (volume_key_lem c.args.vid (long)) _ (sym c.find_volume.ensures.place ∙ c.in-Ok.is)
