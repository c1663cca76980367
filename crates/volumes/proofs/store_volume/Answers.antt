-- The record where the identifier was found gives way: the law `over_laid`.
use Rattle.std.proofs.Common.{◌≡◌, ℕ, List, ◌∷◌, length, set, sym, refl, ap, ◌∙◌, arith, rules, Ok}
use Rattle.table.specs.Table.{recs, laid}
use Rattle.table.proofs.Ends.{at_in}
use Rattle.table.proofs.Checks.{well_count}
use Rattle.volume.specs.Volumes.{volume_says}
use Rattle.rows.proofs.Rows.{formed_well}
use Rattle.rows.proofs.Stores.{over_laid}
use Rattle.rows.proofs.Tables.{volumes, volume_key_lem}
use Rattle.volumes.proofs.store_volume.Goals as goal

pub overwrite-requires : goal.overwrite-requires
overwrite-requires c =
    (omega arith, at_in 117 17 c.args.t.now (0 ∷ c.args.v.vid) c.args.i (Ok c.args.i) (sym c.requires.t_value_2) refl, well_count 117 17 c.args.t.now (formed_well volumes c.args.t.now c.requires.t_value.0), search rules)

pub returns : goal.returns
returns c =
    -- an identifier is 16 bytes
    let long : length c.args.v.vid ≡ 16 = search rules in
    c.overwrite.ensures
    ∙ ap (λ (r : List ℕ). laid (set (recs 117 c.args.t.now) c.args.i r) c.args.t.now) c.volume_row-row.ensures
    ∙ over_laid volumes c.args.t.now c.requires.t_value.0 (volume_says c.args.v) c.requires.t_value.1 (0 ∷ c.args.v.vid) (volume_key_lem c.args.v.vid (long)) c.args.i c.requires.t_value_2
