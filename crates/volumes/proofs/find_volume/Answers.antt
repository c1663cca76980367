-- The spot of the key is the place of the identifier: the law `spot_found`.
use Rattle.std.proofs.Common.{◌≡◌, ℕ, List, ◌∷◌, length, ap, ◌∙◌, arith, rules}
use Rattle.table.specs.Records.{spot}
use Rattle.table.specs.Table.{recs}
use Rattle.rows.proofs.Rows.{formed_well}
use Rattle.rows.proofs.Spots.{spot_found}
use Rattle.rows.proofs.Tables.{volumes, volume_key_lem}
use Rattle.volumes.proofs.find_volume.Goals as goal

pub find-requires : goal.find-requires
find-requires c = record { stride_nonzero = (omega arith, omega arith, omega arith); t_value = formed_well volumes c.args.t.now c.requires }

pub returns : goal.returns
returns c =
    -- an identifier is 16 bytes
    let long : length c.args.vid ≡ 16 = search rules in
    spot_found volumes c.args.t.now c.requires (0 ∷ c.args.vid) c.args.vid (volume_key_lem c.args.vid (long)) _ (c.find.ensures ∙ ap (λ (k : List ℕ). spot 17 k (recs 117 c.args.t.now)) c.volume_key-key.ensures)
